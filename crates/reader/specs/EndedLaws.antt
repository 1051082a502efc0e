-- The end of a frame: its bytes end there, or it is refused with 4.
use Rattle.language.specs.declared.refusals.Refusal.{Refusal}
use Rattle.language.specs.declared.refusals.Refusal.TheVariants.{BadLength}
use Rattle.language.specs.RefusalNumbers.{number_of}
use Rattle.std.specs.Prelude.{Ok, Err}
use Rattle.std.specs.Prelude.{ℕ, ◌≤◌, ◌<◌, List, [], ◌∷◌, Bool, true, false, ◌≡◌, refl, length, ltb}
use Rattle.std.proofs.Math.Path.{sym}
use Rattle.std.proofs.Common.{ap, ◌∙◌, arith, ltb-true, ltb-false}
use Rattle.language.specs.Refusals.{bad_length}
use Rattle.language.specs.Result.{ok, no, choose}
use Rattle.language.specs.Parser.{Read, got}
use Rattle.language.specs.Reader.{whole}
use Rattle.text.specs.declared.Cursor.{Cursor}
use Rattle.text.specs.Bytes.{Step, bytes_from, bytes_left, forget, Passes}
use Rattle.text.specs.StepLaws.{pass-got, pass-bad}
use Rattle.index.specs.declared.Counts.{Counts}
use Rattle.reader.specs.Frames.{Frame, kind_end, ended_as}

-- ---- the end of a frame
pub ended-stops : (line : List ℕ) (n : Counts) {r : Step} {x : Frame} {k : Refusal} → r ≡ Err k → x ≡ Err k → x ≡ ended_as line r n
ended-stops line n e o = o ∙ sym (ap (λ s. ended_as line s n) e)

pub ended-behind : (line : List ℕ) (n : Counts) {r : Step} {x : Frame} {c : Cursor} → r ≡ Ok c → x ≡ ended_as line (Ok c) n → x ≡ ended_as line r n
ended-behind line n e o = o ∙ sym (ap (λ s. ended_as line s n) e)

module _ (line : List ℕ) (n : Counts) (c : Cursor) {more : Bool} (is : more ≡ ltb 0 (bytes_left line c.at)) where
  pub ended-goes-on : more ≡ true → Err BadLength ≡ ended_as line (Ok c) n
  unfolding choose
  ended-goes-on q = rw (sym is ∙ q)

  pub ended-there : more ≡ false → Ok n ≡ ended_as line (Ok c) n
  unfolding choose
  ended-there q = rw (sym is ∙ q)

pub data Ended {A : Type 0} (frame : ℕ) (y : Read A) (n : Counts) (x : Frame) : Type 0 where
  stops : {k : Refusal} → x ≡ Err k → whole frame y ≡ no (number_of k) frame → Ended frame y n x
  ends : {a : A} {rest : List ℕ} → x ≡ Ok n → y ≡ got a rest → whole frame y ≡ ok a → Ended frame y n x

goes_on : {A : Type 0} (frame : ℕ) (a : A) (l : List ℕ) → 0 < length l → whole frame (got a l) ≡ no bad_length frame
unfolding whole
goes_on frame a [] h = absurd (omega arith)
goes_on frame a (b ∷ l) h = refl

nothing_left : (l : List ℕ) → length l ≤ 0 → l ≡ []
nothing_left [] h = refl
nothing_left (b ∷ l) h = absurd (omega arith)

stays : {A : Type 0} (frame : ℕ) (a : A) (l : List ℕ) → l ≡ [] → whole frame (got a l) ≡ ok a
unfolding whole
stays frame a l e = rw e

pub ended_is : {A : Type 0} {line : List ℕ} {n : Counts} {x : Frame} (frame : ℕ) (y : Read A) (r : Step) → Passes line (kind_end line) r (forget y) → x ≡ ended_as line r n → Ended frame y n x
unfolding whole choose
ended_is frame y (Err k) p e = stops e (ap (whole frame) (pass-bad p refl))
ended_is {A} {line} {n} {x} frame y (Ok c) p e = by (ltb 0 (bytes_left line c.at)) refl
  where
    by : (b : Bool) → ltb 0 (bytes_left line c.at) ≡ b → Ended frame y n x
    by true t = let g = pass-got p refl in
        stops (e ∙ ap (λ b. choose b (Err BadLength) (Ok n)) t) (ap (whole frame) g.is ∙ goes_on frame g.value (bytes_from line c.at) (ltb-true 0 (bytes_left line c.at) t))
    by false t = let g = pass-got p refl in
        ends (e ∙ ap (λ b. choose b (Err BadLength) (Ok n)) t) g.is (ap (whole frame) g.is ∙ stays frame g.value (bytes_from line c.at) (nothing_left (bytes_from line c.at) (ltb-false 0 (bytes_left line c.at) t)))
