-- Where a cursor stands behind what was read: as many bytes further on as its spelling has.
use Rattle.std.specs.Prelude.{Ok}
use Rattle.std.specs.Prelude.{ℕ, ◌≤◌, List, ◌≡◌, length, drop}
use Rattle.std.proofs.Common.{sym, ap, ◌∙◌, subst, arith, length-append}
use Rattle.std.proofs.Math.Seq.{drop-append_seam}
use Rattle.language.specs.Parser.{Read, got, Parser}
use Rattle.text.specs.declared.Cursor.{Cursor}
use Rattle.text.specs.Bytes.{bytes_from, past, bytes_left, Moved}
use Rattle.text.specs.Places.{from-small, bytes_past}
use Rattle.text.specs.StepLaws.{moved-past}
use Rattle.theory.specs.Outcomes.{Reads, reads_got, reads_bad}
use Rattle.theory.specs.Exact.{Starts, Exact}

started : {A : Type 0} {Q : A → List ℕ → Type 0} {y : Read A} {a : A} {rest : List ℕ} → Reads Q y → y ≡ got a rest → Q a rest
started {Q} {a} {rest} (reads_got {a = b} {rest = l} q) e =
    let value : b ≡ a = cc in
    let left : l ≡ rest = cc in
    subst (λ x. Q x rest) value (subst (λ x. Q b x) left q)
started reads_bad e = absurd (let z : ◌≡◌ {A = ℕ} 0 1 = cc in omega arith)

-- what was read is spelled where it was read
pub read-spelled : {A : Type 0} {p : Parser A} {bytes : A → List ℕ} {W : A → Type 0} (x : Exact p bytes W) (line : List ℕ) (at : ℕ) {a : A} {rest : List ℕ} → p (bytes_from line at) ≡ got a rest → Starts bytes W (bytes_from line at) a rest
read-spelled x line at e = started (x.forth.reads (bytes_from line at) (from-small line at)) e

-- a cursor that moved stands behind what was read
pub place-behind : {A : Type 0} {p : Parser A} {bytes : A → List ℕ} {W : A → Type 0} (x : Exact p bytes W) {line : List ℕ} {at : ℕ} {c : Cursor} {a : A} → Moved line at (Ok c) →
    p (bytes_from line at) ≡ got a (bytes_from line c.at) → c.at ≡ past line at (length (bytes a))
place-behind {bytes} x {line} {at} {c} {a} m e =
    let s = read-spelled x line at e in
    let enough : length (bytes a) ≤ bytes_left line at = omega (arith, ap length s.spelled, length-append (bytes a) (bytes_from line c.at)) in
    moved-past (length (bytes a)) m enough (sym (bytes_past line at (length (bytes a)) ∙ ap (drop (length (bytes a))) s.spelled ∙ drop-append_seam (bytes a) (bytes_from line c.at)))
