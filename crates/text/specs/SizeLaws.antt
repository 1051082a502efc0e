-- A written size passed over: each way of the cursor is the way of the parser.
use Rattle.language.specs.declared.refusals.Refusal.{Refusal}
use Rattle.std.specs.Prelude.{Ok, Err}
use Prim.Native.Nat.{ℕ, zero, suc, ◌-◌, ◌<◌}
use Rattle.std.specs.Prelude.{List, ◌≡◌, refl}
use Rattle.std.proofs.Math.Bool.{true, false}
use Rattle.std.proofs.Math.Option.{some}
use Rattle.std.proofs.Math.Path.{ap}
use Rattle.std.proofs.Common.{◌∙◌, arith}
use Rattle.std.proofs.Math.ListN.{get_elem? as look}
use Rattle.language.specs.Limits.{byte_range}
use Rattle.language.specs.Syntax.{Size, lit, svar, plus, minus}
use Rattle.language.specs.Parser.{Read, got, bad, Parser, and_then, refuse, byte, index, code_in}
use Rattle.language.specs.ReadExpr.{SizeForm, lit_size, var_size, plus_size, minus_size, size_forms, size_behind, size_at}
use Rattle.text.specs.declared.Cursor.{Cursor}
use Rattle.text.specs.declared.Found.{Found}
use Rattle.text.specs.Bytes.{Number, Step, bytes_from, forget, step_of, ReadsNumber, Passes, Below}
use Rattle.text.specs.Codes.{place_in}
use Rattle.text.specs.StepLaws.{number-moved, pass-none, passes-behind, pass-then-pass, pass-stops-pass, forget-then, read-ends-pass}
use Rattle.text.specs.CodeLaws.{code-in-then, code-in-stops, code-in-below, no_room}

-- where a level is left, the size within has one less
over : (levels : ℕ) → (levels ≡ 0 → ⊥) → levels ≡ suc (levels - 1)
over zero h = absurd (h refl)
over (suc n) h = omega arith

size-open : (levels vars : ℕ) (bs : List ℕ) → (levels ≡ 0 → ⊥) → size_at levels vars bs ≡ and_then (code_in true 0x01 size_forms bs) (size_behind vars (size_at (levels - 1) vars))
unfolding size_at
size-open levels vars bs h = ap (λ n. size_at n vars bs) (over levels h)

-- a sum and a difference are passed over alike: two sizes
two-forgot : (inner : Parser Size) (g : Size → Size → Size) (y : Read Size) → forget (and_then y (λ a bs. and_then (inner bs) (λ b cs. got (g a b) cs))) ≡ forget (and_then y (λ a. inner))
unfolding forget and_then
two-forgot inner g (got a bs) = forget-then (g a) (inner bs)
two-forgot inner g (bad n) = refl

module _ (line : List ℕ) (at vars levels : ℕ) {x : Number} where
  pub size-too-deep : {s : Step} → levels ≡ 0 → ReadsNumber line at x (place_in false 0x01 4 (bytes_from line at)) × Below byte_range x → s ≡ step_of x → Passes line at s (forget (size_at levels vars (bytes_from line at)))
  unfolding size_at forget
  size-too-deep {s} z v d = rw z (by_answer x refl)
    where
      by_answer : (w : Number) → x ≡ w → Passes line at s (forget (size_at 0 vars (bytes_from line at)))
      by_answer (Ok f) e = absurd (no_room 0x01 4 v.0 e)
      by_answer (Err n) e = pass-none e d (ap forget (code-in-stops false 0x01 size_forms (λ _. refuse 7) v.0 e))

module _ (line : List ℕ) (at vars levels : ℕ) {x : Number} (h : levels ≡ 0 → ⊥) (v : ReadsNumber line at x (place_in true 0x01 4 (bytes_from line at)) × Below byte_range x) where
  abbrev inner : Parser Size
  inner = size_at (levels - 1) vars

  pub size-no-code : {n : Refusal} {s : Step} → x ≡ Err n → s ≡ step_of x → Passes line at s (forget (size_at levels vars (bytes_from line at)))
  unfolding forget
  size-no-code e d = pass-none e d (ap forget (size-open levels vars _ h ∙ code-in-stops true 0x01 size_forms (size_behind vars inner) v.0 e))

  size-form : {f : Found} {i : ℕ} (form : SizeForm) → x ≡ Ok f → f.value ≡ i → look size_forms i ≡ some form → size_at levels vars (bytes_from line at) ≡ size_behind vars inner form (bytes_from line f.next.at)
  size-form form e q p = size-open levels vars _ h ∙ code-in-then true 0x01 size_forms (size_behind vars inner) v.0 form e q p

  pub size-literal : {f : Found} {w : Number} {s : Step} → x ≡ Ok f → f.value ≡ 0 → ReadsNumber line f.next.at w (byte (bytes_from line f.next.at)) × Below byte_range w → s ≡ step_of w → Passes line at s (forget (size_at levels vars (bytes_from line at)))
  unfolding size_behind
  size-literal e q u d = passes-behind (number-moved v.0 e) (ap forget (size-form lit_size e q refl)) (read-ends-pass lit u.0 d)

  pub size-variable : {f : Found} {w : Number} {s : Step} → x ≡ Ok f → f.value ≡ 1 → ReadsNumber line f.next.at w (index vars (bytes_from line f.next.at)) × Below byte_range w → s ≡ step_of w → Passes line at s (forget (size_at levels vars (bytes_from line at)))
  unfolding size_behind
  size-variable e q u d = passes-behind (number-moved v.0 e) (ap forget (size-form var_size e q refl)) (read-ends-pass svar u.0 d)

  -- neither a literal nor a variable
  module _ {f : Found} (e : x ≡ Ok f) (no_lit : f.value ≡ 0 → ⊥) (no-var : f.value ≡ 1 → ⊥) where
    two-form : (i : ℕ) → f.value ≡ i → i < 4 → forget (size_at levels vars (bytes_from line at)) ≡ forget (and_then (inner (bytes_from line f.next.at)) (λ a. inner))
    unfolding size_behind
    two-form zero q less = absurd (no_lit q)
    two-form (suc zero) q less = absurd (no-var q)
    two-form (suc (suc zero)) q less = ap forget (size-form plus_size e q refl) ∙ two-forgot inner plus _
    two-form (suc (suc (suc zero))) q less = ap forget (size-form minus_size e q refl) ∙ two-forgot inner minus _
    two-form (suc (suc (suc (suc i)))) q less = absurd (omega arith)

    two-sizes : {s : Step} → Passes line f.next.at s (forget (and_then (inner (bytes_from line f.next.at)) (λ a. inner))) → Passes line at s (forget (size_at levels vars (bytes_from line at)))
    two-sizes u = passes-behind (number-moved v.0 e) (two-form f.value refl (code-in-below true 0x01 size_forms v.0 e)) u

    module _ {y : Step} (u : Passes line f.next.at y (forget (size_at (levels - 1) vars (bytes_from line f.next.at)))) where
      pub size-first-stops : {n : Refusal} → y ≡ Err n → Passes line at y (forget (size_at levels vars (bytes_from line at)))
      size-first-stops d = two-sizes (pass-stops-pass _ (λ a. inner) u d)

      pub size-both : {c : Cursor} {s : Step} → y ≡ Ok c → Passes line c.at s (forget (size_at (levels - 1) vars (bytes_from line c.at))) → Passes line at s (forget (size_at levels vars (bytes_from line at)))
      size-both d w = two-sizes (pass-then-pass _ (λ a. inner) u d (λ a. w))
