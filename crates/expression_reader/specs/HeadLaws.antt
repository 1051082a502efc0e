-- The head of an expression: its code, and what stands behind it up to its parts.
use Rattle.language.specs.RefusalNumbers.{number_of}
use Rattle.language.specs.declared.refusals.Refusal.{Refusal}
use Rattle.std.specs.Prelude.{Ok, Err}
use Prim.Native.Nat.{ℕ, zero, suc, ◌+◌, ◌*◌, ◌-◌, ◌≤◌, ◌<◌}
use Rattle.std.specs.Prelude.{List, [], ◌∷◌, Bool, ◌⊎◌, length, ltb, leb}
use Rattle.std.proofs.Math.Bool.{true, false}
use Rattle.std.proofs.Math.Path.{◌≡◌, refl, subst}
use Rattle.std.proofs.Common.{sym, ap, inl, inr, lt_of_le_of_lt, lt-ltb}
use native.Mathlib.Omega.{arith}
use Rattle.language.specs.Limits.{byte_range}
use Rattle.language.specs.Result.{both}
use Rattle.language.specs.Scope.{Scope}
use Rattle.language.specs.Parser.{Read, got, bad, and_then, must, return, refuse, byte}
use Rattle.language.specs.ReadExpr.{bool_form, forms, expr_at}
use Rattle.text.specs.declared.Cursor.{Cursor}
use Rattle.text.specs.declared.Found.{Found}
use Rattle.text.specs.Bytes.{Number, bytes_from, IsPlace, bytes_left, step_of, ReadsNumber, Below}
use Rattle.text.specs.Codes.{code_place, place_in}
use Rattle.text.specs.CodeLaws.{no_room, code-in-then, code-in-stops, code-in-below}
use Rattle.text.specs.StepLaws.{moved_on, moved-left, ends-within, number-got, number-moved, number-none, reads-behind}
use Rattle.theory.specs.Places.{look_at, equal_or_not}
use Rattle.expression_reader.specs.declared.Names.{Names}
use Rattle.expression_reader.specs.Weights.{level_weight, behind_rank, head_rank}
use Rattle.expression_reader.specs.Parts.{parts, head_at_of}
use Rattle.expression_reader.specs.Follows.{Tells, Opens, Heads, Roomy, form_at}
use Rattle.expression_reader.specs.ScopeLaws.{tells-roomy}

-- ---- a code takes a byte
one_byte : (b : Bool) (n : ℕ) (bs : List ℕ) {i : ℕ} {cs : List ℕ} → must b 5 (return n) bs ≡ got i cs → cs ≡ bs
unfolding must
one_byte true n bs e = cc
one_byte false n bs e = absurd (let z : ◌≡◌ {A = ℕ} 0 1 = cc in omega arith)

code-shorter : (first size : ℕ) (bs : List ℕ) {i : ℕ} {cs : List ℕ} → code_place first size bs ≡ got i cs → length bs ≡ suc (length cs)
unfolding code_place byte and_then
code-shorter first size [] e = absurd (let z : ◌≡◌ {A = ℕ} 0 1 = cc in omega arith)
code-shorter first size (b ∷ bs) e = ap (λ l. suc (length l)) (sym (one_byte (both (leb first b) (ltb (b - first) size)) (b - first) bs e))

room-same : (room : Bool) (y : Read ℕ) {i : ℕ} {cs : List ℕ} → and_then y (λ n. must room 7 (return n)) ≡ got i cs → y ≡ got i cs
unfolding and_then must
room-same true (got n bs) e = e
room-same false (got n bs) e = absurd (let z : ◌≡◌ {A = ℕ} 0 1 = cc in omega arith)
room-same room (bad n) e = absurd (let z : ◌≡◌ {A = ℕ} 0 1 = cc in omega arith)

place-shorter : (room : Bool) (first size : ℕ) (bs : List ℕ) {i : ℕ} {cs : List ℕ} → place_in room first size bs ≡ got i cs → length bs ≡ suc (length cs)
unfolding place_in
place-shorter room first size bs e = code-shorter first size bs (room-same room (code_place first size bs) e)

-- ---- the code, with so many levels left
module _ (line : List ℕ) (c : Cursor) (levels : ℕ) {x : Number} (v : ReadsNumber line c.at x (place_in (ltb 0 levels) 16 13 (bytes_from line c.at)) × Below byte_range x) where
  pub code-level : {f : Found} → x ≡ Ok f → 0 < levels
  code-level {f} e = by levels v.0
    where
      by : (n : ℕ) → ReadsNumber line c.at x (place_in (ltb 0 n) 16 13 (bytes_from line c.at)) → 0 < n
      by zero w = absurd (no_room 16 13 w e)
      by (suc n) w = omega arith

  pub code-form : {f : Found} → x ≡ Ok f → f.value < 13
  code-form e = code-in-below (ltb 0 levels) 16 forms v.0 e

  code-fewer : {f : Found} → x ≡ Ok f → bytes_left line f.next.at < bytes_left line c.at
  code-fewer {f} e = omega (arith, place-shorter (ltb 0 levels) 16 13 (bytes_from line c.at) (number-got v.0 e))

module _ (line index : List ℕ) (c : Cursor) (s : Names) (levels : ℕ) {x : Number} (v : ReadsNumber line c.at x (place_in (ltb 0 levels) 16 13 (bytes_from line c.at)) × Below byte_range x) (room : 0 < levels → Roomy s) where
  -- no code: refused as the definition refuses
  pub head-none : {n : Refusal} → x ≡ Err n → Heads line index c s x levels
  unfolding head_at_of
  head-none {n} e = record {
    says = λ S t here. number-none v.0 e (by S t levels room v.0);
    further = λ h. absurd (let z : ◌≡◌ {A = ℕ} 0 1 = cc in omega arith);
    level = λ h. absurd (let z : ◌≡◌ {A = ℕ} 0 1 = cc in omega arith);
  }
    where
      by : (S : Scope) → Tells index s S → (m : ℕ) → (0 < m → Roomy s) → ReadsNumber line c.at x (place_in (ltb 0 m) 16 13 (bytes_from line c.at)) → head_at_of m S (bytes_from line c.at) ≡ bad (number_of n)
      by S t zero w r = code-in-stops false 16 forms (λ form. refuse 7) r e
      by S t (suc m) w r = rw (tells-roomy t (w (omega arith))) (code-in-stops true 16 forms (λ form. parts (expr_at m) S form) (rw (lt-ltb 0 (suc m) (omega arith)) at r) e)

  module _ {f : Found} (e : x ≡ Ok f) {r : Number} (u : Opens line index f.next s r (λ S. parts (expr_at (levels - 1)) S (form_at f.value))) where
    head-is : (S : Scope) → Tells index s S → head_at_of levels S (bytes_from line c.at) ≡ parts (expr_at (levels - 1)) S (form_at f.value) (bytes_from line f.next.at)
    unfolding head_at_of
    head-is S t = by levels room v.0 (code-level line c levels v e)
      where
        by : (m : ℕ) → (0 < m → Roomy s) → ReadsNumber line c.at x (place_in (ltb 0 m) 16 13 (bytes_from line c.at)) → 0 < m → head_at_of m S (bytes_from line c.at) ≡ parts (expr_at (m - 1)) S (form_at f.value) (bytes_from line f.next.at)
        by zero w h pos = absurd (omega arith)
        by (suc m) w h pos =
            let same : suc m - 1 ≡ m = omega arith in
            let k = rw (lt-ltb 0 (suc m) (omega arith)) at h in
            subst (λ l. head_at_of (suc m) S (bytes_from line c.at) ≡ parts (expr_at l) S (form_at f.value) (bytes_from line f.next.at)) (sym same)
            (rw (tells-roomy t (w (omega arith))) (code-in-then true 16 forms (λ form. parts (expr_at m) S form) k (form_at f.value) e refl (look_at forms f.value bool_form (code-in-below true 16 forms k e))))

    next-within : IsPlace line f.next.at
    next-within = ends-within (number-moved v.0 e)

    pub head_done : Heads line index c s r levels
    head_done = record {
      says = λ S t here. reads-behind (number-moved v.0 e) (head-is S t) (u.says S t next-within);
      further = λ h. let m = rw (ap step_of h) at (u.on next-within) in (moved_on (number-moved v.0 e) m, lt_of_le_of_lt (moved-left m) (code-fewer line c levels v e));
      level = λ h. code-level line c levels v e;
    }

-- ---- the forms that are none of the others: `13`, `14` and the last
abbrev Others : ℕ → Type 0
Others form = (((((((((Unit {0} × (form ≡ 0 → ⊥)) × (form ≡ 1 → ⊥)) × (form ≡ 2 → ⊥)) × (form ≡ 5 → ⊥)) × (form ≡ 6 → ⊥)) × (form ≡ 7 → ⊥)) × (form ≡ 8 → ⊥)) × (form ≡ 9 → ⊥)) × (form ≡ 10 → ⊥)) × (form ≡ 11 → ⊥)

above : {n : ℕ} (form : ℕ) → n ≤ form → (form ≡ n → ⊥) → suc n ≤ form
above form le other = omega arith

three-or-four : (n : ℕ) → 3 ≤ n → n < 5 → (n ≡ 3) ⊎ (n ≡ 4)
three-or-four n p q = equal_or_not n 3 inl (λ other. inr (omega arith))

one_left : (n : ℕ) → 12 ≤ n → n < 13 → n ≡ 12
one_left n p q = omega arith

pub channel-form : (form : ℕ) → form < 5 → Others form → (form ≡ 3) ⊎ (form ≡ 4)
channel-form form less others = three-or-four form (above form (above form (above form (omega arith) others.0.0.0.0.0.0.0.0.0.1) others.0.0.0.0.0.0.0.0.1) others.0.0.0.0.0.0.0.1) less

pub last-form : (form : ℕ) → form < 13 → 5 ≤ form → Others form → form ≡ 12
last-form form less le others = one_left form (above form (above form (above form (above form (above form (above form (above form le others.0.0.0.0.0.0.1) others.0.0.0.0.0.1) others.0.0.0.0.1) others.0.0.0.1) others.0.0.1) others.0.1) others.1) less

-- fewer levels, whatever the place in the cycle
pub fewer-levels : {t levels : ℕ} → levels * level_weight + head_rank ≡ t → 0 < levels → (levels - 1) * level_weight + behind_rank < t
fewer-levels e pos = omega arith
