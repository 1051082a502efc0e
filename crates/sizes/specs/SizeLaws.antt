-- Bytes, variables and sizes, return by return: what is worked out is what the written size says.
use Rattle.language.specs.declared.refusals.Refusal.{Refusal}
use Rattle.std.specs.Prelude.{Ok, Err}
use Rattle.std.specs.Result.{result_unwrap_or}
use Prim.Native.Nat.{ℕ, zero, suc, ◌+◌, ◌-◌, ◌*◌, ◌^◌, ◌<◌, ◌≤◌}
use Rattle.std.specs.Prelude.{List, [], ◌∷◌, ◌≡◌, refl, length}
use Rattle.std.proofs.Math.Path.{sym, ap, ap₂}
use Rattle.std.proofs.Common.{◌∙◌, subst, lt_of_lt_of_le}
use native.Mathlib.Omega.{arith}
use Rattle.std.proofs.Math.Nat.{two-pow-succ, pow-le-pow_right}
use Rattle.std.proofs.Math.ListN.{get_or, get_or-eq_default}
use Rattle.language.specs.Limits.{byte_range, nesting_most}
use Rattle.language.specs.Syntax.{Size, svar, plus, minus}
use Rattle.language.specs.Format.{size_bytes}
use Rattle.language.specs.Within.{WithinSize, w_plus, w_minus}
use Rattle.language.specs.Sizes.{added, taken}
use Rattle.language.specs.Parser.{got, bad, byte}
use Rattle.theory.specs.Places.{one_less}
use Rattle.text.specs.declared.Cursor.{Cursor}
use Rattle.text.specs.declared.Found.{Found}
use Rattle.text.specs.Bytes.{Number, bytes_from, past, byte_at, ReadsNumber, Below, below}
use Rattle.text.specs.Places.{past-past, past_end}
use Rattle.text.specs.StepLaws.{number-got, number-bad}
use Rattle.encoding.specs.Spells.{Spells, IsLeaf}
use Rattle.encoding.specs.TypeInversions.{OfTwoSizes, SizeCoded, lit_coded, svar_coded, plus_coded, minus_coded, size-of-byte, lit-spelled, plus-spelled}
use Rattle.encoding.specs.CursorSpells.{byte-is}
use Rattle.sizes.specs.declared.Worked.{Worked}
use Rattle.sizes.specs.Promises.{Reads, Told, IsWorked, WorksOut, LeafWorked}

-- ---- a byte
value_of : Number → ℕ
value_of (Ok f) = f.value
value_of (Err n) = 0

place_of : Number → ℕ
place_of (Ok f) = f.next.at
place_of (Err n) = 0

byte-there : (bs : List ℕ) {b : ℕ} {rest : List ℕ} → byte bs ≡ got b rest → 0 < length bs
unfolding byte
byte-there [] e = absurd (let z : ◌≡◌ {A = ℕ} 0 1 = cc in omega arith)
byte-there (b ∷ bs) e = omega arith

byte-missing : (bs : List ℕ) {n : ℕ} → byte bs ≡ bad n → length bs ≡ 0
unfolding byte
byte-missing [] e = refl
byte-missing (b ∷ bs) e = absurd (let z : ◌≡◌ {A = ℕ} 0 1 = cc in omega arith)

module _ (line : List ℕ) (c : Cursor) {x : Number} (v : ReadsNumber line c.at x (byte (bytes_from line c.at)) × Below byte_range x) where
  read_none : {m : Refusal} → x ≡ Err m → Reads line c (record { value = 0; next = c })
  read_none e =
      let none_left = byte-missing (bytes_from line c.at) (number-bad v.0 e) in
      record { value = sym (get_or-eq_default (bytes_from line c.at) 0 {n = 0} (omega (arith, none_left))); next = sym (past_end line c.at none_left); less = omega arith }

  read_done : {f : Found} → x ≡ Ok f → Reads line c f
  unfolding value_of place_of
  read_done {f} e =
      let less = byte-there (bytes_from line c.at) (number-got v.0 e) in
      let same = sym e ∙ byte-is x less v.0 in
      record { value = ap value_of same; next = ap place_of same; less = elim (subst (Below byte_range) e v.1) [ below q ↦ q ] }

  pub read_told : {r : Found} → r ≡ result_unwrap_or x (record { value = 0; next = c }) → Reads line c r
  read_told {r} e = go x refl e
    where
      go : (y : Number) → x ≡ y → r ≡ result_unwrap_or y (record { value = 0; next = c }) → Reads line c r
      go (Ok f) q e = rw e (read_done q)
      go (Err n) q e = rw e (read_none q)

-- ---- a variable
pub variable-told : (Δ : List ℕ) {i k : ℕ} → k ≡ get_or Δ i 0 → k < byte_range → Told Δ i k
variable-told Δ e less = record { is = e; less = less }

-- ---- leaves
leaf-long : {s t : Size} → IsLeaf size_bytes 2 s t → length (size_bytes s) ≡ 2
leaf-long i = ap (λ (a : Size). length (size_bytes a)) i.is ∙ i.long

variable-coded : {line : List ℕ} {at : ℕ} {s : Size} {code : ℕ} → SizeCoded line at s code → code < 3 → (code ≡ 1 → ⊥) → IsLeaf size_bytes 2 s (svar (byte_at line (past line at 1)))
variable-coded (lit_coded i) less other = absurd (other refl)
variable-coded (svar_coded i) less other = i
variable-coded (plus_coded i) less other = absurd (omega (arith, less))
variable-coded (minus_coded i) less other = absurd (omega (arith, less))

difference-coded : {line : List ℕ} {at : ℕ} {s : Size} {code : ℕ} → SizeCoded line at s code → 3 ≤ code → (code ≡ 3 → ⊥) → OfTwoSizes minus line at s
difference-coded (lit_coded i) le other = absurd (omega (arith, le))
difference-coded (svar_coded i) le other = absurd (omega (arith, le))
difference-coded (plus_coded i) le other = absurd (other refl)
difference-coded (minus_coded i) le other = i

module _ (line : List ℕ) (c : Cursor) (Δ : List ℕ) {f : Found} (v : Reads line c f) where
  -- the byte behind the code
  second-byte : (at : ℕ) {s t : Size} → c.at ≡ past line at 1 → IsLeaf size_bytes 2 s t → (f.value ≡ byte_at line (past line at 1)) × (f.next.at ≡ past line at (length (size_bytes s)))
  second-byte at here i = (v.value ∙ ap (byte_at line) here, v.next ∙ ap (λ (a : ℕ). past line a 1) here ∙ past-past line at 1 1 ∙ ap (past line at) (sym (leaf-long i)))

  pub leaf-number : {code : ℕ} → code ≡ 1 → LeafWorked line c Δ code (record { added = f.value; taken = 0; next = f.next })
  unfolding added
  leaf-number {code} q = record { says = number; added_less = omega (arith, v.less); taken_less = omega arith }
    where
      number : (at : ℕ) (s : Size) → c.at ≡ past line at 1 → byte_at line at ≡ code → code < 3 → Spells size_bytes line at s → IsWorked line Δ s at (record { added = f.value; taken = 0; next = f.next })
      number at s here b less w =
          let i = lit-spelled w (b ∙ q) in
          let second = second-byte at here i in
          record { is_added = second.0 ∙ sym (ap (added Δ) i.is); is_taken = sym (ap (taken Δ) i.is); ends = second.1 }

  pub leaf-variable : {code k : ℕ} → (code ≡ 1 → ⊥) → Told Δ f.value k → LeafWorked line c Δ code (record { added = k; taken = 0; next = f.next })
  unfolding added
  leaf-variable {code} {k} other u = record { says = variable; added_less = omega (arith, u.less); taken_less = omega arith }
    where
      variable : (at : ℕ) (s : Size) → c.at ≡ past line at 1 → byte_at line at ≡ code → code < 3 → Spells size_bytes line at s → IsWorked line Δ s at (record { added = k; taken = 0; next = f.next })
      variable at s here b less w =
          let i = variable-coded (subst (SizeCoded line at s) b (size-of-byte w)) less other in
          let second = second-byte at here i in
          record { is_added = u.is ∙ ap (λ j. get_or Δ j 0) second.0 ∙ sym (ap (added Δ) i.is); is_taken = sym (ap (taken Δ) i.is); ends = second.1 }

-- ---- how large a size can be
least : (levels : ℕ) → byte_range ≤ byte_range * 2 ^ levels
least levels = let one : 2 ^ 0 ≤ 2 ^ levels = pow-le-pow_right {n = 2} (omega arith) {i = 0} {j = levels} (omega arith) in omega (arith, one)

doubled : (levels : ℕ) → (levels ≡ 0 → ⊥) → byte_range * 2 ^ levels ≡ byte_range * 2 ^ (levels - 1) + byte_range * 2 ^ (levels - 1)
doubled levels more = let next : 2 ^ levels ≡ 2 ^ (levels - 1) + 2 ^ (levels - 1) = ap (λ n. 2 ^ n) (one_less levels more) ∙ two-pow-succ (levels - 1) in omega (arith, next)

sum_less : {m n p a b : ℕ} → m ≡ n + p → a < n → b < p → a + b < m
sum_less e h k = omega (arith, e, h, k)

-- the sum of two sizes with one level less
pub sum_fits : {levels a b : ℕ} → (levels ≡ 0 → ⊥) → levels ≤ nesting_most → a < byte_range * 2 ^ (levels - 1) → b < byte_range * 2 ^ (levels - 1) → a + b < 2 ^ 64
sum_fits {levels} {a} {b} more le h k =
    let less : a + b < byte_range * 2 ^ levels = sum_less (doubled levels more) h k in
    let most : 2 ^ levels ≤ 2 ^ nesting_most = pow-le-pow_right {n = 2} (omega arith) {i = levels} {j = nesting_most} le in
    omega (arith, less, most)

-- ---- levels
no-level : {vars : ℕ} {s : Size} → WithinSize vars zero s → ⊥
no-level w = elim w [ ]

module _ {vars n : ℕ} {a b : Size} where
  plus-parts : WithinSize vars (suc n) (plus a b) → WithinSize vars n a × WithinSize vars n b
  plus-parts (w_plus v w) = (v, w)

  minus-parts : WithinSize vars (suc n) (minus a b) → WithinSize vars n a × WithinSize vars n b
  minus-parts (w_minus v w) = (v, w)

module _ (line : List ℕ) (c : Cursor) (Δ : List ℕ) (levels : ℕ) where
  small : {k : ℕ} → k < byte_range → k < byte_range * 2 ^ levels
  small h = lt_of_lt_of_le h (least levels)

  pub work_none : levels ≡ 0 → WorksOut line c Δ levels (record { added = 0; taken = 0; next = c })
  work_none q = record { says = λ vars s w z. absurd (no-level (subst (λ m. WithinSize vars m s) q w)); added_less = small (omega arith); taken_less = small (omega arith) }

  module _ {f : Found} (v : Reads line c f) where
    pub work-leaf : {r : Worked} → f.value < 3 → LeafWorked line f.next Δ f.value r → WorksOut line c Δ levels r
    work-leaf less u = record {
      says = λ vars s w z. u.says c.at s v.next (sym v.value) less z;
      added_less = small u.added_less;
      taken_less = small u.taken_less;
    }

    module _ (more : levels ≡ 0 → ⊥) {x y : Worked} (u : WorksOut line f.next Δ (levels - 1) x) (t : WorksOut line x.next Δ (levels - 1) y) where
      first-worked : {vars : ℕ} {s : Size} {join : Size → Size → Size} (i : OfTwoSizes join line c.at s) → WithinSize vars (levels - 1) i.first → IsWorked line Δ i.first (past line c.at 1) x
      first-worked {vars} i w =
          subst (λ m. IsWorked line Δ i.first m x) v.next (u.says vars i.first w (subst (λ m. Spells size_bytes line m i.first) (sym v.next) i.spelled))

      second-worked : {vars : ℕ} {s : Size} {join : Size → Size → Size} (i : OfTwoSizes join line c.at s) → WithinSize vars (levels - 1) i.first → WithinSize vars (levels - 1) i.second →
          IsWorked line Δ i.second (past line (past line c.at 1) (length (size_bytes i.first))) y
      second-worked {vars} i w o =
          let place : x.next.at ≡ past line (past line c.at 1) (length (size_bytes i.first)) = (first-worked i w).ends in
          subst (λ m. IsWorked line Δ i.second m y) place (t.says vars i.second o (subst (λ m. Spells size_bytes line m i.second) (sym place) i.next))

      both_end : {s : Size} {join : Size → Size → Size} {n : ℕ} (i : OfTwoSizes join line c.at s) → n ≡ past line (past line (past line c.at 1) (length (size_bytes i.first))) (length (size_bytes i.second)) → n ≡ past line c.at (length (size_bytes s))
      both_end i e = e ∙ sym (ap (λ (a : Size). past line c.at (length (size_bytes a))) i.is ∙ i.ends)

      pub work-sum : f.value ≡ 3 → WorksOut line c Δ levels (record { added = x.added + y.added; taken = x.taken + y.taken; next = y.next })
      unfolding added
      work-sum code = record { says = sums; added_less = sum_less (doubled levels more) u.added_less t.added_less; taken_less = sum_less (doubled levels more) u.taken_less t.taken_less }
        where
          sums : (vars : ℕ) (s : Size) → WithinSize vars levels s → Spells size_bytes line c.at s → IsWorked line Δ s c.at (record { added = x.added + y.added; taken = x.taken + y.taken; next = y.next })
          sums vars s w z =
              let i = plus-spelled z (sym v.value ∙ code) in
              let within = plus-parts (subst (WithinSize vars (suc (levels - 1))) i.is (subst (λ m. WithinSize vars m s) (one_less levels more) w)) in
              let a = first-worked i within.0 in
              let b = second-worked i within.0 within.1 in
              record { is_added = ap₂ ◌+◌ a.is_added b.is_added ∙ sym (ap (added Δ) i.is); is_taken = ap₂ ◌+◌ a.is_taken b.is_taken ∙ sym (ap (taken Δ) i.is); ends = both_end i b.ends }

      pub work-difference : 3 ≤ f.value → (f.value ≡ 3 → ⊥) → WorksOut line c Δ levels (record { added = x.added + y.taken; taken = x.taken + y.added; next = y.next })
      unfolding added
      work-difference most other = record { says = differs; added_less = sum_less (doubled levels more) u.added_less t.taken_less; taken_less = sum_less (doubled levels more) u.taken_less t.added_less }
        where
          differs : (vars : ℕ) (s : Size) → WithinSize vars levels s → Spells size_bytes line c.at s → IsWorked line Δ s c.at (record { added = x.added + y.taken; taken = x.taken + y.added; next = y.next })
          differs vars s w z =
              let i = difference-coded (subst (SizeCoded line c.at s) (sym v.value) (size-of-byte z)) most other in
              let within = minus-parts (subst (WithinSize vars (suc (levels - 1))) i.is (subst (λ m. WithinSize vars m s) (one_less levels more) w)) in
              let a = first-worked i within.0 in
              let b = second-worked i within.0 within.1 in
              record { is_added = ap₂ ◌+◌ a.is_added b.is_taken ∙ sym (ap (added Δ) i.is); is_taken = ap₂ ◌+◌ a.is_taken b.is_added ∙ sym (ap (taken Δ) i.is); ends = both_end i b.ends }
