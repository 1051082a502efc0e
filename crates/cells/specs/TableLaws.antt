-- What the lent table remembers: nothing where it is all 0, a number that is known, a number noted.
use Rattle.std.specs.Prelude.{ℕ, zero, suc, ◌+◌, ◌-◌, ◌≤◌, ◌<◌, List, Bool, true, false, ◌≡◌, refl, length, get_or, set, replicate, eqb, leb}
use Rattle.std.proofs.Common.{sym, ap, ◌∙◌, subst, arith, get_or-set_same, get_or-set_other, eqb-true, leb-true, leb-false}
use Rattle.std.proofs.Math.Seq.{set_out}
use Rattle.std.proofs.lemmas.Bool.{eqb-false}
use Rattle.language.specs.Limits.{types_most, fields_most, size_most}
use Rattle.language.specs.Syntax.{File}
use Rattle.language.specs.Within.{Within}
use Rattle.language.specs.Estimate.{stop}
use Rattle.index.specs.Tables.{type_table}
use Rattle.index.specs.Sections.{types_of}
use Rattle.cells.specs.Counts.{table_words, place, stands_for, Remembers, Right, Counts, Several}

-- every number has its word
pub place-fits : (t r m : ℕ) → t < types_most → r ≤ fields_most → m ≤ size_most → place t r m < table_words
place-fits t r m named few low = omega (arith, named, few, low)

-- ---- nothing known
pub same_at : (w n i : ℕ) → get_or (replicate n w) i w ≡ w
same_at w zero i = refl
same_at w (suc n) zero = refl
same_at w (suc n) (suc i) = same_at w n i

pub remembers-nothing : (P : File) (n : ℕ) → Remembers P (replicate n 0)
remembers-nothing P n = record { word = λ t r m named few low some. absurd (some (same_at 0 n (place t r m))) }

pub right-nothing : {index : List ℕ} {P : File} (n : ℕ) → Within P → types_of index ≡ type_table P.types → Right index (replicate n 0) P
right-nothing {P} n w e = record { within = w; told = e; remembers = remembers-nothing P n }

-- ---- a word stored: another stays as it was
set_cases : {X : Type 0} (l : List ℕ) (i j v : ℕ) → (get_or (set l i v) j 0 ≡ get_or l j 0 → X) → (j ≡ i → get_or (set l i v) j 0 ≡ v → X) → X
set_cases {X} l i j v old new = cases (eqb j i) refl (leb (length l) i) refl
  where
    cases : (b : Bool) → eqb j i ≡ b → (d : Bool) → leb (length l) i ≡ d → X
    cases true e true out = old (ap (λ w. get_or w j 0) (set_out l i v (leb-true (length l) i out)))
    cases true e false out = let same = eqb-true j i e in new same (ap (λ n. get_or (set l i v) n 0) same ∙ get_or-set_same l i v 0 (leb-false (length l) i out))
    cases false e d out = old (get_or-set_other l i j v 0 (eqb-false j i e))

module _ (u s n t r m : ℕ) (few : s ≤ fields_most) (few' : r ≤ fields_most) (low : n ≤ size_most) (low' : m ≤ size_most) (e : place u s n ≡ place t r m) where
  same-type : u ≡ t
  same-type = omega (arith, few, few', low, low', e)

  same_count : s ≡ r
  same_count = omega (arith, few, few', low, low', e, same-type)

  same_size : n ≡ m
  same_size = omega (arith, e, same-type, same_count)

pub remembers-noted : {P : File} {table : List ℕ} {t r m number : ℕ} → Remembers P table → Several t r m P → number ≡ stop (stands_for P t r m) → Remembers P (set table (place t r m) (1 + number))
remembers-noted {P} {table} {t} {r} {m} {number} v at is = record { word = word }
  where
    word : (u s n : ℕ) → u < length P.types → s ≤ fields_most → n ≤ size_most → (get_or (set table (place t r m) (1 + number)) (place u s n) 0 ≡ 0 → ⊥) →
        get_or (set table (place t r m) (1 + number)) (place u s n) 0 ≡ 1 + stop (stands_for P u s n)
    word u s n named few low some = set_cases table (place t r m) (place u s n) (1 + number)
        (λ old. old ∙ v.word u s n named few low (λ z. some (old ∙ z)))
        (λ e new.
        let a = same-type u s n t r m few at.few low at.low e in
        let b = same_count u s n t r m few at.few low at.low e in
        let d = same_size u s n t r m few at.few low at.low e in
        new ∙ ap (λ x. 1 + x) is ∙ sym (ap (λ x. 1 + stop (stands_for P x s n)) a ∙ ap (λ x. 1 + stop (stands_for P t x n)) b ∙ ap (λ x. 1 + stop (stands_for P t r x)) d))

-- ---- a number that is known, a number noted
module _ {index table : List ℕ} {asked : File → Type 0} {value : File → ℕ} (t r m : ℕ) (several : (P : File) → Right index table P → asked P → Several t r m P)
    (stands : (P : File) → Right index table P → asked P → value P ≡ stands_for P t r m) where
  pub counts-known : {word q : ℕ} → word ≡ get_or table (place t r m) 0 → (word ≡ 0 → ⊥) → q ≡ stop (word - 1 + 0) → Counts index table asked value q table
  counts-known {word} {q} e some w = record { small = omega (arith, w); is = is; right = λ P h a. h }
    where
      is : (P : File) → Right index table P → asked P → q ≡ stop (value P)
      is P h a =
          let at = several P h a in
          let found = e ∙ h.remembers.word t r m at.named at.few at.low (λ z. some (e ∙ z)) in
          omega (arith, w, found, stands P h a)

  pub counts-noted : {a : ℕ} {table₁ table₂ : List ℕ} → Counts index table asked value a table₁ → table₂ ≡ set table₁ (place t r m) (1 + a) → Counts index table asked value a table₂
  counts-noted {table₁} v e = record {
    small = v.small;
    is = v.is;
    right = λ P h q.
        let before = v.right P h q in
        record { within = before.within; told = before.told; remembers = subst (Remembers P) (sym e) (remembers-noted before.remembers (several P h q) (v.is P h q ∙ ap stop (stands P h q))) };
  }
