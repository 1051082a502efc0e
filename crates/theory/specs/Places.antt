-- Places of a list: what stands at a place below its length, of a list with more at its end, of a mapped list.
use Rattle.std.specs.Prelude.{ℕ, zero, suc, ◌+◌, ◌-◌, ◌≤◌, ◌<◌, List, [], ◌∷◌, ◌++◌, map, ◌≡◌, refl, length, get_or, ltb, eqb}
use Rattle.std.proofs.Math.Option.{some}
use Rattle.std.proofs.Common.{sym, arith, zero-add, ltb-true, ltb-false, eqb-true}
use Rattle.std.proofs.Math.ListN.{get_elem? as look}
use Rattle.std.proofs.lemmas.Bool.{eqb-false}
use Rattle.theory.specs.Lists.{none-is-not-some}
use Rattle.theory.specs.Choices.{by-test}

pub below_or_not : {X : Type 0} (i n : ℕ) → (i < n → X) → (n ≤ i → X) → X
below_or_not i n below above = by-test (ltb i n) (λ e. below (ltb-true i n e)) (λ e. above (ltb-false i n e))

-- a number below suc n is below n, or n
pub below-or-last : {X : Type 0} (i n : ℕ) → i < suc n → (i < n → X) → (i ≡ n → X) → X
below-or-last i n less below last = below_or_not i n below (λ above. last (omega arith))

pub equal_or_not : {X : Type 0} (m n : ℕ) → (m ≡ n → X) → ((m ≡ n → ⊥) → X) → X
equal_or_not m n same other = by-test (eqb m n) (λ e. same (eqb-true m n e)) (λ e. other (eqb-false m n e))

-- a number that is not 0 follows one
pub one_less : (n : ℕ) → (n ≡ 0 → ⊥) → n ≡ suc (n - 1)
one_less n more = omega (arith, more)

module _ {A : Type 0} where
  pub look_at : (l : List A) (i : ℕ) (d : A) → i < length l → look l i ≡ some (get_or l i d)
  look_at [] i d less = absurd (omega arith)
  look_at (x ∷ l) zero d less = refl
  look_at (x ∷ l) (suc i) d less = look_at l i d (omega arith)

  -- the place of a longer list is one of the first list or of the second
  pub look-append-cases : {X : Type 0} (l m : List A) (i : ℕ) {a : A} → look (l ++ m) i ≡ some a → (look l i ≡ some a → X) → ((j : ℕ) → i ≡ length l + j → look m j ≡ some a → X) → X
  look-append-cases [] m i e first second = second i (sym (zero-add i)) e
  look-append-cases (x ∷ l) m zero e first second = first e
  look-append-cases (x ∷ l) m (suc i) e first second = look-append-cases l m i e first (λ j is z. second j (omega (arith, is)) z)

  pub look-snoc-cases : {X : Type 0} (l : List A) (b : A) (i : ℕ) {a : A} → look (l ++ (b ∷ [])) i ≡ some a → (look l i ≡ some a → X) → (i ≡ length l → b ≡ a → X) → X
  look-snoc-cases {X} l b i {a} e before last = look-append-cases l (b ∷ []) i e before at_end
    where
      at_end : (j : ℕ) → i ≡ length l + j → look (b ∷ []) j ≡ some a → X
      at_end zero q z = last (omega (arith, q)) (cc)
      at_end (suc j) q z = none-is-not-some z

-- what stands at a place of a mapped list is a mapped one
pub record Mapped {A B : Type 0} (f : A → B) (l : List A) (i : ℕ) (b : B) : Type 0 where
  pub of : A
  pub at : look l i ≡ some of
  pub is : b ≡ f of

pub look-mapped : {A B : Type 0} (f : A → B) (l : List A) (i : ℕ) {b : B} → look (map f l) i ≡ some b → Mapped f l i b
look-mapped f [] i e = none-is-not-some e
look-mapped f (x ∷ l) zero e = record { of = x; at = refl; is = cc }
look-mapped f (x ∷ l) (suc i) e = let r = look-mapped f l i e in record { of = r.of; at = r.at; is = r.is }
