-- Each split of n into r sizes, r not 0, is r positive sizes that sum to n.
use Rattle.std.specs.Prelude.{ℕ, zero, suc, ◌+◌, ◌-◌, ◌<◌, List, [], ◌∷◌, ◌≡◌, refl, length}
use Rattle.std.proofs.Common.{ap, subst, arith}
use Rattle.language.specs.Sizes.{sum}
use Rattle.language.specs.Splits.{firsts, splits_of, splits}
use Rattle.language.specs.Within.{All, all_nil, all_cons}
use Rattle.theory.specs.Alls.{all_append, all_map, all-to-map}
use Rattle.theory.specs.SplitsCover.{Positive}

pub record IsSplit (r n : ℕ) (ks : List ℕ) : Type 0 where
  pub long : length ks ≡ r
  pub positive : Positive ks
  pub sums : sum ks ≡ n

one_size : (n : ℕ) → 0 < n → IsSplit 1 n (n ∷ [])
unfolding sum
one_size n pos = record { long = refl; positive = all_cons pos all_nil; sums = omega arith }

size-before : (p : ℕ) {r n : ℕ} → 0 < p → (ks : List ℕ) → IsSplit r n ks → IsSplit (suc r) (p + n) (p ∷ ks)
unfolding sum
size-before p pos ks s = record { long = ap suc s.long; positive = all_cons pos s.positive; sums = ap (λ k. p + k) s.sums }

firsts-are : (r : ℕ) (f : ℕ → List (List ℕ)) → ((n : ℕ) → 0 < n → All (IsSplit r n) (f n)) → (p q : ℕ) → 0 < p → All (IsSplit (suc r) (p + q)) (firsts f p q)
unfolding firsts
firsts-are r f h p zero pos = all_nil
firsts-are r f h p (suc q) pos =
    let sums : suc p + q ≡ p + suc q = omega arith in
    all_append (all-to-map (λ ks. p ∷ ks) (all_map (size-before p pos) (h (suc q) (omega arith)))) (rw sums at (firsts-are r f h (suc p) q (omega arith)))

each-is : (r n : ℕ) → 0 < n → All (IsSplit (suc r) n) (splits_of r n)
unfolding splits_of
each-is zero n pos = all_cons (one_size n pos) all_nil
each-is (suc r) n pos =
    let sums : 1 + (n - 1) ≡ n = omega arith in
    subst (λ k. All (IsSplit (suc (suc r)) k) (firsts (splits_of r) 1 (n - 1))) sums (firsts-are (suc r) (splits_of r) (each-is r) 1 (n - 1) (omega arith))

pub splits-are : (r n : ℕ) → 0 < r → 0 < n → All (IsSplit r n) (splits r n)
unfolding splits
splits-are zero n h pos = absurd (omega arith)
splits-are (suc r) n h pos = each-is r n pos
