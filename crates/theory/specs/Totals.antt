-- Sums over the numbers that pass a test.
use Prim.Native.Nat.{ℕ, zero, suc, ◌+◌, ◌≤◌, ◌<◌}
use Rattle.std.specs.Prelude.{Bool, ◌≡◌, refl}
use Rattle.std.proofs.Math.Bool.{true, false}
use Rattle.std.proofs.Common.{subst}
use native.Mathlib.Omega.{arith}
use Rattle.language.specs.Result.{choose}
use Rattle.theory.specs.Lists.{false-is-not-true}
use Rattle.theory.specs.Places.{equal_or_not}

-- the sum of the weights of the numbers below n that pass a test
unfoldable pub total : (ℕ → ℕ) → (ℕ → Bool) → ℕ → ℕ
total w f zero = 0
total w f (suc n) = choose (f n) (w n) 0 + total w f n

chosen-at-most : (a b : Bool) (m : ℕ) → (a ≡ true → b ≡ true) → choose a m 0 ≤ choose b m 0
unfolding choose
chosen-at-most true true m f = omega arith
chosen-at-most true false m f = false-is-not-true (f refl)
chosen-at-most false b m f = omega arith

chosen_less : (a b : Bool) (m : ℕ) → a ≡ false → b ≡ true → choose a m 0 + m ≤ choose b m 0
unfolding choose
chosen_less a b m e f = rw (e, f) (omega arith)

module _ (w : ℕ → ℕ) {f g : ℕ → Bool} (all : (j : ℕ) → f j ≡ true → g j ≡ true) where
  pub total_at_most : (n : ℕ) → total w f n ≤ total w g n
  unfolding total
  total_at_most zero = omega arith
  total_at_most (suc n) = omega (arith, chosen-at-most (f n) (g n) (w n) (all n), total_at_most n)

  -- a number passes the second test only
  pub total-less : (n i : ℕ) → i < n → f i ≡ false → g i ≡ true → total w f n + w i ≤ total w g n
  unfolding total
  total-less zero i less e d = absurd (omega arith)
  total-less (suc n) i less e d = equal_or_not i n
      (λ at. last n (subst (λ x. f x ≡ false) at e) (subst (λ x. g x ≡ true) at d) i at)
      (λ other. omega (arith, chosen-at-most (f n) (g n) (w n) (all n), total-less n i (omega arith) e d))
    where
      last : (n : ℕ) → f n ≡ false → g n ≡ true → (i : ℕ) → i ≡ n → choose (f n) (w n) 0 + total w f n + w i ≤ choose (g n) (w n) 0 + total w g n
      last n e d i at = rw at (omega (arith, chosen_less (f n) (g n) (w n) e d, total_at_most n))

-- what passes is part of the sum
pub weight-in-total : (w : ℕ → ℕ) (f : ℕ → Bool) (n i : ℕ) → i < n → f i ≡ true → w i ≤ total w f n
unfolding total choose
weight-in-total w f zero i less e = absurd (omega arith)
weight-in-total w f (suc n) i less e = equal_or_not i n
    (λ at. rw (subst (λ x. f x ≡ true) at e, at) (omega arith))
    (λ other. omega (arith, weight-in-total w f n i (omega arith) e))
