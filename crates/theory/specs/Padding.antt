-- Words that are all zero, and lists filled up with zeros.
use Rattle.std.specs.Prelude.{ℕ, zero, suc, ◌+◌, ◌-◌, ◌≤◌, List, [], ◌∷◌, ◌++◌, true, ◌≡◌, refl, length, take, drop, replicate}
use Rattle.std.proofs.Common.{ap, arith, take-add, eq-eqb, eqb-true}
use Rattle.language.specs.Layout.{padded, all_zero}
use Rattle.theory.specs.Lists.{both_left, both_right, both_true}

-- ---- zeros
pub zeros-zero : (n : ℕ) → all_zero (replicate n 0) ≡ true
unfolding all_zero
zeros-zero zero = refl
zeros-zero (suc n) = both_true (eq-eqb 0 0 refl) (zeros-zero n)

pub zero-is-zeros : (ws : List ℕ) → all_zero ws ≡ true → ws ≡ replicate (length ws) 0
unfolding all_zero
zero-is-zeros [] e = refl
zero-is-zeros (w ∷ ws) e = rw (eqb-true w 0 (both_left _ _ e)) (ap (λ x. 0 ∷ x) (zero-is-zeros ws (both_right _ _ e)))

pub zero-front : (ws vs : List ℕ) → all_zero (ws ++ vs) ≡ true → all_zero ws ≡ true
unfolding all_zero
zero-front [] vs e = refl
zero-front (w ∷ ws) vs e = both_true (both_left _ _ e) (zero-front ws vs (both_right _ _ e))

pub zero-joined : (ws vs : List ℕ) → all_zero ws ≡ true → all_zero vs ≡ true → all_zero (ws ++ vs) ≡ true
unfolding all_zero
zero-joined [] vs e f = f
zero-joined (w ∷ ws) vs e f = both_true (both_left _ _ e) (zero-joined ws vs (both_right _ _ e) f)

-- fewer words of those that are zero
pub zero-fewer : (m n : ℕ) (ws : List ℕ) → m ≤ n → all_zero (take n ws) ≡ true → all_zero (take m ws) ≡ true
zero-fewer m n ws le e =
    let sum : m + (n - m) ≡ n = omega arith in
    zero-front (take m ws) (take (n - m) (drop m ws)) (rw (← (take-add m (n - m) ws), sum) e)

-- ---- filled up
pub padded-length : (n : ℕ) (ls : List ℕ) → length (padded n ls) ≡ n
unfolding padded
padded-length zero ls = refl
padded-length (suc n) [] = ap suc (padded-length n [])
padded-length (suc n) (l ∷ ls) = ap suc (padded-length n ls)

pub padded-zero : (n : ℕ) → all_zero (padded n []) ≡ true
unfolding padded all_zero
padded-zero zero = refl
padded-zero (suc n) = both_true (eq-eqb 0 0 refl) (padded-zero n)

pub padded-front : (n : ℕ) (ls : List ℕ) → length ls ≤ n → take (length ls) (padded n ls) ≡ ls
unfolding padded
padded-front n [] le = refl
padded-front zero (l ∷ ls) le = absurd (omega arith)
padded-front (suc n) (l ∷ ls) le = ap (λ x. l ∷ x) (padded-front n ls (omega arith))

pub padded-rest : (n : ℕ) (ls : List ℕ) → length ls ≤ n → all_zero (drop (length ls) (padded n ls)) ≡ true
unfolding padded
padded-rest n [] le = padded-zero n
padded-rest zero (l ∷ ls) le = absurd (omega arith)
padded-rest (suc n) (l ∷ ls) le = padded-rest n ls (omega arith)

-- a list whose rest is zero is its front, filled up
pub filled-up : (n k : ℕ) (ls : List ℕ) → length ls ≡ n → all_zero (drop k ls) ≡ true → padded n (take k ls) ≡ ls
unfolding padded all_zero
filled-up zero k [] size e = refl
filled-up zero k (l ∷ ls) size e = absurd (omega arith)
filled-up (suc n) k [] size e = absurd (omega arith)
filled-up (suc n) zero (l ∷ ls) size e = rw (eqb-true l 0 (both_left _ _ e)) (ap (λ x. 0 ∷ x) (filled-up n zero ls (omega arith) (both_right _ _ e)))
filled-up (suc n) (suc k) (l ∷ ls) size e = ap (λ x. l ∷ x) (filled-up n k ls (omega arith) e)
