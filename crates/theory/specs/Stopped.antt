-- Reported numbers stop at 65,535: to stop at each step of working them out is to stop at the end.
use Rattle.std.specs.Prelude.{ℕ, ◌+◌, ◌≤◌, ◌<◌, max, ◌≡◌, refl}
use Rattle.std.proofs.Common.{ap, ap₂, ◌∙◌, arith}
use Rattle.language.specs.Limits.{number_most}
use Rattle.language.specs.Estimate.{Estimate, after, either, with_slots, in_call, stop, stopped}

-- ---- single numbers
pub stop-twice : (a : ℕ) → stop a ≡ stop (stop a)
stop-twice a = omega arith

pub stop-sum : (a b : ℕ) → stop (a + b) ≡ stop (stop a + stop b)
stop-sum a b = omega arith

pub stop-added : (n a : ℕ) → stop (n + a) ≡ stop (n + stop a)
stop-added n a = omega arith

pub stop-max : (a b : ℕ) → stop (max a b) ≡ stop (max (stop a) (stop b))
stop-max a b = omega arith

-- where a board holds what is reported, it holds the number itself
pub exact-below-the-stop : (n m : ℕ) → stop n ≤ m → m < number_most → n ≤ m
exact-below-the-stop n m le less = omega arith

-- ---- estimates
pub stopped-after : (a b : Estimate) → stopped (after a b) ≡ stopped (after (stopped a) (stopped b))
stopped-after a b = λ i. record { env = stop-max a.env b.env i; heap = stop-sum a.heap b.heap i; stack = stop-max a.stack b.stack i }

pub stopped-either : (a b : Estimate) → stopped (either a b) ≡ stopped (either (stopped a) (stopped b))
stopped-either a b = λ i. record { env = stop-max a.env b.env i; heap = stop-max a.heap b.heap i; stack = stop-max a.stack b.stack i }

pub stopped-with_slots : (n : ℕ) (a : Estimate) → stopped (with_slots n a) ≡ stopped (with_slots n (stopped a))
stopped-with_slots n a = λ i. record { env = stop-added n a.env i; heap = stop-twice a.heap i; stack = stop-twice a.stack i }

pub stopped-in_call : (a : Estimate) → stopped (in_call a) ≡ stopped (in_call (stopped a))
stopped-in_call a = λ i. record { env = stop-twice a.env i; heap = stop-twice a.heap i; stack = stop-added 1 a.stack i }

-- ---- any working-out of numbers: cells are sums and maxima of given numbers
pub data Counting : Type 0 where
  counted : ℕ → Counting
  total : Counting → Counting → Counting
  larger : Counting → Counting → Counting

unfoldable pub exact_count : Counting → ℕ
exact_count (counted n) = n
exact_count (total a b) = exact_count a + exact_count b
exact_count (larger a b) = max (exact_count a) (exact_count b)

-- with a stop at each step
unfoldable pub early_count : Counting → ℕ
early_count (counted n) = stop n
early_count (total a b) = stop (early_count a + early_count b)
early_count (larger a b) = stop (max (early_count a) (early_count b))

pub count-stopped-early : (w : Counting) → stop (exact_count w) ≡ early_count w
unfolding exact_count early_count
count-stopped-early (counted n) = refl
count-stopped-early (total a b) = omega (arith, count-stopped-early a, count-stopped-early b)
count-stopped-early (larger a b) = omega (arith, count-stopped-early a, count-stopped-early b)

-- ---- any working-out of estimates: given ones, combined as figure 7 does
pub data Working : Type 0 where
  given : Estimate → Working
  and_then : Working → Working → Working
  or_else : Working → Working → Working
  holding : ℕ → Working → Working
  calling : Working → Working

unfoldable pub exact : Working → Estimate
exact (given a) = a
exact (and_then v w) = after (exact v) (exact w)
exact (or_else v w) = either (exact v) (exact w)
exact (holding n w) = with_slots n (exact w)
exact (calling w) = in_call (exact w)

-- with a stop at each step
unfoldable pub early : Working → Estimate
early (given a) = stopped a
early (and_then v w) = stopped (after (early v) (early w))
early (or_else v w) = stopped (either (early v) (early w))
early (holding n w) = stopped (with_slots n (early w))
early (calling w) = stopped (in_call (early w))

pub stopped-early : (w : Working) → stopped (exact w) ≡ early w
unfolding exact early
stopped-early (given a) = refl
stopped-early (and_then v w) = stopped-after (exact v) (exact w) ∙ ap₂ (λ x y. stopped (after x y)) (stopped-early v) (stopped-early w)
stopped-early (or_else v w) = stopped-either (exact v) (exact w) ∙ ap₂ (λ x y. stopped (either x y)) (stopped-early v) (stopped-early w)
stopped-early (holding n w) = stopped-with_slots n (exact w) ∙ ap (λ x. stopped (with_slots n x)) (stopped-early w)
stopped-early (calling w) = stopped-in_call (exact w) ∙ ap (λ x. stopped (in_call x)) (stopped-early w)
