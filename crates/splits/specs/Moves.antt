-- What the functions on splits promise: a split is r sizes of a list from the place `at` on; the others are kept.
use Rattle.std.specs.Prelude.{ℕ, ◌+◌, ◌-◌, ◌≤◌, ◌<◌, List, ◌++◌, Bool, true, false, ◌≡◌, length, get_or, take, drop}
use Rattle.std.proofs.Math.Option.{none, some}
use Rattle.std.proofs.Math.Seq.{slice}
use Rattle.splits.specs.Next.{first_of, may_move, next}

-- the first split written, if there is one and there is room for it; else nothing
pub record Starts (sizes : List ℕ) (at r n : ℕ) (sizes' : List ℕ) : Type 0 where
  pub starts : at + r ≤ length sizes → r ≤ n → sizes' ≡ take at sizes ++ first_of r n ++ drop (at + r) sizes
  pub too_many : n < r → sizes' ≡ sizes
  pub beyond : length sizes < at + r → sizes' ≡ sizes

-- the next split written over this one; nothing where there is none
pub record Moves (sizes : List ℕ) (at r : ℕ) (moved : Bool) (sizes' : List ℕ) : Type 0 where
  pub moves : {js : List ℕ} → at + r ≤ length sizes → next (take r (drop at sizes)) ≡ some js → (moved ≡ true) × (sizes' ≡ take at sizes ++ js ++ drop (at + r) sizes)
  pub ends : at + r ≤ length sizes → next (take r (drop at sizes)) ≡ none → (moved ≡ false) × (sizes' ≡ sizes)
  pub beyond : length sizes < at + r → (moved ≡ false) × (sizes' ≡ sizes)

-- the rightmost place j that gives to the one before it, or the first place
pub record Pivot (sizes : List ℕ) (at end j : ℕ) : Type 0 where
  pub from : at ≤ j
  pub within : j < end
  pub quiet : next (slice j end sizes) ≡ none
  pub giving : at < j → may_move (get_or sizes (j - 1) 0) (get_or sizes j 0) ≡ true
