-- What the numbers that the code holds stand for: the exact numbers of figure 7, stopped at 65,535; and what the functions on them
-- promise.
use Rattle.std.specs.Prelude.{◌≤◌, ◌≡◌}
use Rattle.language.specs.Limits.{number_most}
use Rattle.language.specs.Estimate.{Estimate as Exact, stop}
use Rattle.estimate.specs.declared.Estimate.{Estimate as Held}

-- a holds x, stopped
pub record Stands (a : Held) (x : Exact) : Type 0 where
  pub env : a.env ≡ stop x.env
  pub heap : a.heap ≡ stop x.heap
  pub stack : a.stack ≡ stop x.stack

-- no number above 65,535
pub record Small (a : Held) : Type 0 where
  pub env : a.env ≤ number_most
  pub heap : a.heap ≤ number_most
  pub stack : a.stack ≤ number_most

-- ---- the numbers held as exact ones, and exact ones as they are held
abbrev pub exact_of : Held → Exact
exact_of a = record { env = a.env; heap = a.heap; stack = a.stack }

abbrev pub held_of : Exact → Held
held_of x = record { env = stop x.env; heap = stop x.heap; stack = stop x.stack }

-- ---- promises: on any arguments the answer is figure 7's for the numbers given, stopped, and so small; where the arguments stand for
-- exact numbers, it stands for figure 7's of these
pub record Makes (x : Exact) (r : Held) : Type 0 where
  pub is : r ≡ held_of x
  pub says : Stands r x
  pub small : Small r

pub record Changes (f : Exact → Exact) (a r : Held) : Type 0 where
  pub is : r ≡ held_of (f (exact_of a))
  pub says : (x : Exact) → Stands a x → Stands r (f x)
  pub small : Small r

pub record Combines (f : Exact → Exact → Exact) (a b r : Held) : Type 0 where
  pub is : r ≡ held_of (f (exact_of a) (exact_of b))
  pub says : (x y : Exact) → Stands a x → Stands b y → Stands r (f x y)
  pub small : Small r
