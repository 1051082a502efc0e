-- `size_at` meets its contract, return by return.
use native.Mathlib.Omega.{arith}
use Rattle.sizes.specs.TypeLaws.{size_low, size-high, size-found}
use Rattle.sizes.proofs.size_at.Goals as goal

pub returns-then-added-taken : goal.returns-then-added-taken
returns-then-added-taken c = size_low _ _ _ c.work_out-x.ensures (omega (arith, c.if-added-taken.true))

pub returns-then-k : goal.returns-then-k
returns-then-k c = size-high _ _ _ c.work_out-x.ensures c.if-k.true

pub returns : goal.returns
returns c = size-found _ _ _ c.work_out-x.ensures c.if-added-taken.false c.if-k.false
