-- `conditions` meets its contract, return by return.
use native.Mathlib.Omega.{arith}
use native.Mathlib.Nat.{pos_of_ne-zero}
use Rattle.sizes.specs.ConditionLaws.{none_left, one-fails, one_holds}
use Rattle.sizes.proofs.+conditions.Goals as goal

pub returns-then-n-eq0 : goal.returns-then-n-eq0
returns-then-n-eq0 t c = none_left _ _ _ c.if-n-eq0.true

pub returns-then-not-x : goal.returns-then-not-x
returns-then-not-x t c = one-fails _ _ _ c.if-n-eq0.false c.condition-x.ensures c.if-not-x.true

pub overflow_sub-n : goal.overflow_sub-n
overflow_sub-n t c = pos_of_ne-zero c.if-n-eq0.false

pub conditions-requires : goal.conditions-requires
conditions-requires t c = (omega (arith, c.decreases, c.if-n-eq0.false), tt)

pub returns : goal.returns
returns t c = one_holds _ _ _ c.if-n-eq0.false c.condition-x.ensures c.if-not-x.false c.conditions.ensures
