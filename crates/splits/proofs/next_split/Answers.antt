-- The next split where a place gives to the one before it; else nothing is written.
use native.Mathlib.Omega.{arith}
use Rattle.splits.specs.MoveLaws.{pivot-grows, pivot-some, moves-nothing, moves-none, moves-on}
use Rattle.splits.proofs.next_split.Goals as goal

pub returns-then-r-eq0 : goal.returns-then-r-eq0
returns-then-r-eq0 c = moves-nothing _ _ _ c.if-r-eq0.true

pub returns-then-j-at : goal.returns-then-j-at
returns-then-j-at c = moves-none _ _ _ _ c.pivot-j.ensures c.if-j-at.true

pub overflow_add-sizes : goal.overflow_add-sizes
overflow_add-sizes c = omega (arith, pivot-grows c.pivot-j.ensures c.if-j-at.false)

pub overflow_sub-sizes-4 : goal.overflow_sub-sizes-4
overflow_sub-sizes-4 c = omega (arith, pivot-some c.pivot-j.ensures c.if-j-at.false)

pub returns : goal.returns
returns c = moves-on _ _ _ _ (omega (arith, c.if-sizes-at.false, c.if-sizes-at-2.false)) c.pivot-j.ensures c.if-j-at.false
