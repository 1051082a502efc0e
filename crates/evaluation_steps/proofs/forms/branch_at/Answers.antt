-- The end of one expression after the other: at each turn that of the first i.
use native.Mathlib.Omega.{arith}
use Rattle.evaluation_steps.specs.LeafLaws.{end-after-none, end-after-more, end-after-all}
use Rattle.evaluation_steps.proofs.forms.branch_at.Goals as goal

pub loop-init : goal.loop-init
loop-init c = (omega arith, end-after-none _ _ _)

pub loop-preserved : goal.loop-preserved
loop-preserved c = (omega arith, end-after-more _ _ _ _ c.loop.invariant.1 c.end_of-at.ensures)

pub returns : goal.returns
returns c = end-after-all _ _ _ c.loop.invariant.0 c.loop.invariant.1 c.loop-test.false
