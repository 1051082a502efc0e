-- The fields of a cell stored one by one above the environment.
use native.Mathlib.Omega.{arith}
use Rattle.evaluation_steps.specs.Slots.{pushed_more}
use Rattle.evaluation_steps.specs.LeafLaws.{pushed-all}
use Rattle.evaluation_steps.proofs.slots.push_fields.Goals as goal

pub loop-i-preserved : goal.loop-i-preserved
loop-i-preserved c = (omega arith, pushed_more c.loop-i.invariant.1 c.field.ensures c.put.ensures)

pub returns : goal.returns
returns c = pushed-all c.loop-i.invariant.0 c.loop-i.invariant.1 c.loop-i-test.false
