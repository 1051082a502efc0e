-- A self-call must have a smaller measure, which is worked out for it alone.
use Rattle.size_steps.specs.LeafLaws.{may-call-other, may-call-self}
use Rattle.size_steps.proofs.leaves.may_call.Goals as goal

pub returns-then-not-calls_itself : goal.returns-then-not-calls_itself
returns-then-not-calls_itself c = may-call-other c.calls_itself.ensures c.if-not-calls_itself.true

pub returns : goal.returns
returns c = may-call-self _ _ _ _ _ c.line_behind_types.ensures c.frame_line-line.ensures c.calls_itself.ensures c.if-not-calls_itself.false c.measure_start.ensures c.summed_measure-w.ensures
