-- A self-call must have a smaller measure; any other call may be made.
use Rattle.size_steps.specs.LeafLaws.{falls-other, falls-self}
use Rattle.size_steps.proofs.leaves.falls.Goals as goal

pub returns-then-not-calls_itself : goal.returns-then-not-calls_itself
returns-then-not-calls_itself c = falls-other c.calls_itself.ensures c.if-not-calls_itself.true

pub returns : goal.returns
returns c = falls-self c.calls_itself.ensures c.if-not-calls_itself.false
