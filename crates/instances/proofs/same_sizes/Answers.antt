-- Sizes compared one by one.
use Rattle.instances.specs.FindLaws.{same_end, same_not}
use Rattle.instances.proofs.same_sizes.Goals as goal

pub returns-then-list-from : goal.returns-then-list-from
returns-then-list-from c = same_not c.loop-j-test.true c.byte_at.ensures.0 c.if-list-from.true

pub returns : goal.returns
returns c = same_end c.loop-j.invariant c.loop-j-test.false
