-- Sizes stored one by one.
use Rattle.instances.specs.WriteLaws.{stored_on, stored-end}
use Rattle.instances.proofs.put_sizes.Goals as goal

pub loop-j-preserved : goal.loop-j-preserved
loop-j-preserved c = stored_on c.loop-j.invariant c.loop-j-test.true c.byte_at-size.ensures.0 c.put.ensures

pub returns : goal.returns
returns c = stored-end c.loop-j.invariant c.loop-j-test.false
