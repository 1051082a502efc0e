-- The first record that is the instance, looked for one by one.
use Rattle.instances.specs.FindLaws.{passed-found, passed_on, passed-end}
use Rattle.instances.proofs.walk.Goals as goal

pub returns-then-is_instance : goal.returns-then-is_instance
returns-then-is_instance c = passed-found c.loop-i.invariant c.loop-i-test.true c.is_instance.ensures c.if-is_instance.true

pub loop-i-preserved : goal.loop-i-preserved
loop-i-preserved c = passed_on c.loop-i.invariant c.loop-i-test.true c.is_instance.ensures c.if-is_instance.false

pub returns : goal.returns
returns c = passed-end c.loop-i.invariant c.loop-i-test.false
