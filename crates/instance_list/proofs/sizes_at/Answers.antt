-- Sizes read one by one.
use Rattle.instance_list.specs.RecordLaws.{read-end}
use Rattle.instance_list.proofs.sizes_at.Goals as goal

pub returns : goal.returns
returns c = read-end c.loop-j.invariant c.loop-j-test.false
