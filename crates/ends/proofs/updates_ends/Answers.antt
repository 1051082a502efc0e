-- An update at each turn, and the word of its node.
use Rattle.ends.specs.ToldLaws.{updates-on, updates-end}
use Rattle.ends.proofs.updates_ends.Goals as goal

pub loop-k-preserved : goal.loop-k-preserved
loop-k-preserved c = updates-on c.loop-k-test.true c.loop-k.invariant c.part_start-at.ensures c.line_ends-set.ensures c.put-arg-1.given.0.1 c.put.ensures

pub returns : goal.returns
returns c = updates-end c.loop-k.auto.k-end c.loop-k-test.false c.loop-k.invariant
