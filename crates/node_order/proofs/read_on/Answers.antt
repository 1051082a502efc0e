-- One node's readings joined to those of every node that reads it.
use Rattle.node_order.specs.RowLaws.{on-put, on-all}
use Rattle.node_order.proofs.read_on.Goals as goal

pub loop-i-preserved : goal.loop-i-preserved
loop-i-preserved c = on-put c.loop-i.invariant c.word_at-own.ensures c.word_at-through.ensures c.joined.ensures c.put.ensures

pub returns : goal.returns
returns c = on-all c.loop-i.invariant c.loop-i-test.false
