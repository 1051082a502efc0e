-- The channels' cells taken.
use Rattle.std.proofs.Common.{rules}
use Rattle.node_order.specs.LowestLaws.{below_none}
use Rattle.node_order.specs.RowLaws.{filled_more}
use Rattle.iteration.specs.WholeLaws.{taken-all}
use Rattle.iteration.proofs.take_channels.Goals as goal

pub loop-c-init : goal.loop-c-init
loop-c-init c = below_none

pub loop-c-preserved : goal.loop-c-preserved
loop-c-preserved c = filled_more c.loop-c.invariant c.loop-c-test.true (search rules) c.channel_cell.ensures c.put.ensures

pub returns : goal.returns
returns c = taken-all c.loop-c.invariant c.loop-c-test.false
