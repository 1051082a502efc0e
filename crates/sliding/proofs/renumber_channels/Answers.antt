-- A channel at each turn.
use Rattle.sliding.specs.FinishLaws.{renumbered-start, renumbered-on}
use Rattle.sliding.proofs.renumber_channels.Goals as goal

pub loop-c-init : goal.loop-c-init
loop-c-init c = renumbered-start _ _

pub loop-c-preserved : goal.loop-c-preserved
loop-c-preserved c = renumbered-on c.loop-c.invariant c.channel_cell-l.ensures c.new_number-number.ensures c.put_channel_cell.ensures
