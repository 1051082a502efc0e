-- A channel at each turn.
use Rattle.state_words.specs.Words.{channel_at}
use Rattle.marking.specs.MarkLaws.{touched-start, touched-on}
use Rattle.marking.proofs.mark_channels.Goals as goal

pub loop-c-init : goal.loop-c-init
loop-c-init c = touched-start (channel_at c.args.state.now) _

pub loop-c-preserved : goal.loop-c-preserved
loop-c-preserved c = touched-on (channel_at c.args.state.now) c.loop-c.invariant c.channel_cell-l.ensures c.mark.ensures
