-- The context is the channel's own, and the evaluation what the cycle promises there.
use Rattle.evaluator.specs.ChannelValues.{channel-evaluated}
use Rattle.evaluator.proofs.channels.channel_value.Goals as goal

pub returns : goal.returns
returns c = channel-evaluated _ _ _ _ _ _ _ _ _ _ c.channel_context-p.ensures c.expr.ensures
