-- The line of the channel, from the index.
use Rattle.evaluator.specs.ChannelValues.{channel-placed}
use Rattle.evaluator.proofs.channels.channel_context.Goals as goal

pub returns : goal.returns
returns c = channel-placed _ _ _ _ _ c.channel_line-line.ensures
