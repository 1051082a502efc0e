-- The line of a channel, by the numbers of types and functions that the index tells.
use Rattle.heads.specs.Places.{channel-line-is}
use Rattle.heads.proofs.places.channel_line.Goals as goal

pub returns : goal.returns
returns c = channel-line-is _ _ c.frame_counts-counts.ensures.0 c.line_behind_types.ensures
