-- A frame counts from 1.
use Rattle.runtime.specs.IterateLaws.{frame_is}
use borrow.Author.Rules.{rules}
use Rattle.runtime.proofs.channel_frame.Goals as goal

pub returns : goal.returns
returns c = frame_is _ _ c.channel_line.ensures
