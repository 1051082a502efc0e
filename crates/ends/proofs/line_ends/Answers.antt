-- The walk over the line of a frame, from where it starts in the text.
use Rattle.ends.specs.ToldLaws.{line-done}
use Rattle.ends.proofs.line_ends.Goals as goal

pub returns : goal.returns
returns c = line-done c.frame_line-line.ensures c.frame_place-from.ensures c.expression.ensures
