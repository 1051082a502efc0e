-- The line of a frame, by the number of types that the index tells.
use Rattle.heads.specs.Places.{line-is}
use Rattle.heads.proofs.places.line_behind_types.Goals as goal

pub returns : goal.returns
returns c = line-is _ _ c.frame_counts-counts.ensures.0
