-- The word where it is not before the place, else the place.
use Rattle.ends.specs.EndOf.{end-larger}
use Rattle.ends.proofs.end_from.Goals as goal

pub returns : goal.returns
returns c = end-larger _ _ _ c.word_at-word.ensures c.max-end.ensures
