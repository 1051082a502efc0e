-- As many words of the scratch as cells are used, lent for marks.
use Rattle.sliding.specs.FinishLaws.{collected}
use Rattle.sliding.proofs.collect.Goals as goal

pub returns : goal.returns
returns c = collected c.requires.used_in_bounds_2 c.keep_reached.ensures
