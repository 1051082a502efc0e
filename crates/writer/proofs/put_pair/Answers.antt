-- The two digits of a byte, one behind the other.
use Rattle.writer.specs.LineLaws.{pair_put}
use Rattle.writer.proofs.put_pair.Goals as goal

pub returns : goal.returns
returns c = pair_put _ _ _ c.digit_character.ensures c.digit_character-2.ensures
