-- The channels' words, as a part.
use mathlib.Core.Path.{◌∙◌}
use Rattle.state_words.specs.WriteLaws.{channels-tested}
use Rattle.state_words.proofs.channels_clear.Goals as goal

pub returns : goal.returns
returns c = c.all_zero.ensures ∙ channels-tested _ _ c.requires.from_le_channels_most
