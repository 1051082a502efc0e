-- The value of a digit, by arithmetic alone.
use mathlib.Core.Path.{refl}
use Rattle.text.specs.Bytes.{digit_value_of}
use Rattle.text.specs.DigitLaws.{digit-small}
use Rattle.text.proofs.digit.Goals as goal

pub returns : goal.returns
unfolding digit_value_of
returns c = (refl, digit-small _)
