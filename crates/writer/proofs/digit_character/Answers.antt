-- A digit's character: a decimal one, or a letter.
use mathlib.Core.Path.{sym}
use Rattle.theory.specs.ExactDigits.{spelled-low, spelled-high}
use Rattle.writer.proofs.digit_character.Goals as goal

pub returns-then-d-lt-DECIMAL_DIGITS : goal.returns-then-d-lt-DECIMAL_DIGITS
returns-then-d-lt-DECIMAL_DIGITS c = sym (spelled-low _ c.if-d-lt-DECIMAL_DIGITS.true)

pub returns : goal.returns
returns c = sym (spelled-high _ c.if-d-lt-DECIMAL_DIGITS.false)
