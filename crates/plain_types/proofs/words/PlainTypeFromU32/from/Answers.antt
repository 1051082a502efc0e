-- The type of a word, return by return.
use mathlib.Core.Path.{◌∙◌}
use Rattle.plain_types.specs.WordLaws.{type-zero, type-small, type-large}
use Rattle.plain_types.proofs.words.PlainTypeFromU32.from.Goals as goal

pub returns-then-word-eq0 : goal.returns-then-word-eq0
returns-then-word-eq0 c = type-zero _ c.if-word-eq0.true

pub returns-then-word-lt-TYPE_STEP : goal.returns-then-word-lt-TYPE_STEP
returns-then-word-lt-TYPE_STEP c = type-small _ c.if-word-eq0.false c.if-word-lt-TYPE_STEP.true

pub returns : goal.returns
returns c = c.named.ensures ∙ type-large _ c.if-word-lt-TYPE_STEP.false
