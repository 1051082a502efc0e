-- The type of a word meets its contract, return by return.
use Rattle.sizes.specs.WordLaws.{from_bool, from_int, from_named}
use Rattle.sizes.proofs.SizedTypeFromU32.from.Goals as goal

pub returns-then-word-eq-TYPE_BOOL : goal.returns-then-word-eq-TYPE_BOOL
returns-then-word-eq-TYPE_BOOL c = from_bool c.if-word-eq-TYPE_BOOL.true

pub returns-then-word-lt-TYPE_STEP : goal.returns-then-word-lt-TYPE_STEP
returns-then-word-lt-TYPE_STEP c = from_int c.if-word-eq-TYPE_BOOL.false c.if-word-lt-TYPE_STEP.true

pub returns : goal.returns
returns c = from_named c.if-word-lt-TYPE_STEP.false
