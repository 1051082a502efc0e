-- The size in a word.
use Rattle.type_rows.specs.RowWordLaws.{size-of-plain, size-of-named}
use Rattle.type_rows.proofs.size_in.Goals as goal

pub returns-then-word-lt-TYPE_STEP : goal.returns-then-word-lt-TYPE_STEP
returns-then-word-lt-TYPE_STEP c = size-of-plain c.if-word-lt-TYPE_STEP.true

pub returns : goal.returns
returns c = size-of-named c.if-word-lt-TYPE_STEP.false
