-- The type of what an operator gives, by its code.
use Rattle.plain_types.specs.WordLaws.{outcome-int, outcome-bool}
use Rattle.plain_types.proofs.words.outcome.Goals as goal

pub returns-then-o-lt-OPERATOR_EQUAL : goal.returns-then-o-lt-OPERATOR_EQUAL
returns-then-o-lt-OPERATOR_EQUAL c = outcome-int _ c.if-o-lt-OPERATOR_EQUAL.true

pub returns : goal.returns
returns c = outcome-bool _ c.if-o-lt-OPERATOR_EQUAL.false
