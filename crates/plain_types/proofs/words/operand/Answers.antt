-- The type of an operator's operands, by its code.
use Rattle.plain_types.specs.WordLaws.{operand-int, operand-bool}
use Rattle.plain_types.proofs.words.operand.Goals as goal

pub returns-then-o-lt-OPERATOR_AND : goal.returns-then-o-lt-OPERATOR_AND
returns-then-o-lt-OPERATOR_AND c = operand-int _ c.if-o-lt-OPERATOR_AND.true

pub returns : goal.returns
returns c = operand-bool _ c.if-o-lt-OPERATOR_AND.false
