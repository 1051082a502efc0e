-- What is computed on the constants of the cells is what the operator gives.
use Rattle.operators.specs.OperatorLaws.{numbers-operated, numbers-compared, truths-operated}
use Rattle.operators.proofs.operate.Goals as goal

pub returns-then-o-ge-OPERATOR_AND : goal.returns-then-o-ge-OPERATOR_AND
returns-then-o-ge-OPERATOR_AND c = truths-operated c.truth.ensures c.truth-then-o-ge-OPERATOR_AND.ensures c.if-o-ge-OPERATOR_AND.true c.logic-holds.ensures c.one_if.ensures.0 c.new_bool.ensures

pub returns-then-o-ge-OPERATOR_EQUAL : goal.returns-then-o-ge-OPERATOR_EQUAL
returns-then-o-ge-OPERATOR_EQUAL c = numbers-compared c.number-a.ensures c.number-b.ensures c.if-o-ge-OPERATOR_AND.false c.compares.ensures c.one_if-then-o-ge-OPERATOR_EQUAL.ensures.0 c.new_bool-then-o-ge-OPERATOR_EQUAL.ensures

pub returns : goal.returns
returns c = numbers-operated c.number-a.ensures c.number-b.ensures c.if-o-ge-OPERATOR_AND.false c.arithmetic.ensures c.new_int.ensures
