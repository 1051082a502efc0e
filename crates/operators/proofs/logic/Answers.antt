-- And, or.
use Rattle.operators.specs.OperatorLaws.{and-computed, or-computed}
use Rattle.operators.proofs.logic.Goals as goal

pub returns-then-o-eq-OPERATOR_AND : goal.returns-then-o-eq-OPERATOR_AND
returns-then-o-eq-OPERATOR_AND c = and-computed _ _ c.if-o-eq-OPERATOR_AND.true

pub returns : goal.returns
returns c = or-computed _ _ c.requires c.if-o-eq-OPERATOR_AND.false
