use native.Mathlib.Omega.{arith}
use Rattle.size_steps.specs.LeafLaws.{operator-int, operator-bool}
use Rattle.size_steps.proofs.numbers.operator_type.Goals as goal

pub returns-then-o-le-OPERATOR_TIMES : goal.returns-then-o-le-OPERATOR_TIMES
returns-then-o-le-OPERATOR_TIMES c = operator-int c.if-o-le-OPERATOR_TIMES.true

pub returns : goal.returns
returns c = operator-bool (omega (arith, c.if-o-le-OPERATOR_TIMES.false))
