-- One law an operator.
use Rattle.operators.specs.OperatorLaws.{and-decided, or-decided, none-decided}
use Rattle.operators.proofs.decides.Goals as goal

pub returns-in-6 : goal.returns-in-6
returns-in-6 c = and-decided _ c.in-6.is

pub returns-in-7 : goal.returns-in-7
returns-in-7 c = or-decided _ c.in-7.is

pub returns-in_default : goal.returns-in_default
returns-in_default c = none-decided _ c.in_default.in_default-own.rest.0.1 c.in_default.in_default-own.rest.1
