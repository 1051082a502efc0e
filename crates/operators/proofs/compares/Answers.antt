-- One law a comparison.
use Rattle.operators.specs.OperatorLaws.{equal-computed, less-computed, at-most-computed}
use Rattle.operators.proofs.compares.Goals as goal

pub returns-in-3 : goal.returns-in-3
returns-in-3 c = equal-computed c.in-3.is

pub returns-in-4 : goal.returns-in-4
returns-in-4 c = less-computed c.in-4.is c.less.ensures

pub returns-in_default : goal.returns-in_default
returns-in_default c = at-most-computed c.requires.operator_equal_le_o c.requires.o_lt_operator_and c.in_default.in_default-own.rest.0.1 c.in_default.in_default-own.rest.1 c.less-in_default.ensures
