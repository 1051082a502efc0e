-- One law an operator.
use Rattle.std.proofs.Common.{rules}
use Rattle.operators.specs.OperatorLaws.{sum-computed, difference-computed, product-computed}
use Rattle.operators.proofs.arithmetic.Goals as goal

pub returns-in-0 : goal.returns-in-0
returns-in-0 c = sum-computed c.in-0.is c.wrapping_add_u32.ensures.value

pub returns-in-1 : goal.returns-in-1
returns-in-1 c = difference-computed (search rules) (search rules) c.in-1.is c.wrapping_sub_u32.ensures.value

pub returns-in_default : goal.returns-in_default
returns-in_default c = product-computed c.requires c.in_default.in_default-own.rest.0.1 c.in_default.in_default-own.rest.1 c.times.ensures
