-- Counts against the limits, one by one.
use native.Mathlib.Omega.{arith}
use Rattle.size_laws.specs.ChannelLaws.{many-types, many-functions, many-inputs, limited-nodes}
use Rattle.size_checker.proofs.file.limited.Goals as goal

pub returns-then-n-gt-TYPES_MOST : goal.returns-then-n-gt-TYPES_MOST
returns-then-n-gt-TYPES_MOST c = many-types c.if-n-gt-TYPES_MOST.true

pub returns-then-n-gt-FUNCTIONS_MOST : goal.returns-then-n-gt-FUNCTIONS_MOST
returns-then-n-gt-FUNCTIONS_MOST c = many-functions c.if-n-gt-FUNCTIONS_MOST.true

pub returns-then-n-gt-INPUTS_MOST : goal.returns-then-n-gt-INPUTS_MOST
returns-then-n-gt-INPUTS_MOST c = many-inputs c.if-n-gt-INPUTS_MOST.true

pub returns : goal.returns
returns c = limited-nodes (omega (arith, c.if-n-gt-TYPES_MOST.false)) (omega (arith, c.if-n-gt-FUNCTIONS_MOST.false)) (omega (arith, c.if-n-gt-INPUTS_MOST.false))
