-- The first words of a function's entry: how many parameters, and the word of each.
use Rattle.text.specs.Bytes.{step_of}
use Rattle.std.proofs.Common.{sym, ap}
use Rattle.language.specs.HandedOn.{handed_on}
use native.Mathlib.Omega.{arith}
use mathlib.Core.Path.{◌∙◌}
use Rattle.language.specs.Limits.{parameters_most}
use Rattle.language.specs.ReadExpr.{plain}
use Rattle.text.specs.StepLaws.{ends-within, number-moved}
use Rattle.index.specs.Enters.{parameters_entry}
use Rattle.index.specs.EnterLaws.{count-refused}
use Rattle.signatures.specs.FunctionEntry.{parameters-entered}
use Rattle.signatures.proofs.functions.head_into.Goals as goal

pub returns-in_err-g : goal.returns-in_err-g
returns-in_err-g c = count-refused 0 parameters_most (plain _) c.count.ensures parameters_entry c.in_err-g.was (handed_on c.from_residual.ensures ∙ sym (ap step_of c.in_err-g.was))

pub parameters_into-requires : goal.parameters_into-requires
parameters_into-requires c = record { to_bound = omega arith; place = ends-within (number-moved c.count.ensures.0 c.in_ok-g.was) }

pub returns : goal.returns
returns c = parameters-entered _ c.count.ensures c.in_ok-g.was c.put.ensures c.parameters_into.ensures
