-- A type's entry: how many constructors, and the entry of each.
use Rattle.text.specs.Bytes.{step_of}
use Rattle.std.proofs.Common.{sym, ap}
use Rattle.language.specs.HandedOn.{handed_on}
use native.Mathlib.Omega.{arith}
use mathlib.Core.Path.{◌∙◌}
use Rattle.language.specs.Limits.{constructors_most}
use Rattle.text.specs.StepLaws.{ends-within, number-moved}
use Rattle.index.specs.Tables.{type_entry}
use Rattle.index.specs.Enters.{constructor_behind}
use Rattle.index.specs.EnterLaws.{count-refused}
use Rattle.index.specs.TypeEntry.{type-entered}
use Rattle.signatures.proofs.types.type_into.Goals as goal

pub returns-in_err-f : goal.returns-in_err-f
returns-in_err-f c = count-refused 1 constructors_most (constructor_behind _) c.count.ensures type_entry c.in_err-f.was (handed_on c.from_residual.ensures ∙ sym (ap step_of c.in_err-f.was))

pub constructors_into-requires : goal.constructors_into-requires
constructors_into-requires c = record { to_bound = omega arith; place = ends-within (number-moved c.count.ensures.0 c.in_ok-f.was) }

pub returns : goal.returns
returns c = type-entered _ c.count.ensures c.in_ok-f.was c.put.ensures c.constructors_into.ensures
