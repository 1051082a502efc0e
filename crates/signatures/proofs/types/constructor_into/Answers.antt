-- A constructor's entry: its fields' words, and before them how many, and how many of the type itself.
use Rattle.text.specs.Bytes.{step_of}
use Rattle.std.proofs.Common.{sym, ap}
use Rattle.language.specs.HandedOn.{handed_on}
use native.Mathlib.Omega.{arith}
use mathlib.Core.Path.{◌∙◌}
use Rattle.language.specs.Limits.{fields_most}
use Rattle.language.specs.ReadExpr.{field}
use Rattle.text.specs.StepLaws.{ends-within, number-moved}
use Rattle.index.specs.Tables.{constructor_entry}
use Rattle.index.specs.EnterLaws.{count-refused}
use Rattle.index.specs.TypeEntry.{constructor-entered}
use Rattle.signatures.proofs.types.constructor_into.Goals as goal

pub returns-in_err-f : goal.returns-in_err-f
returns-in_err-f c = count-refused 0 fields_most (field _) c.count.ensures constructor_entry c.in_err-f.was (handed_on c.from_residual.ensures ∙ sym (ap step_of c.in_err-f.was))

pub fields_into-y-requires : goal.fields_into-y-requires
fields_into-y-requires c = record { to_bound = omega (arith, c.requires); place = ends-within (number-moved c.count.ensures.0 c.in_ok-f.was) }

pub returns : goal.returns
returns c = constructor-entered _ c.count.ensures c.in_ok-f.was c.fields_into-y.ensures c.own_among-own.ensures c.put.ensures c.put-2.ensures
