use Rattle.std.proofs.Common.{sym, ◌∙◌}
use Rattle.language.specs.HandedOn.{handed_on}
use native.Mathlib.Omega.{arith}
use Rattle.text.specs.StepLaws.{number-below}
use Rattle.text.specs.TypeLaws.{parameter-no-code, parameter-constant, parameter-no-type, parameter-named}
use Rattle.text.proofs.Cursor.parameter.Goals as goal

pub returns-in_err-f : goal.returns-in_err-f
returns-in_err-f c = rw (handed_on c.from_residual.ensures ∙ sym c.in_err-f.was) (parameter-no-code _ _ _ c.code.ensures c.in_err-f.was)

pub returns-then-form-lt-TYPE_NAMED : goal.returns-then-form-lt-TYPE_NAMED
returns-then-form-lt-TYPE_NAMED c = parameter-constant _ _ _ c.code.ensures c.in_ok-f.was c.if-form-lt-TYPE_NAMED.true

pub returns-in_err-g : goal.returns-in_err-g
returns-in_err-g c = rw (handed_on c.from_residual-in_err-g.ensures ∙ sym c.in_err-g.was) (parameter-no-type _ _ _ c.code.ensures c.in_ok-f.was c.if-form-lt-TYPE_NAMED.false c.index.ensures c.in_err-g.was)

pub overflow_add-result : goal.overflow_add-result
overflow_add-result c = omega (arith, number-below c.index.ensures.1 c.in_ok-g.was)

pub overflow_mul-result : goal.overflow_mul-result
overflow_mul-result c = omega (arith, number-below c.index.ensures.1 c.in_ok-g.was)

pub returns : goal.returns
returns c = parameter-named _ _ _ c.code.ensures c.in_ok-f.was c.if-form-lt-TYPE_NAMED.false c.index.ensures c.in_ok-g.was
