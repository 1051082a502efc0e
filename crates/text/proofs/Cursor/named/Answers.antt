use Rattle.std.proofs.Common.{sym, ◌∙◌}
use Rattle.language.specs.HandedOn.{handed_on}
use native.Mathlib.Omega.{arith}
use Rattle.text.specs.StepLaws.{number-below}
use Rattle.text.specs.TypeLaws.{named-no-type, named-no-size, named-whole}
use Rattle.text.proofs.Cursor.named.Goals as goal

pub returns-in_err-f : goal.returns-in_err-f
returns-in_err-f c = rw (handed_on c.from_residual.ensures ∙ sym c.in_err-f.was) (named-no-type _ _ _ c.index.ensures c.in_err-f.was)

pub returns-in_err-g : goal.returns-in_err-g
returns-in_err-g c = rw (handed_on c.from_residual-in_err-g.ensures ∙ sym c.in_err-g.was) (named-no-size _ _ _ c.index.ensures c.in_ok-f.was c.count.ensures c.in_err-g.was)

pub overflow_add-result : goal.overflow_add-result
overflow_add-result c = omega (arith, number-below c.index.ensures.1 c.in_ok-f.was)

pub overflow_mul-result : goal.overflow_mul-result
overflow_mul-result c = omega (arith, number-below c.index.ensures.1 c.in_ok-f.was)

pub overflow_add-result-2 : goal.overflow_add-result-2
overflow_add-result-2 c = omega (arith, number-below c.index.ensures.1 c.in_ok-f.was, number-below c.count.ensures.1 c.in_ok-g.was)

pub returns : goal.returns
returns c = named-whole _ _ _ c.index.ensures c.in_ok-f.was c.count.ensures c.in_ok-g.was
