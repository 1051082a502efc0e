-- `variable_at` meets its contract, return by return.
use Rattle.language.specs.Oks.{was_ok, was_err}
use Rattle.heads.specs.Variables.{no_byte, other-code, operand-of}
use Rattle.heads.proofs.variable_at.Goals as goal

pub returns-in_err-f : goal.returns-in_err-f
returns-in_err-f c = rw c.from_residual.ensures (no_byte c.byte.ensures (was_err _ c.ok.ensures.value c.in_err-f.was).1)

pub returns-then-f-ne-EXPR_VARIABLE : goal.returns-then-f-ne-EXPR_VARIABLE
returns-then-f-ne-EXPR_VARIABLE c = other-code c.byte.ensures (was_ok _ c.ok.ensures.value c.in_ok-f.was) c.if-f-ne-EXPR_VARIABLE.true

pub returns : goal.returns
returns c = rw c.ok-2.ensures.value (operand-of c.byte.ensures (was_ok _ c.ok.ensures.value c.in_ok-f.was) c.if-f-ne-EXPR_VARIABLE.false _ c.byte-2.ensures)
