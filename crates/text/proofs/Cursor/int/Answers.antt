use Rattle.std.proofs.Common.{sym, ◌∙◌}
use Rattle.language.specs.HandedOn.{handed_on}
use native.Mathlib.Omega.{arith}
use Rattle.text.specs.StepLaws.{number-below}
use Rattle.text.specs.IntLaws.{int-first-missing, int-second-missing, int-third-missing, int-last-missing, int_whole}
use Rattle.text.proofs.Cursor.int.Goals as goal

pub returns-in_err-f : goal.returns-in_err-f
returns-in_err-f c = rw (handed_on c.from_residual.ensures ∙ sym c.in_err-f.was) (int-first-missing _ _ c.byte.ensures c.in_err-f.was)

pub returns-in_err-g : goal.returns-in_err-g
returns-in_err-g c = rw (handed_on c.from_residual-in_err-g.ensures ∙ sym c.in_err-g.was) (int-second-missing _ _ c.byte.ensures c.in_ok-f.was c.byte-2.ensures c.in_err-g.was)

pub returns-in_err-h : goal.returns-in_err-h
returns-in_err-h c = rw (handed_on c.from_residual-in_err-h.ensures ∙ sym c.in_err-h.was) (int-third-missing _ _ c.byte.ensures c.in_ok-f.was c.byte-2.ensures c.in_ok-g.was c.byte-3.ensures c.in_err-h.was)

pub returns-in_err-k : goal.returns-in_err-k
returns-in_err-k c = rw (handed_on c.from_residual-in_err-k.ensures ∙ sym c.in_err-k.was) (int-last-missing _ _ c.byte.ensures c.in_ok-f.was c.byte-2.ensures c.in_ok-g.was c.byte-3.ensures c.in_ok-h.was c.byte-4.ensures c.in_err-k.was)

pub overflow_mul-value : goal.overflow_mul-value
overflow_mul-value c = omega (arith, number-below c.byte.ensures.1 c.in_ok-f.was)

pub overflow_mul-value-2 : goal.overflow_mul-value-2
overflow_mul-value-2 c = omega (arith, number-below c.byte-2.ensures.1 c.in_ok-g.was)

pub overflow_add-value : goal.overflow_add-value
overflow_add-value c = omega (arith, number-below c.byte.ensures.1 c.in_ok-f.was, number-below c.byte-2.ensures.1 c.in_ok-g.was)

pub overflow_mul-value-3 : goal.overflow_mul-value-3
overflow_mul-value-3 c = omega (arith, number-below c.byte-3.ensures.1 c.in_ok-h.was)

pub overflow_add-value-2 : goal.overflow_add-value-2
overflow_add-value-2 c = omega (arith, number-below c.byte.ensures.1 c.in_ok-f.was, number-below c.byte-2.ensures.1 c.in_ok-g.was, number-below c.byte-3.ensures.1 c.in_ok-h.was)

pub overflow_add-value-3 : goal.overflow_add-value-3
overflow_add-value-3 c = omega (arith, number-below c.byte.ensures.1 c.in_ok-f.was, number-below c.byte-2.ensures.1 c.in_ok-g.was, number-below c.byte-3.ensures.1 c.in_ok-h.was, number-below c.byte-4.ensures.1 c.in_ok-k.was)

pub returns : goal.returns
returns c = int_whole _ _ c.byte.ensures c.in_ok-f.was c.byte-2.ensures c.in_ok-g.was c.byte-3.ensures c.in_ok-h.was c.byte-4.ensures c.in_ok-k.was
