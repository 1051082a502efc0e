-- One line with its LF, judged by its values.
use mathlib.Core.Path.{refl}
use native.Mathlib.Omega.{arith}
use Rattle.input_line.specs.LineLaws.{line-room, line-bad, line-longer, line-whole}
use Rattle.input_line.proofs.allowed_line.Goals as goal

pub returns-in_default : goal.returns-in_default
returns-in_default c = line-bad _ _ c.line_end.ensures c.in_default.is

pub overflow_sub-line : goal.overflow_sub-line
overflow_sub-line c = omega (arith, line-room _ c.line_end.ensures c.in-Some.is)

pub returns-then-line-end-ne1 : goal.returns-then-line-end-ne1
returns-then-line-end-ne1 c = line-longer _ _ c.line_end.ensures c.in-Some.is c.if-line-end-ne1.true

pub returns : goal.returns
returns c = line-whole _ _ c.line_end.ensures c.in-Some.is c.if-line-end-ne1.false refl c.inputs_fit.ensures
