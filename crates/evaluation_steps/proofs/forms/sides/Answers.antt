-- How many sides of an operator are operands.
use native.Mathlib.Omega.{arith}
use mathlib.Core.Path.{sym}
use Rattle.evaluation_steps.specs.Forms.{one_side, two-sides}
use Rattle.evaluation_steps.proofs.forms.sides.Goals as goal

pub returns-then-o-ge-OPERATOR_AND : goal.returns-then-o-ge-OPERATOR_AND
returns-then-o-ge-OPERATOR_AND c = (sym (one_side _ c.if-o-ge-OPERATOR_AND.true), omega arith)

pub returns : goal.returns
returns c = (sym (two-sides _ c.if-o-ge-OPERATOR_AND.false), omega arith)
