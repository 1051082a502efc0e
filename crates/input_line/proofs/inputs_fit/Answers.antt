-- The values of a line, one for each input.
use native.Mathlib.Omega.{arith}
use Rattle.input_line.specs.InputLaws.{inputs-empty, inputs-other, inputs-start, inputs-stop, inputs_on, inputs_end}
use Rattle.input_line.proofs.inputs_fit.Goals as goal

pub returns-in_default : goal.returns-in_default
returns-in_default c = inputs-empty _ _ c.byte.ensures c.in_default.is

pub returns-then-f-ne-KIND_INPUT_LINE : goal.returns-then-f-ne-KIND_INPUT_LINE
returns-then-f-ne-KIND_INPUT_LINE c = inputs-other _ _ c.byte.ensures c.in-Ok.is c.if-f-ne-KIND_INPUT_LINE.true

pub loop-i-init : goal.loop-i-init
loop-i-init c = inputs-start _ _ c.byte.ensures c.in-Ok.is

pub returns-in_default-value : goal.returns-in_default-value
returns-in_default-value c = inputs-stop _ _ c.byte.ensures c.in-Ok.is c.if-f-ne-KIND_INPUT_LINE.false (c.frame_counts-counts.ensures.0) c.loop-i.invariant c.loop-i-test.true c.declared_word.ensures c.value.ensures c.in_default-value.is

pub loop-i-preserved : goal.loop-i-preserved
loop-i-preserved c = inputs_on c.loop-i.invariant c.loop-i-test.true c.declared_word.ensures c.value.ensures c.in-Some.is

pub returns : goal.returns
returns c = inputs_end _ _ c.byte.ensures c.in-Ok.is c.if-f-ne-KIND_INPUT_LINE.false (c.frame_counts-counts.ensures.0) c.loop-i.invariant (omega arith) c.loop-i-test.false c.more.ensures
