-- A value laid for each input.
use mathlib.Core.Path.{ap, ◌∙◌}
use native.Mathlib.Omega.{arith}
use Rattle.std.specs.Prelude.{Err}
use Rattle.language.specs.HandedOn.{handed_on}
use Rattle.input_cells.specs.InputsLaidLaws.{values-none, values-start, values-stop, values-laid, inputs-next, input-grows, input-full}
use Rattle.input_cells.proofs.lay_inputs.Goals as goal

pub returns-in_default : goal.returns-in_default
returns-in_default c = values-none c.requires.used_le_cells c.byte.ensures c.in_default.is

pub loop-i-init : goal.loop-i-init
loop-i-init c = values-start c.requires.used_le_cells c.byte.ensures c.in-Ok.is

pub returns-in_err-b : goal.returns-in_err-b
returns-in_err-b c = rw (handed_on c.from_residual.ensures ∙ ap Err (input-full c.in_err-b.ensures.value c.in_err-b.ensures.ok_part)) (values-stop c.requires.used_le_cells c.byte.ensures c.in-Ok.is (c.frame_counts-counts.ensures.0) c.loop-i.invariant c.loop-i-test.true c.lay.ensures c.in_err-b.ensures.ok_part)

pub overflow_sub-top : goal.overflow_sub-top
overflow_sub-top c = omega (arith, (input-grows c.loop-i.invariant c.loop-i-test.true c.lay.ensures c.in_ok-b.ensures.ok_part).0)

pub loop-i-preserved : goal.loop-i-preserved
loop-i-preserved c = inputs-next c.loop-i.invariant c.loop-i-test.true c.lay.ensures c.in_ok-b.ensures.ok_part c.put.ensures

pub returns : goal.returns
returns c = values-laid c.requires.used_le_cells c.byte.ensures c.in-Ok.is (c.frame_counts-counts.ensures.0) c.loop-i.invariant (omega arith) c.loop-i-test.false
