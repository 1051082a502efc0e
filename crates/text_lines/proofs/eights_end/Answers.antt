-- Eight digits at a time, the walk stays at a place that is reached by pairs.
use native.Mathlib.Omega.{arith}
use Rattle.text_lines.specs.LinesPairs.{pairs_start}
use Rattle.text_lines.specs.LinesEights.{pairs-behind}
use Rattle.text_lines.proofs.eights_end.Goals as goal

pub loop-end-init : goal.loop-end-init
loop-end-init c = pairs_start c.requires

pub overflow_sub-text : goal.overflow_sub-text
overflow_sub-text c = c.loop-end.invariant.within

pub eight_digits-requires : goal.eight_digits-requires
eight_digits-requires c = omega (arith, c.loop-end-test.true, c.loop-end.invariant.within)

pub returns-then-not-eight_digits : goal.returns-then-not-eight_digits
returns-then-not-eight_digits c = c.loop-end.invariant

pub overflow_add-end : goal.overflow_add-end
overflow_add-end c = omega (arith, c.loop-end-test.true, c.loop-end.invariant.within)

pub loop-end-smaller : goal.loop-end-smaller
loop-end-smaller c = omega (arith, c.loop-end-test.true, c.loop-end.invariant.within)

pub loop-end-preserved : goal.loop-end-preserved
loop-end-preserved c = pairs-behind c.loop-end.invariant (c.eight_digits.ensures c.if-not-eight_digits.false)

pub returns : goal.returns
returns c = c.loop-end.invariant
