-- The part found is the line at the place: the walk reaches the first LF, or the end.
use native.Mathlib.Omega.{arith}
use Rattle.text_lines.specs.LinesEnd.{reaches-start, reaches-on, line-stops, line-ends, line-missing}
use Rattle.text_lines.proofs.line_at.Goals as goal

pub returns-then-text-at : goal.returns-then-text-at
returns-then-text-at c = line-missing _ _ c.if-text-at.true

pub loop-end-init : goal.loop-end-init
loop-end-init c = reaches-start c.if-text-at.false

pub slice_bounds-result-count-then-text-end-eq-LINE_FEED : goal.slice_bounds-result-count-then-text-end-eq-LINE_FEED
slice_bounds-result-count-then-text-end-eq-LINE_FEED c = omega (arith, c.loop-end.invariant.from)

pub slice_bounds-result-start-then-text-end-eq-LINE_FEED : goal.slice_bounds-result-start-then-text-end-eq-LINE_FEED
slice_bounds-result-start-then-text-end-eq-LINE_FEED c = c.loop-end.invariant.from

pub slice_bounds-result-end-then-text-end-eq-LINE_FEED : goal.slice_bounds-result-end-then-text-end-eq-LINE_FEED
slice_bounds-result-end-then-text-end-eq-LINE_FEED c = c.loop-end.invariant.within

pub returns-then-text-end-eq-LINE_FEED : goal.returns-then-text-end-eq-LINE_FEED
returns-then-text-end-eq-LINE_FEED c = line-stops c.loop-end-test.true c.if-text-end-eq-LINE_FEED.true c.loop-end.invariant

pub loop-end-preserved : goal.loop-end-preserved
loop-end-preserved c = reaches-on c.loop-end-test.true c.if-text-end-eq-LINE_FEED.false c.loop-end.invariant

pub slice_bounds-result-count-2 : goal.slice_bounds-result-count-2
slice_bounds-result-count-2 c = omega (arith, c.if-text-at.false)

pub slice_bounds-result-start-2 : goal.slice_bounds-result-start-2
slice_bounds-result-start-2 c = omega (arith, c.if-text-at.false)

pub returns : goal.returns
returns c = line-ends c.loop-end-test.false c.loop-end.invariant
