-- The walk goes over pairs of digits, and stops before the first character that is none.
use Prim.Native.Nat.{◌+◌}
use native.Mathlib.Omega.{arith}
use Rattle.text_lines.specs.LinesPairs.{pairs-on, pairs-stop, pairs-halve, pairs_end}
use Rattle.text_lines.proofs.pairs_end.Goals as goal

pub eights_end-end-requires : goal.eights_end-end-requires
eights_end-end-requires c = c.requires

pub loop-end-init : goal.loop-end-init
loop-end-init c = c.eights_end-end.ensures

pub overflow_sub-text : goal.overflow_sub-text
overflow_sub-text c = c.loop-end.invariant.within

pub bounds-text-end : goal.bounds-text-end
bounds-text-end c = omega (arith, c.loop-end-test.true, c.loop-end.invariant.within)

pub overflow_cast-text : goal.overflow_cast-text
overflow_cast-text c = omega (arith, c.shared_slice_known-in-loop-end-1.given c.loop-end.end)

pub bounds-digits-text : goal.bounds-digits-text
bounds-digits-text c = omega (arith, c.shared_slice_known-in-loop-end-1.given c.loop-end.end)

pub returns-then-digits-text-eq0 : goal.returns-then-digits-text-eq0
returns-then-digits-text-eq0 c = pairs-stop c.loop-end.invariant (omega (arith, c.loop-end-test.true, c.loop-end.invariant.within)) c.if-digits-text-eq0.true

pub overflow_add-end : goal.overflow_add-end
overflow_add-end c = omega (arith, c.loop-end-test.true, c.loop-end.invariant.within)

pub bounds-text-end-in-loop-end : goal.bounds-text-end-in-loop-end
bounds-text-end-in-loop-end c = omega (arith, c.loop-end-test.true, c.loop-end.invariant.within)

pub overflow_cast-text-in-loop-end : goal.overflow_cast-text-in-loop-end
overflow_cast-text-in-loop-end c = omega (arith, c.shared_slice_known-in-loop-end-2-1.given (c.loop-end.end + 1))

pub bounds-digits-text-in-loop-end : goal.bounds-digits-text-in-loop-end
bounds-digits-text-in-loop-end c = omega (arith, c.shared_slice_known-in-loop-end-2-1.given (c.loop-end.end + 1))

pub returns-then-digits-text-eq0-2 : goal.returns-then-digits-text-eq0-2
returns-then-digits-text-eq0-2 c = pairs-halve c.loop-end.invariant (omega (arith, c.loop-end-test.true, c.loop-end.invariant.within)) c.if-digits-text-eq0.false c.if-digits-text-eq0-2.true

pub overflow_add-end-in-loop-end : goal.overflow_add-end-in-loop-end
overflow_add-end-in-loop-end c = omega (arith, c.loop-end-test.true, c.loop-end.invariant.within)

pub loop-end-smaller : goal.loop-end-smaller
loop-end-smaller c = omega (arith, c.loop-end-test.true, c.loop-end.invariant.within)

pub loop-end-preserved : goal.loop-end-preserved
loop-end-preserved c = pairs-on c.loop-end.invariant (omega (arith, c.loop-end-test.true, c.loop-end.invariant.within)) c.if-digits-text-eq0.false c.if-digits-text-eq0-2.false

pub returns : goal.returns
returns c = pairs_end c.loop-end.invariant (omega (arith, c.loop-end-test.false))
