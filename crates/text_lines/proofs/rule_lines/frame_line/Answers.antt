-- Behind each group what is left decides what the line is: the next group behind spaces, the line's end, or nothing good.
use native.Mathlib.Omega.{arith}
use Rattle.text_lines.specs.DigitMarks.{wide-pairs}
use Rattle.text_lines.specs.GroupWalk.{group-missing, group-there, group-cut, group-closed, spaces-within, next-missing, next-there}
use Rattle.text_lines.proofs.rule_lines.frame_line.Goals as goal

pub pairs_end-end-requires : goal.pairs_end-end-requires
pairs_end-end-requires c = c.requires.0

pub returns-then-end-at : goal.returns-then-end-at
returns-then-end-at c = group-missing _ _ (wide-pairs _ _ c.pairs_end-end.ensures c.requires.1) c.if-end-at.true

pub loop-end-init : goal.loop-end-init
loop-end-init c = group-there _ _ (wide-pairs _ _ c.pairs_end-end.ensures c.requires.1) c.requires.0 c.if-end-at.false

pub bounds-text-end : goal.bounds-text-end
bounds-text-end c = c.loop-end-test.true

pub returns-then-text-end-ne-SPACE : goal.returns-then-text-end-ne-SPACE
returns-then-text-end-ne-SPACE c = group-closed c.loop-end.invariant c.loop-end-test.true c.if-text-end-ne-SPACE.true c.frame_close.ensures

pub pairs_end-end-requires-in-loop-end : goal.pairs_end-end-requires-in-loop-end
pairs_end-end-requires-in-loop-end c = (spaces-within c.loop-end.invariant c.loop-end-test.true c.if-text-end-ne-SPACE.false c.behind_spaces-next.ensures).1

pub returns-then-end-next : goal.returns-then-end-next
returns-then-end-next c = next-missing c.loop-end.invariant c.loop-end-test.true c.if-text-end-ne-SPACE.false c.behind_spaces-next.ensures (wide-pairs _ _ c.pairs_end-end-in-loop-end.ensures c.requires.1) c.if-end-next.true

pub loop-end-smaller : goal.loop-end-smaller
loop-end-smaller c = omega (arith, (spaces-within c.loop-end.invariant c.loop-end-test.true c.if-text-end-ne-SPACE.false c.behind_spaces-next.ensures).0, c.pairs_end-end-in-loop-end.ensures, c.loop-end-test.true)

pub loop-end-preserved : goal.loop-end-preserved
loop-end-preserved c = next-there c.loop-end.invariant c.loop-end-test.true c.if-text-end-ne-SPACE.false c.behind_spaces-next.ensures (wide-pairs _ _ c.pairs_end-end-in-loop-end.ensures c.requires.1) c.if-end-next.false

pub returns : goal.returns
returns c = group-cut c.loop-end.invariant c.loop-end-test.false
