-- The walk over an expression meets its contract: each need is answered by a law of WalkLaws; the measure is the levels left.
use Rattle.ends.specs.WalkLaws.{walk_none, walk-parts, walk-now, walk-adjust, walk-case, on-more, on-end}
use Rattle.ends.proofs.walk.+expression.Goals as goal
use Rattle.ends.proofs.walk.+expression.Goals.{in-Now, in-Case, in-Adjust, in_default}

pub returns-then-levels-eq0 : goal.returns-then-levels-eq0
returns-then-levels-eq0 t c = walk_none _ _ _ _ _ _ c.if-levels-eq0.true

pub loop-preserved : goal.loop-preserved
loop-preserved t c = on-more c.loop-test.true c.loop.invariant c.expression-part.ensures c.reached-so_far-in-loop.ensures

pub returns : goal.returns
returns t c =
    elim c.match-form.branch [
      | in-Now w ↦ walk-now _ _ _ _ _ _ c.head_at-head.ensures c.if-levels-eq0.false c.parts-n.ensures.0 (on-end c.loop-test.false c.loop.invariant) c.note-arg-1.given.0.1 c.note.ensures w.ends-is w.so_far-is w.reached-so_far.ensures w.in-Now.is w.named.ensures
      | in-Case w ↦ walk-case _ _ _ _ _ _ c.head_at-head.ensures c.if-levels-eq0.false c.parts-n.ensures.0 (on-end c.loop-test.false c.loop.invariant) c.note-arg-1.given.0.1 c.note.ensures w.so_far-is w.reached-so_far-in-Case.ensures w.ends-is w.in-Case.is w.expression-subject.ensures w.note_result.ensures
      | in-Adjust w ↦ walk-adjust _ _ _ _ _ _ c.head_at-head.ensures c.if-levels-eq0.false c.parts-n.ensures.0 (on-end c.loop-test.false c.loop.invariant) c.note-arg-1.given.0.1 c.note.ensures w.so_far-is w.reached-so_far-in-Adjust.ensures w.ends-is w.in-Adjust.is w.note_size.ensures
      | in_default w ↦ walk-parts _ _ _ _ _ _ c.head_at-head.ensures c.if-levels-eq0.false c.parts-n.ensures.0 (on-end c.loop-test.false c.loop.invariant) c.note-arg-1.given.0.1 c.note.ensures w.ends-is w.so_far-is w.reached-so_far-in_default.ensures w.in_default.not-Now w.in_default.not-Case w.in_default.not-Adjust
    ]
