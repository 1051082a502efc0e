-- The cycle of functions that skip an expression meets its contracts: each need is answered by a law of SkipLaws; the measure is
-- levels left, then the place in the cycle.
use Rattle.heads.specs.SkipLaws.{skip-none, skip-parts, skip-adjust, skip-case, several-none, several-done}
use Rattle.heads.proofs.skip.+skipping.Goals as goal
use Rattle.heads.proofs.skip.+skipping.Goals.{skip-in-Case, skip-in-Adjust, skip-in_default}

-- levels first, then the place in the cycle; a list by what is left of it

pub skip-returns-then-levels-eq0 : goal.skip-returns-then-levels-eq0
skip-returns-then-levels-eq0 t c = skip-none _ _ _ _ _ c.if-levels-eq0.true

pub skip-returns : goal.skip-returns
skip-returns t c =
    elim c.match-form.branch [
      | skip-in-Case w ↦ skip-case _ _ _ _ _ c.head_at-head.ensures c.if-levels-eq0.false c.parts-n.ensures.0 c.skip_several.ensures w.first-is w.in-Case.is w.skip-result.ensures w.behind_result-first.ensures
      | skip-in-Adjust w ↦ skip-adjust _ _ _ _ _ c.head_at-head.ensures c.if-levels-eq0.false c.parts-n.ensures.0 c.skip_several.ensures w.first-is w.in-Adjust.is w.behind_size-first.ensures
      | skip-in_default w ↦ skip-parts _ _ _ _ _ c.head_at-head.ensures c.if-levels-eq0.false c.parts-n.ensures.0 c.skip_several.ensures w.first-is w.in_default.not-Case w.in_default.not-Adjust
    ]

pub skip_several-returns-then-n-eq0 : goal.skip_several-returns-then-n-eq0
skip_several-returns-then-n-eq0 t c = several-none _ _ _ _ _ c.if-n-eq0.true

pub skip_several-returns : goal.skip_several-returns
skip_several-returns t c = several-done _ _ _ _ _ c.if-n-eq0.false c.skip-next.ensures c.skip_several.ensures
