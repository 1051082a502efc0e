-- The walk goes over spaces, and stops before the first character that is none.
use Rattle.std.proofs.Common.{◌∙◌}
use Rattle.text.specs.Places.{pair-behind-all, pair-here, pair-further}
use Rattle.text.proofs.behind_spaces.Goals as goal

pub returns-then-line-at-ne-SPACE : goal.returns-then-line-at-ne-SPACE
returns-then-line-at-ne-SPACE c = pair-here _ _ c.loop-at-test.true c.if-line-at-ne-SPACE.true ∙ c.loop-at.invariant

pub loop-at-preserved : goal.loop-at-preserved
loop-at-preserved c = pair-further _ _ c.loop-at-test.true c.if-line-at-ne-SPACE.false ∙ c.loop-at.invariant

pub returns : goal.returns
returns c = pair-behind-all _ c.max.ensures (c.loop-at.auto.at, c.loop-at.auto.at-end) c.loop-at-test.false c.loop-at.invariant
