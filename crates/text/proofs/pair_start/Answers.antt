use native.Mathlib.Omega.{arith}
use Rattle.text.specs.Places.{pair-at-end, pair-here}
use Rattle.text.proofs.pair_start.Goals as goal

pub returns-then-line-from : goal.returns-then-line-from
returns-then-line-from c = pair-at-end _ _ c.if-line-from.true

pub returns-then-line-from-ne-SPACE : goal.returns-then-line-from-ne-SPACE
returns-then-line-from-ne-SPACE c = pair-here _ _ (omega arith) c.if-line-from-ne-SPACE.true

pub returns : goal.returns
returns c = c.behind_spaces.ensures
