-- Two sizes: the one behind has more than 1, and the one before it may grow.
use Rattle.std.proofs.Common.{◌∙◌, le-ltb}
use Rattle.splits.specs.MoveLaws.{may-move-too-little, may-move-if-below}
use Rattle.splits.proofs.may_move.Goals as goal

pub returns-then-behind-gt1 : goal.returns-then-behind-gt1
returns-then-behind-gt1 c = may-move-if-below _ _ c.if-behind-gt1.true

pub returns-else-behind-gt1 : goal.returns-else-behind-gt1
returns-else-behind-gt1 c = le-ltb 1 _ c.if-behind-gt1.false ∙ may-move-too-little _ _ c.if-behind-gt1.false
