-- An initial value is of an allowed form and of the declared type.
use Rattle.std.proofs.Common.{sym, ◌∙◌}
use Rattle.plain_types.specs.FrameLaws.{initial-unfit, initial-fits}
use Rattle.plain_types.proofs.frames.initial_agrees.Goals as goal

pub returns-then-is_some : goal.returns-then-is_some
returns-then-is_some c = initial-fits _ _ _ _ c.initial_start-at.ensures c.line_behind_types-line.ensures c.frame_line-part.ensures c.initial.ensures (sym c.is_some.ensures ∙ c.if-is_some.true) c.value_agrees.ensures

pub returns-else-is_some : goal.returns-else-is_some
returns-else-is_some c = rw c.if-is_some.false (initial-unfit _ _ _ _ c.initial_start-at.ensures c.line_behind_types-line.ensures c.frame_line-part.ensures c.initial.ensures (sym c.is_some.ensures ∙ c.if-is_some.false))
