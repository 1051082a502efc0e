-- An iteration with the board's words lent.
use mathlib.Core.List.{[]}
use Rattle.std.proofs.Common.{refl}
use Rattle.runtime.specs.IterateLaws.{reached-done, reached-refused}
use Rattle.runtime.specs.LentLaws.{state-refused, line_refused, begun, scratch-room, lent-iterated}
use Rattle.runtime.proofs.iterate_lent.Goals as goal

pub returns-then-not-valid_state : goal.returns-then-not-valid_state
returns-then-not-valid_state c = state-refused _ _ _ _ _ _ _ _ _ _ c.requires c.valid_state.ensures c.if-not-valid_state.true

pub returns-then-not-allowed_line : goal.returns-then-not-allowed_line
returns-then-not-allowed_line c = line_refused _ _ _ _ _ _ _ _ _ _ c.requires c.valid_state.ensures c.if-not-valid_state.false c.allowed_line.ensures c.if-not-allowed_line.true

pub iterate_state-requires : goal.iterate_state-requires
iterate_state-requires c = record { begun = begun _ _ _ _ [] _ 0 _ _ [] c.requires c.valid_state.ensures c.if-not-valid_state.false; cells_in_bounds = scratch-room _ _ _ _ [] _ 0 _ _ [] c.requires c.valid_state.ensures c.if-not-valid_state.false }

pub returns-in-Ok : goal.returns-in-Ok
returns-in-Ok c = lent-iterated _ _ _ _ _ _ _ _ _ _ c.requires c.valid_state.ensures c.if-not-valid_state.false c.allowed_line.ensures c.if-not-allowed_line.false c.iterate_state.ensures (reached-done _ c.in-Ok.is)

pub returns-in-Err : goal.returns-in-Err
returns-in-Err c = lent-iterated _ _ _ _ _ _ _ _ _ _ c.requires c.valid_state.ensures c.if-not-valid_state.false c.allowed_line.ensures c.if-not-allowed_line.false c.iterate_state.ensures (reached-refused _ c.in-Err.is c.channel_frame.ensures)
