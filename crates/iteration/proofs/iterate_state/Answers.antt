-- An iteration on a valid state.
use mathlib.Core.List.{[]}
use native.Mathlib.Omega.{arith}
use mathlib.Core.Path.{◌∙◌}
use Rattle.iteration.specs.WholeLaws.{iterates-refused, collects-there, iterates-done}
use Rattle.iteration.proofs.iterate_state.Goals as goal

pub update-updated-requires : goal.update-updated-requires
update-updated-requires c = c.requires.begun

pub clear_cells-requires : goal.clear_cells-requires
clear_cells-requires c = record { from_le_to = omega (arith, c.used_cells-used.ensures, c.requires.begun.used); to_in_bounds = omega (arith, c.requires.begun.board, c.update-updated.ensures.kept.long) }

pub shape_of-state-in_default : goal.shape_of-state-in_default
shape_of-state-in_default c = c.clear_cells.auto.state ∙ c.update-updated.ensures.kept.long

pub shape_of-slots-in_default : goal.shape_of-slots-in_default
shape_of-slots-in_default c = c.update-updated.ensures.long

pub returns-in_default : goal.returns-in_default
returns-in_default c = iterates-refused _ _ _ _ _ _ _ _ _ _ c.requires.begun c.take_channels.ensures c.update-updated.ensures c.used_cells-used.ensures c.in_default.is c.clear_cells.ensures

pub overflow_add-n : goal.overflow_add-n
overflow_add-n c = omega (arith, c.frame_counts-counts.ensures.1.inputs, c.frame_counts-counts.ensures.1.nodes)

pub collect-requires : goal.collect-requires
collect-requires c =
    let room = collects-there _ _ _ _ _ _ _ _ [] _ c.requires.begun c.take_channels.ensures c.update-updated.ensures c.in-Ok.is c.frame_counts-counts.ensures.0 c.put_channels.ensures c.requires.cells_in_bounds in
    record { channels_le_channels_most = room.0; used_in_bounds = room.1.0; used_in_bounds_2 = room.1.1 }

pub shape_of-state : goal.shape_of-state
shape_of-state c = c.collect.auto.state ∙ c.put_channels.auto.state ∙ c.update-updated.ensures.kept.long

pub shape_of-scratch : goal.shape_of-scratch
shape_of-scratch c = c.collect.auto.scratch

pub shape_of-slots : goal.shape_of-slots
shape_of-slots c = c.update-updated.ensures.long

pub returns : goal.returns
returns c = iterates-done _ _ _ _ _ _ _ _ _ _ c.requires.begun c.take_channels.ensures c.update-updated.ensures c.in-Ok.is c.frame_counts-counts.ensures.0 c.put_channels.ensures c.collect.ensures
