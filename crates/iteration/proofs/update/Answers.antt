-- The inputs laid, and the nodes updated.
use Rattle.std.proofs.Common.{ap, Err, rules}
use Rattle.language.specs.HandedOn.{handed_on}
use mathlib.Core.List.{[]}
use native.Mathlib.Omega.{arith}
use mathlib.Core.Path.{◌∙◌}
use Rattle.iteration.specs.NodesLaws.{mapped-ok, mapped-err}
use Rattle.iteration.specs.FedLaws.{fed-full, fed-board, fed-done}
use Rattle.iteration.proofs.update.Goals as goal

pub put_inputs-requires : goal.put_inputs-requires
put_inputs-requires c = record { cells_in_bounds = omega (arith, c.requires.board); used_le_cells = omega (arith, c.used_cells-used.ensures, c.requires.used) }

pub shape_of-state-in_err-fed : goal.shape_of-state-in_err-fed
shape_of-state-in_err-fed c = c.put_inputs.ensures.kept.long

pub returns-in_err-fed : goal.returns-in_err-fed
returns-in_err-fed c = fed-full _ _ _ _ _ _ _ _ _ _ c.requires c.used_cells-used.ensures c.put_inputs.ensures (mapped-err c.put_inputs.result _ c.map_err.ensures.cases c.in_err-fed.was).1 (let p = (mapped-err c.put_inputs.result _ c.map_err.ensures.cases c.in_err-fed.was).2 in handed_on c.from_residual.ensures ∙ ap Err (search (rules, p)))

pub update_nodes-requires : goal.update_nodes-requires
update_nodes-requires c = record { board = fed-board [] _ [] [] _ _ 0 _ _ [] c.requires c.used_cells-used.ensures c.put_inputs.ensures (mapped-ok c.put_inputs.result _ c.map_err.ensures.cases c.in_ok-fed.was); few_channels = c.requires.few }

pub shape_of-state : goal.shape_of-state
shape_of-state c = c.update_nodes.ensures.kept.long ∙ c.put_inputs.ensures.kept.long

pub shape_of-slots : goal.shape_of-slots
shape_of-slots c = c.update_nodes.ensures.long

pub returns : goal.returns
returns c = fed-done _ _ _ _ _ _ _ _ _ _ c.requires c.used_cells-used.ensures c.put_inputs.ensures (mapped-ok c.put_inputs.result _ c.map_err.ensures.cases c.in_ok-fed.was) c.update_nodes.ensures
