use Rattle.language.specs.Layout.{tag_step}
use Rattle.cells.specs.CellLaws.{CellsTo, OwnTo}
use Rattle.cells.specs.FieldLaws.{OthersTo}
use Prim.Native.Nat.{◌+◌, ◌-◌, ◌*◌, ◌/◌, ◌≤◌}
use Rattle.cells.proofs.+cell_counts.Given as goal

abbrev pub decreases-cells : goal.decreases-cells
decreases-cells l = l.t * 4096 + (8 * l.k + 1)

abbrev pub decreases-cells_of : goal.decreases-cells_of
decreases-cells_of l = l.word / tag_step * 4096

abbrev pub decreases-constructor_cells : goal.decreases-constructor_cells
decreases-constructor_cells l = l.t * 4096 + 8 * l.k

abbrev pub decreases-field_cells : goal.decreases-field_cells
decreases-field_cells l = l.t * 4096 + 1

abbrev pub decreases-other_cells : goal.decreases-other_cells
decreases-other_cells l = l.t * 4096 + 2

abbrev pub decreases-own_cells : goal.decreases-own_cells
decreases-own_cells l = l.t * 4096 + (8 * l.m + 2)

abbrev pub invariant-cells-loop-c : goal.invariant-cells-loop-c
invariant-cells-loop-c l = CellsTo l.index l.initial.table l.t l.k l.c l.most l.table

abbrev pub invariant-other_cells-loop-i : goal.invariant-other_cells-loop-i
invariant-other_cells-loop-i l = OthersTo l.index l.initial.table l.t l.c l.i l.sum l.table

abbrev pub invariant-own_cells-loop-p : goal.invariant-own_cells-loop-p
invariant-own_cells-loop-p l = (l.p ≤ l.m - (l.r - 1)) × OwnTo l.index l.initial.table l.t l.r l.m l.p l.most l.table
