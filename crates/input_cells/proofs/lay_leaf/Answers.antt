-- The cell of a Bool or an Int, if there is one left.
use Rattle.input_cells.specs.Lays.{leaf_put, leaf_full}
use Rattle.input_cells.proofs.lay_leaf.Goals as goal

pub returns-then-cells-used : goal.returns-then-cells-used
returns-then-cells-used c = leaf_full c.if-cells-used.true

pub returns : goal.returns
returns c = leaf_put c.if-cells-used.false c.put_leaf.ensures
