-- The cell of a constructor, if there is one left.
use Rattle.input_cells.specs.Lays.{con_put, con_full}
use Rattle.input_cells.proofs.lay_constructor.Goals as goal

pub returns-then-cells-top : goal.returns-then-cells-top
returns-then-cells-top c = con_full c.if-cells-top.true

pub returns : goal.returns
returns c = con_put c.if-cells-top.false c.put_constructor.ensures
