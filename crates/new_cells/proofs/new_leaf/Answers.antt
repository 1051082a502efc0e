-- No cell left, or the next one written.
use Rattle.new_cells.specs.AllocLaws.{heap-spent, cell-made, row_written}
use Rattle.new_cells.proofs.new_leaf.Goals as goal

pub returns-then-state-state_length : goal.returns-then-state-state_length
returns-then-state-state_length c = heap-spent c.state_length.ensures c.if-state-state_length.true

pub returns : goal.returns
returns c = cell-made (row_written _ _ _ c.state_length.ensures c.if-state-state_length.false c.put_leaf.ensures)
