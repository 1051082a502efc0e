-- A Bool's words.
use Rattle.new_cells.specs.AllocLaws.{bool-made}
use Rattle.new_cells.proofs.new_bool.Goals as goal

pub returns : goal.returns
returns c = bool-made c.new_leaf.ensures
