-- An Int's words.
use borrow.Author.Rules.{rules}
use Rattle.new_cells.specs.AllocLaws.{int-made}
use Rattle.new_cells.proofs.new_int.Goals as goal

pub returns : goal.returns
returns c = int-made (search rules) c.new_leaf.ensures
