-- The record behind those in use: the function, its sizes, and zeros; what is noted changes no word of the list.
use Rattle.instances.specs.WriteLaws.{added-not, added}
use Rattle.instances.proofs.add.Goals as goal

pub returns-then-list-at : goal.returns-then-list-at
returns-then-list-at c = (added-not _ _ _ _ c.if-list-at.true, c.note.ensures)

pub returns : goal.returns
returns c = (added _ _ _ _ c.if-list-at.false c.put.ensures c.put_sizes.ensures c.nothing.ensures c.put_numbers.ensures, c.note.ensures)
