-- The Int of a cell.
use Rattle.state_words.specs.ReadLaws.{number-beyond, reads-no-number, reads-number}
use Rattle.state_words.proofs.reads.number.Goals as goal

pub returns-then-used-cell : goal.returns-then-used-cell
returns-then-used-cell c = number-beyond c.if-used-cell.true

pub returns-then-cell_tag-ne-INT_TAG : goal.returns-then-cell_tag-ne-INT_TAG
returns-then-cell_tag-ne-INT_TAG c = reads-no-number c.if-used-cell.false c.cell_tag.ensures c.if-cell_tag-ne-INT_TAG.true

pub returns : goal.returns
returns c = reads-number c.if-used-cell.false c.cell_tag.ensures c.cell_value.ensures c.if-cell_tag-ne-INT_TAG.false
