-- The size of a constructor's cell.
use Rattle.state_words.specs.ReadLaws.{size-beyond, reads-no-size, reads-size}
use Rattle.state_words.proofs.reads.size.Goals as goal

pub returns-then-used-cell : goal.returns-then-used-cell
returns-then-used-cell c = size-beyond c.if-used-cell.true

pub returns-then-cell_tag-lt-CONSTRUCTOR_TAGS : goal.returns-then-cell_tag-lt-CONSTRUCTOR_TAGS
returns-then-cell_tag-lt-CONSTRUCTOR_TAGS c = reads-no-size c.if-used-cell.false c.cell_tag.ensures c.if-cell_tag-lt-CONSTRUCTOR_TAGS.true

pub returns : goal.returns
returns c = reads-size c.if-used-cell.false c.cell_tag.ensures c.cell_value.ensures c.if-cell_tag-lt-CONSTRUCTOR_TAGS.false
