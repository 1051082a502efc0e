-- The constructor of a cell.
use Rattle.state_words.specs.ReadLaws.{constructor-beyond, reads-no-constructor, reads-constructor}
use Rattle.state_words.proofs.reads.constructor.Goals as goal

pub returns-then-used-cell : goal.returns-then-used-cell
returns-then-used-cell c = constructor-beyond c.if-used-cell.true

pub returns-then-tag-lt-CONSTRUCTOR_TAGS : goal.returns-then-tag-lt-CONSTRUCTOR_TAGS
returns-then-tag-lt-CONSTRUCTOR_TAGS c = reads-no-constructor c.if-used-cell.false c.cell_tag-tag.ensures c.if-tag-lt-CONSTRUCTOR_TAGS.true

pub returns : goal.returns
returns c = reads-constructor c.if-used-cell.false c.cell_tag-tag.ensures c.if-tag-lt-CONSTRUCTOR_TAGS.false c.tag_constructor.ensures
