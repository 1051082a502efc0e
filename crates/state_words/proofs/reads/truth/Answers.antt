-- The Bool of a cell.
use Rattle.state_words.specs.ReadLaws.{truth-beyond, reads-not-true, reads-truth}
use Rattle.state_words.proofs.reads.truth.Goals as goal

pub returns-then-used-cell : goal.returns-then-used-cell
returns-then-used-cell c = truth-beyond c.if-used-cell.true

pub returns-then-cell_tag-ne-BOOL_TAG : goal.returns-then-cell_tag-ne-BOOL_TAG
returns-then-cell_tag-ne-BOOL_TAG c = reads-not-true c.if-used-cell.false c.cell_tag.ensures c.if-cell_tag-ne-BOOL_TAG.true

pub returns : goal.returns
returns c = reads-truth c.if-used-cell.false c.cell_tag.ensures c.cell_value.ensures c.if-cell_tag-ne-BOOL_TAG.false
