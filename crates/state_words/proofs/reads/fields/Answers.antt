-- How many fields a cell has.
use Rattle.state_words.specs.ReadLaws.{count-beyond, reads-count}
use Rattle.state_words.proofs.reads.fields.Goals as goal

pub returns-then-used-cell : goal.returns-then-used-cell
returns-then-used-cell c = count-beyond c.if-used-cell.true

pub returns : goal.returns
returns c = reads-count c.if-used-cell.false c.cell_tag.ensures c.field_count.ensures.0
