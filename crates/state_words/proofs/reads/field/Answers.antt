-- The cell of a field.
use Rattle.state_words.specs.ReadLaws.{field-beyond, reads-field}
use Rattle.state_words.proofs.reads.field.Goals as goal

pub returns-then-used-cell : goal.returns-then-used-cell
returns-then-used-cell c = field-beyond c.if-used-cell.true

pub returns : goal.returns
returns c = reads-field c.if-used-cell.false c.cell_field.ensures
