-- The cell read, its fields renumbered, and written.
use mathlib.Core.Path.{refl}
use Rattle.sliding.specs.SlideLaws.{move-written}
use Rattle.sliding.proofs.move_cell.Goals as goal

pub returns : goal.returns
returns c = move-written c.args.state.now c.args.marks.now c.args.cell c.args.to c.args.n (c.new_fields.ensures.is refl) c.cell_tag-tag.ensures c.cell_value-value.ensures c.put_constructor.ensures
