-- A field at each turn.
use Rattle.state_words.specs.Words.{field_at}
use Rattle.marking.specs.MarkLaws.{touched-start, touched-on}
use Rattle.marking.proofs.mark_fields.Goals as goal

pub loop-j-init : goal.loop-j-init
loop-j-init c = touched-start (field_at c.args.state.now c.args.cell) _

pub loop-j-preserved : goal.loop-j-preserved
loop-j-preserved c = touched-on (field_at c.args.state.now c.args.cell) c.loop-j.invariant c.cell_field-l.ensures c.mark.ensures
