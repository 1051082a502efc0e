-- A field's number at each turn.
use lib.ListN.{get_or}
use mathlib.Core.Path.{◌∙◌, ap}
use Rattle.state_words.specs.Words.{field_at}
use Rattle.sliding.specs.SlideLaws.{filled-start, filled_on}
use Rattle.sliding.proofs.new_fields.Goals as goal

pub loop-j-init : goal.loop-j-init
loop-j-init c = filled-start (λ k. get_or c.args.marks.now (field_at c.args.state.now c.args.cell k) 0) _

pub loop-j-preserved : goal.loop-j-preserved
loop-j-preserved c = filled_on (λ k. get_or c.args.marks.now (field_at c.args.state.now c.args.cell k) 0) c.loop-j.invariant (c.new_number-number.ensures ∙ ap (λ l. get_or c.args.marks.now l 0) c.cell_field-l.ensures) c.put.ensures
