-- The types of a constructor's fields, written into a scope one by one.
use Rattle.type_rows.specs.BindLaws.{binding-start, binding-on, binding-end}
use Rattle.type_rows.proofs.bind_fields.Goals as goal

pub loop-i-init : goal.loop-i-init
loop-i-init c = binding-start _ _ _ _ _ _ _ _

pub loop-i-preserved : goal.loop-i-preserved
loop-i-preserved c = rw c.put.ensures (binding-on c.fields-n.ensures c.loop-i.invariant c.loop-i-test.true c.field_word-field.ensures c.byte_at-size.ensures.0 c.bound_word-word.ensures c.one_if-next.ensures)

pub returns : goal.returns
returns c = binding-end c.fields-n.ensures c.loop-i.invariant c.loop-i-test.false
