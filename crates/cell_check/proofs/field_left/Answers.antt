-- A field of the type itself, or of the type that its word stands for.
use Rattle.cell_check.specs.FieldLaws.{field-read, field-own, field-typed}
use Rattle.cell_check.proofs.field_left.Goals as goal

pub returns-then-word-eq-OWN_FIELD : goal.returns-then-word-eq-OWN_FIELD
returns-then-word-eq-OWN_FIELD c = field-own (field-read c.args.index.now c.args.state.now c.args.cell c.args.tag c.args.j c.tag_type.ensures c.tag_constructor.ensures c.field_word-word.ensures c.cell_field-l.ensures) c.if-word-eq-OWN_FIELD.true c.own_left.ensures

pub returns : goal.returns
returns c = field-typed (field-read c.args.index.now c.args.state.now c.args.cell c.args.tag c.args.j c.tag_type.ensures c.tag_constructor.ensures c.field_word-word.ensures c.cell_field-l.ensures) c.if-word-eq-OWN_FIELD.false c.location_fits.ensures _ c.then_some.ensures
