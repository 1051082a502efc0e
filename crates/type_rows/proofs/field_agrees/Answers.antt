-- The word of a value's type against that of a field.
use Rattle.type_rows.specs.RowWordLaws.{agrees-own, agrees-other}
use Rattle.type_rows.proofs.field_agrees.Goals as goal

pub returns-then-field-eq-OWN_FIELD : goal.returns-then-field-eq-OWN_FIELD
returns-then-field-eq-OWN_FIELD c = agrees-own _ _ c.if-field-eq-OWN_FIELD.true

pub returns : goal.returns
returns c = agrees-other _ _ c.if-field-eq-OWN_FIELD.false
