-- The word of a field's type, its size filled in.
use Rattle.type_rows.specs.RowWordLaws.{bound-own, bound-other}
use Rattle.type_rows.proofs.bound_word.Goals as goal

pub returns-then-field-eq-OWN_FIELD : goal.returns-then-field-eq-OWN_FIELD
returns-then-field-eq-OWN_FIELD c = bound-own _ _ c.if-field-eq-OWN_FIELD.true

pub returns : goal.returns
returns c = bound-other _ _ c.if-field-eq-OWN_FIELD.false
