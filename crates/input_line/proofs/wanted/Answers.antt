-- The word of a field's type.
use Rattle.input_line.specs.FieldsLaws.{wanted-own, wanted-other}
use Rattle.input_line.proofs.wanted.Goals as goal

pub returns-then-kind-eq-OWN_FIELD : goal.returns-then-kind-eq-OWN_FIELD
returns-then-kind-eq-OWN_FIELD c = wanted-own _ _ _ c.if-kind-eq-OWN_FIELD.true

pub returns-else-kind-eq-OWN_FIELD : goal.returns-else-kind-eq-OWN_FIELD
returns-else-kind-eq-OWN_FIELD c = wanted-other _ _ _ c.if-kind-eq-OWN_FIELD.false
