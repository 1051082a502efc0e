-- What a field adds.
use Rattle.input_line.specs.FieldsLaws.{part-own, part-other}
use Rattle.input_line.proofs.own_part.Goals as goal

pub returns-then-kind-eq-OWN_FIELD : goal.returns-then-kind-eq-OWN_FIELD
returns-then-kind-eq-OWN_FIELD c = part-own _ _ c.if-kind-eq-OWN_FIELD.true

pub returns-else-kind-eq-OWN_FIELD : goal.returns-else-kind-eq-OWN_FIELD
returns-else-kind-eq-OWN_FIELD c = part-other _ _ c.if-kind-eq-OWN_FIELD.false
