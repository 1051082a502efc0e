-- What a parameter or a field wants is what the index says.
use Rattle.plain_types.specs.ReadLaws.{wanted-parameter, wanted-own, wanted-other}
use Rattle.plain_types.proofs.words.wanted.Goals as goal

pub returns-then-word-eq-OWN_FIELD : goal.returns-then-word-eq-OWN_FIELD
returns-then-word-eq-OWN_FIELD c = wanted-own _ _ _ c.in-Fields.is c.field_word-word.ensures c.if-word-eq-OWN_FIELD.true c.named.ensures

pub returns-in-Parameters : goal.returns-in-Parameters
returns-in-Parameters c = wanted-parameter _ _ _ c.in-Parameters.is c.parameter_word.ensures c.from.ensures

pub returns-else-word-eq-OWN_FIELD : goal.returns-else-word-eq-OWN_FIELD
returns-else-word-eq-OWN_FIELD c = wanted-other _ _ _ c.in-Fields.is c.field_word-word.ensures c.if-word-eq-OWN_FIELD.false c.from-in-Fields.ensures
