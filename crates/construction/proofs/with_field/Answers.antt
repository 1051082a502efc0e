-- A field by its word.
use Rattle.construction.specs.FieldLaws.{constant-added, own-added, own-over, other-added, other-over}
use Rattle.construction.proofs.with_field.Goals as goal

pub returns-then-word-lt-OWN_FIELD : goal.returns-then-word-lt-OWN_FIELD
returns-then-word-lt-OWN_FIELD c = constant-added c.requires c.if-word-lt-OWN_FIELD.true

pub returns-then-s-own : goal.returns-then-s-own
returns-then-s-own c = own-added c.requires c.size-s.ensures c.if-word-eq-OWN_FIELD.true c.if-s-own.true

pub returns-then-word-eq-OWN_FIELD : goal.returns-then-word-eq-OWN_FIELD
returns-then-word-eq-OWN_FIELD c = own-over c.requires c.size-s.ensures c.if-word-eq-OWN_FIELD.true c.if-s-own.false

pub returns-then-word_size-s : goal.returns-then-word_size-s
returns-then-word_size-s c = other-over c.requires c.size-s.ensures c.if-word-lt-OWN_FIELD.false c.if-word-eq-OWN_FIELD.false c.word_size.ensures c.if-word_size-s.true

pub returns : goal.returns
returns c = other-added c.requires c.size-s.ensures c.if-word-lt-OWN_FIELD.false c.if-word-eq-OWN_FIELD.false c.word_size.ensures c.if-word_size-s.false
