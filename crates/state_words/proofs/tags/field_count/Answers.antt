-- What the section of types tells of a constructor; none of a Bool or an Int.
use native.Mathlib.Omega.{arith}
use Rattle.state_words.specs.ReadLaws.{no_fields, fields_told}
use Rattle.state_words.proofs.tags.field_count.Goals as goal

pub returns-then-tag-lt-CONSTRUCTOR_TAGS : goal.returns-then-tag-lt-CONSTRUCTOR_TAGS
returns-then-tag-lt-CONSTRUCTOR_TAGS c = (no_fields _ _ c.if-tag-lt-CONSTRUCTOR_TAGS.true, omega arith)

pub returns : goal.returns
returns c = fields_told _ _ c.if-tag-lt-CONSTRUCTOR_TAGS.false c.tag_type.ensures c.tag_constructor.ensures c.fields.ensures
