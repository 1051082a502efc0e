-- By the tag: a Bool or an Int, no constructor of the file, or one with its fields.
use Prim.Native.Nat.{◌+◌}
use native.Mathlib.Omega.{arith}
use Rattle.language.specs.Layout.{state_length}
use Rattle.cell_check.specs.CellLaws.{judged-leaf, judged-unknown, judged-unclear, judged-fields}
use Rattle.cell_check.proofs.cell_fits.Goals as goal

pub returns-then-tag-lt-CONSTRUCTOR_TAGS : goal.returns-then-tag-lt-CONSTRUCTOR_TAGS
returns-then-tag-lt-CONSTRUCTOR_TAGS c = judged-leaf _ _ _ _ c.cell_tag-tag.ensures (omega (arith, c.type_inv.state (state_length c.args.cell + 1))) c.if-tag-lt-CONSTRUCTOR_TAGS.true c.leaf_fits.ensures

pub returns-then-not-known_constructor : goal.returns-then-not-known_constructor
returns-then-not-known_constructor c = judged-unknown _ _ _ _ c.cell_tag-tag.ensures c.if-tag-lt-CONSTRUCTOR_TAGS.false c.known_constructor.ensures c.if-not-known_constructor.true

pub returns-then-not-unused_clear : goal.returns-then-not-unused_clear
returns-then-not-unused_clear c = judged-unclear _ _ _ _ c.cell_tag-tag.ensures c.if-tag-lt-CONSTRUCTOR_TAGS.false c.known_constructor.ensures c.if-not-known_constructor.false c.field_count-n.ensures.0 c.unused_clear.ensures c.if-not-unused_clear.true

pub returns : goal.returns
returns c = judged-fields _ _ _ _ c.cell_tag-tag.ensures c.if-tag-lt-CONSTRUCTOR_TAGS.false c.known_constructor.ensures c.if-not-known_constructor.false c.field_count-n.ensures.0 c.unused_clear.ensures c.if-not-unused_clear.false c.fields_fit.ensures
