-- No fields, and a Bool that is 0 or 1 or an Int.
use Rattle.cell_check.specs.CellLaws.{leaf-unclear, leaf-bool, leaf-int}
use Rattle.cell_check.proofs.leaf_fits.Goals as goal

pub returns-then-not-unused_clear : goal.returns-then-not-unused_clear
returns-then-not-unused_clear c = leaf-unclear _ _ _ c.unused_clear.ensures c.if-not-unused_clear.true

pub returns-then-tag-eq-BOOL_TAG : goal.returns-then-tag-eq-BOOL_TAG
returns-then-tag-eq-BOOL_TAG c = leaf-bool _ _ _ c.unused_clear.ensures c.if-not-unused_clear.false c.if-tag-eq-BOOL_TAG.true c.cell_value.ensures

pub returns : goal.returns
returns c = leaf-int _ _ _ c.unused_clear.ensures c.if-not-unused_clear.false c.if-tag-eq-BOOL_TAG.false
