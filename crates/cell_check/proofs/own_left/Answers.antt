-- Not below, of another type, or its size taken.
use native.Mathlib.Omega.{arith}
use Rattle.cell_check.specs.FieldLaws.{own-beyond, own-other, own-taken}
use Rattle.cell_check.proofs.own_left.Goals as goal

pub returns-then-cell-l : goal.returns-then-cell-l
returns-then-cell-l c = own-beyond (omega (arith, c.if-cell-l.true))

pub returns-then-not-same_type : goal.returns-then-not-same_type
returns-then-not-same_type c = own-other c.if-cell-l.false c.cell_tag.ensures c.same_type.ensures c.if-not-same_type.true

pub returns : goal.returns
returns c = own-taken c.if-cell-l.false c.cell_tag.ensures c.same_type.ensures c.if-not-same_type.false c.cell_value.ensures c.checked_sub.ensures
