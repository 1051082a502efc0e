-- The cycle of functions that count the cells of a type meets its contracts: each need is answered by a law of CellLaws or
-- FieldLaws. The measure is the type's number, then the size, then the place in the cycle.
use native.Mathlib.Omega.{arith}
use native.Mathlib.Nat.{pos_of_ne-zero}
use Rattle.cells.specs.CellLaws.{cells-no-type, cells-no-size, cells-known, cells-start, cells-on, cells-end, constructor-none, constructor-some, own-zero, own-short, own-over, own-known, own-start, own_on, own-end}
use Rattle.cells.specs.FieldLaws.{others-start, others-on, others-end, field-own, field-later, field-type, type-plain, type-named}
use Rattle.cells.proofs.+cell_counts.Goals as goal

pub cells-returns-then-t : goal.cells-returns-then-t
cells-returns-then-t t c = cells-no-type c.if-t.true

pub cells-returns-then-k-gt-SIZE_MOST : goal.cells-returns-then-k-gt-SIZE_MOST
cells-returns-then-k-gt-SIZE_MOST t c = cells-no-size c.if-k-gt-SIZE_MOST.true

pub cells-overflow_sub-word : goal.cells-overflow_sub-word
cells-overflow_sub-word t c = pos_of_ne-zero c.if-word-ne0.true

pub cells-returns-then-word-ne0 : goal.cells-returns-then-word-ne0
cells-returns-then-word-ne0 t c = cells-known c.known-word.ensures c.if-word-ne0.true c.capped_sum.ensures

pub cells-loop-c-init : goal.cells-loop-c-init
cells-loop-c-init t c = cells-start _ _ _ _

pub cells-constructor_cells-made-requires : goal.cells-constructor_cells-made-requires
cells-constructor_cells-made-requires t c = (omega (arith, c.decreases), tt)

pub cells-loop-c-preserved : goal.cells-loop-c-preserved
cells-loop-c-preserved t c = cells-on c.constructors-n.ensures c.loop-c.invariant c.loop-c-test.true c.constructor_cells-made.ensures c.capped_larger-most.ensures

pub cells-note-requires : goal.cells-note-requires
cells-note-requires t c = c.loop-c.invariant.small

pub cells-returns : goal.cells-returns
cells-returns t c = cells-end c.constructors-n.ensures c.loop-c.invariant c.loop-c-test.false c.note.ensures

pub cells_of-returns-then-word-lt-TYPE_STEP : goal.cells_of-returns-then-word-lt-TYPE_STEP
cells_of-returns-then-word-lt-TYPE_STEP t c = type-plain c.if-word-lt-TYPE_STEP.true

pub cells_of-overflow_sub-word : goal.cells_of-overflow_sub-word
cells_of-overflow_sub-word t c = omega (arith, c.if-word-lt-TYPE_STEP.false)

pub cells_of-cells-requires : goal.cells_of-cells-requires
cells_of-cells-requires t c = (omega (arith, c.decreases, c.if-word-lt-TYPE_STEP.false), tt)

pub cells_of-returns : goal.cells_of-returns
cells_of-returns t c = type-named c.if-word-lt-TYPE_STEP.false c.cells.ensures

pub constructor_cells-returns-then-k-own : goal.constructor_cells-returns-then-k-own
constructor_cells-returns-then-k-own t c = constructor-none c.own_fields-own.ensures c.if-k-own.true

pub constructor_cells-other_cells-others-requires : goal.constructor_cells-other_cells-others-requires
constructor_cells-other_cells-others-requires t c = (omega (arith, c.decreases, c.if-k-own.false), tt)

pub constructor_cells-overflow_sub-k : goal.constructor_cells-overflow_sub-k
constructor_cells-overflow_sub-k t c = omega (arith, c.if-k-own.false)

pub constructor_cells-own_cells-owned-requires : goal.constructor_cells-own_cells-owned-requires
constructor_cells-own_cells-owned-requires t c = (omega (arith, c.decreases, c.if-k-own.false), tt)

pub constructor_cells-returns : goal.constructor_cells-returns
constructor_cells-returns t c = constructor-some c.own_fields-own.ensures c.if-k-own.false c.other_cells-others.ensures c.own_cells-owned.ensures c.capped_sum.ensures c.capped_sum-2.ensures

pub field_cells-returns-then-word-eq-OWN_FIELD : goal.field_cells-returns-then-word-eq-OWN_FIELD
field_cells-returns-then-word-eq-OWN_FIELD t c = field-own c.field_word-word.ensures c.if-word-eq-OWN_FIELD.true

pub field_cells-returns-then-t-word : goal.field_cells-returns-then-t-word
field_cells-returns-then-t-word t c = field-later c.field_word-word.ensures c.if-t-word.true

pub field_cells-cells_of-requires : goal.field_cells-cells_of-requires
field_cells-cells_of-requires t c = (omega (arith, c.decreases, c.if-t-word.false), tt)

pub field_cells-returns : goal.field_cells-returns
field_cells-returns t c = field-type c.field_word-word.ensures c.if-word-eq-OWN_FIELD.false c.cells_of.ensures

pub other_cells-loop-i-init : goal.other_cells-loop-i-init
other_cells-loop-i-init t c = others-start _ _ _ _

pub other_cells-field_cells-one-requires : goal.other_cells-field_cells-one-requires
other_cells-field_cells-one-requires t c = (omega (arith, c.decreases), tt)

pub other_cells-loop-i-preserved : goal.other_cells-loop-i-preserved
other_cells-loop-i-preserved t c = others-on c.fields-n.ensures c.loop-i.invariant c.loop-i-test.true c.field_cells-one.ensures c.capped_sum-sum.ensures

pub other_cells-returns : goal.other_cells-returns
other_cells-returns t c = others-end c.fields-n.ensures c.loop-i.invariant c.loop-i-test.false

pub own_cells-returns-then-r-eq0 : goal.own_cells-returns-then-r-eq0
own_cells-returns-then-r-eq0 t c = own-zero c.if-r-eq0.true

pub own_cells-returns-then-m-r : goal.own_cells-returns-then-m-r
own_cells-returns-then-m-r t c = own-short c.if-m-r.true

pub own_cells-returns-then-r : goal.own_cells-returns-then-r
own_cells-returns-then-r t c = own-over c.if-r.true

pub own_cells-overflow_sub-word : goal.own_cells-overflow_sub-word
own_cells-overflow_sub-word t c = pos_of_ne-zero c.if-word-ne0.true

pub own_cells-returns-then-word-ne0 : goal.own_cells-returns-then-word-ne0
own_cells-returns-then-word-ne0 t c = own-known c.if-r-eq0.false c.known-word.ensures c.if-word-ne0.true c.capped_sum.ensures

pub own_cells-overflow_sub-last : goal.own_cells-overflow_sub-last
own_cells-overflow_sub-last t c = omega (arith, c.if-r-eq0.false)

pub own_cells-overflow_sub-last-2 : goal.own_cells-overflow_sub-last-2
own_cells-overflow_sub-last-2 t c = omega (arith, c.if-m-r.false)

pub own_cells-loop-p-init : goal.own_cells-loop-p-init
own_cells-loop-p-init t c = (omega arith, own-start _ _ _ _ _)

pub own_cells-overflow_add-p : goal.own_cells-overflow_add-p
own_cells-overflow_add-p t c = omega (arith, c.loop-p-test.true)

pub own_cells-cells-first-requires : goal.own_cells-cells-first-requires
own_cells-cells-first-requires t c = (omega (arith, c.decreases, c.if-r-eq0.false, c.if-m-r.false, c.loop-p-test.true), tt)

pub own_cells-overflow_sub-r : goal.own_cells-overflow_sub-r
own_cells-overflow_sub-r t c = pos_of_ne-zero c.if-r-eq0.false

pub own_cells-overflow_add-p-in-loop-p : goal.own_cells-overflow_add-p-in-loop-p
own_cells-overflow_add-p-in-loop-p t c = omega (arith, c.loop-p-test.true)

pub own_cells-overflow_sub-m : goal.own_cells-overflow_sub-m
own_cells-overflow_sub-m t c = omega (arith, c.if-r-eq0.false, c.if-m-r.false, c.loop-p-test.true)

pub own_cells-own_cells-rest-requires : goal.own_cells-own_cells-rest-requires
own_cells-own_cells-rest-requires t c = (omega (arith, c.decreases, c.if-r-eq0.false, c.if-m-r.false, c.loop-p-test.true), tt)

pub own_cells-loop-p-preserved : goal.own_cells-loop-p-preserved
own_cells-loop-p-preserved t c = (omega (arith, c.loop-p-test.true), own_on c.if-r-eq0.false c.if-m-r.false c.loop-p.invariant.1 (omega (arith, c.loop-p-test.true)) c.cells-first.ensures c.own_cells-rest.ensures c.capped_sum-both.ensures c.capped_larger-most.ensures)

pub own_cells-note-requires : goal.own_cells-note-requires
own_cells-note-requires t c = c.loop-p.invariant.1.small

pub own_cells-returns : goal.own_cells-returns
own_cells-returns t c = own-end c.if-r-eq0.false c.if-m-r.false c.loop-p.invariant.1 c.loop-p.invariant.0 c.loop-p-test.false c.note.ensures
