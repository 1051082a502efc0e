-- A value and its fields laid: the bytes left fall.
use mathlib.Core.Path.{refl, ap}
use native.Mathlib.Omega.{arith}
use borrow.Author.Rules.{rules}
use Rattle.text.specs.StepLaws.{moved-left}
use Rattle.language.specs.ReadExpr.{bool_form, int_form, con_form}
use Rattle.language.specs.Oks.{was_ok, was_err}
use Rattle.input_line.specs.ValueLaws.{form_at, form-fewer}
use Rattle.input_cells.specs.LayLaws.{value-missing, value-leaf-laid, value-con-laid, value-unknown}
use Rattle.input_cells.specs.FieldsLaidLaws.{fields-begun, top-grows, own-most, fields-fuller}
use Rattle.input_cells.specs.ConstructorLaidLaws.{con-missing, con-over, con-laid}
use Rattle.input_cells.proofs.+laying.Goals as goal

pub lay-returns-in_err-f : goal.lay-returns-in_err-f
lay-returns-in_err-f t c = rw c.from_residual.ensures (value-missing _ _ _ c.code.ensures (was_err _ c.ok.ensures.value c.in_err-f.was).1)

pub lay-lay_fields-requires : goal.lay-lay_fields-requires
lay-lay_fields-requires t c = (omega (arith, c.decreases, form-fewer _ _ c.code.ensures (was_ok _ c.ok.ensures.value c.in_ok-f.was)), (c.requires.cells_in_bounds, c.requires.used_le_cells))

pub lay-returns-in-0 : goal.lay-returns-in-0
lay-returns-in-0 t c = value-leaf-laid _ _ _ c.code.ensures (was_ok _ c.ok.ensures.value c.in_ok-f.was) bool_form (ap form_at c.in-0.is) c.lay_bool.ensures

pub lay-returns-in-1 : goal.lay-returns-in-1
lay-returns-in-1 t c = value-leaf-laid _ _ _ c.code.ensures (was_ok _ c.ok.ensures.value c.in_ok-f.was) int_form (ap form_at c.in-1.is) c.lay_int.ensures

pub lay-returns-in-9 : goal.lay-returns-in-9
lay-returns-in-9 t c = value-con-laid _ _ _ c.code.ensures (was_ok _ c.ok.ensures.value c.in_ok-f.was) con_form (ap form_at c.in-9.is) c.lay_fields.ensures

pub lay-returns-in_default : goal.lay-returns-in_default
lay-returns-in_default t c = value-unknown _ _ _ c.code.ensures (was_ok _ c.ok.ensures.value c.in_ok-f.was) (λ e. search rules) (λ e. search rules) (λ e. search rules)

pub lay_fields-returns-in_err-f : goal.lay_fields-returns-in_err-f
lay_fields-returns-in_err-f t c = rw c.from_residual.ensures (con-missing c.tag_at.ensures (was_err _ c.ok.ensures.value c.in_err-f.was).1)

pub lay_fields-loop-j-init : goal.lay_fields-loop-j-init
lay_fields-loop-j-init t c = fields-begun c.tag_at.ensures (was_ok _ c.ok.ensures.value c.in_ok-f.was) c.requires.used_le_cells c.field_count-n.ensures refl

pub lay_fields-lay-requires : goal.lay_fields-lay-requires
lay_fields-lay-requires t c = (omega (arith, c.decreases, moved-left c.loop-j.invariant.on, c.tag_at.ensures.fewer (was_ok _ c.ok.ensures.value c.in_ok-f.was)), (omega (arith, c.loop-j.invariant.kept.long, c.requires.cells_in_bounds), c.loop-j.invariant.high))

pub lay_fields-returns-in_err-b : goal.lay_fields-returns-in_err-b
lay_fields-returns-in_err-b t c = rw c.from_residual-in_err-b.ensures (con-over c.tag_at.ensures (was_ok _ c.ok.ensures.value c.in_ok-f.was) c.loop-j.invariant c.loop-j-test.true c.lay.ensures c.in_err-b.was)

pub lay_fields-overflow_sub-top : goal.lay_fields-overflow_sub-top
lay_fields-overflow_sub-top t c = omega (arith, (top-grows c.loop-j.invariant c.loop-j-test.true c.lay.ensures c.in_ok-b.was).0)

pub lay_fields-overflow_add-own : goal.lay_fields-overflow_add-own
lay_fields-overflow_add-own t c = omega (arith, own-most c.loop-j.invariant c.loop-j-test.true c.lay.ensures c.in_ok-b.was c.field_word.ensures c.own_part-own.ensures)

pub lay_fields-loop-j-preserved : goal.lay_fields-loop-j-preserved
lay_fields-loop-j-preserved t c = fields-fuller c.loop-j.invariant c.loop-j-test.true c.lay.ensures c.in_ok-b.was c.put.ensures c.tag_type-t.ensures c.tag_constructor-constructor.ensures c.field_word.ensures c.own_part-own.ensures

pub lay_fields-returns : goal.lay_fields-returns
lay_fields-returns t c = con-laid c.requires.cells_in_bounds c.tag_at.ensures (was_ok _ c.ok.ensures.value c.in_ok-f.was) c.loop-j.invariant (omega arith) c.loop-j-test.false c.lay_constructor.ensures
