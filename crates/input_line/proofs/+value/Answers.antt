-- A value and its fields: the bytes left fall.
use mathlib.Core.Path.{ap}
use native.Mathlib.Omega.{arith}
use borrow.Author.Rules.{rules}
use Rattle.text.specs.StepLaws.{moved-left}
use Rattle.language.specs.ReadExpr.{bool_form, int_form, con_form}
use Rattle.language.specs.Oks.{was_ok, was_err}
use Rattle.input_line.specs.FieldsLaws.{construct-none, fields-start, fields-stop, fields-on, fields-done, part_small}
use Rattle.input_line.specs.ValueLaws.{form_at, value_none, value-leaf, value-construct, value-other, form-fewer}
use Rattle.input_line.proofs.+value.Goals as goal

pub construct-returns-in_err-f : goal.construct-returns-in_err-f
construct-returns-in_err-f t c = rw c.from_residual.ensures (construct-none c.constructor_at.ensures c.in_err-f.was)

pub construct-loop-j-init : goal.construct-loop-j-init
construct-loop-j-init t c = fields-start c.constructor_at.ensures c.in_ok-f.was c.tag_type-t.ensures c.fields-n.ensures

pub construct-value-requires : goal.construct-value-requires
construct-value-requires t c = (omega (arith, c.decreases, moved-left c.loop-j.invariant.on, c.constructor_at.ensures.fewer c.in_ok-f.was), tt)

pub construct-returns-in_err-g : goal.construct-returns-in_err-g
construct-returns-in_err-g t c = rw c.from_residual-in_err-g.ensures (fields-stop c.constructor_at.ensures c.in_ok-f.was c.loop-j.invariant c.loop-j-test.true c.tag_type-t.ensures c.field_word-kind.ensures c.wanted.ensures c.value.ensures c.in_err-g.was)

pub construct-overflow_add-size : goal.construct-overflow_add-size
construct-overflow_add-size t c = omega (arith, c.own_part-size.ensures, part_small c.loop-j.invariant c.loop-j-test.true c.tag_type-t.ensures c.field_word-kind.ensures c.wanted.ensures c.value.ensures c.in_ok-g.was, c.loop-j.invariant.within)

pub construct-loop-j-preserved : goal.construct-loop-j-preserved
construct-loop-j-preserved t c = fields-on c.loop-j.invariant c.loop-j-test.true c.tag_type-t.ensures c.field_word-kind.ensures c.wanted.ensures c.value.ensures c.in_ok-g.was c.own_part-size.ensures

pub construct-returns : goal.construct-returns
construct-returns t c = fields-done c.constructor_at.ensures c.in_ok-f.was c.loop-j.invariant (omega arith) c.loop-j-test.false

pub value-returns-in_err-f : goal.value-returns-in_err-f
value-returns-in_err-f t c = rw c.from_residual.ensures (value_none _ _ _ _ c.code.ensures (was_err _ c.ok.ensures.value c.in_err-f.was).1)

pub value-construct-requires : goal.value-construct-requires
value-construct-requires t c = (omega (arith, c.decreases, form-fewer _ _ c.code.ensures (was_ok _ c.ok.ensures.value c.in_ok-f.was)), tt)

pub value-returns-in-0 : goal.value-returns-in-0
value-returns-in-0 t c = value-leaf _ _ _ _ c.code.ensures (was_ok _ c.ok.ensures.value c.in_ok-f.was) bool_form (ap form_at c.in-0.is) c.bool_behind.ensures

pub value-returns-in-1 : goal.value-returns-in-1
value-returns-in-1 t c = value-leaf _ _ _ _ c.code.ensures (was_ok _ c.ok.ensures.value c.in_ok-f.was) int_form (ap form_at c.in-1.is) c.int_behind.ensures

pub value-returns-in-9 : goal.value-returns-in-9
value-returns-in-9 t c = value-construct _ _ _ _ c.code.ensures (was_ok _ c.ok.ensures.value c.in_ok-f.was) con_form (ap form_at c.in-9.is) c.construct.ensures

pub value-returns-in_default : goal.value-returns-in_default
value-returns-in_default t c = value-other _ _ _ _ c.code.ensures (was_ok _ c.ok.ensures.value c.in_ok-f.was) (λ e. search rules) (λ e. search rules) (λ e. search rules)
