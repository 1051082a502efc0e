use Rattle.std.proofs.Common.{sym, ap, ◌∙◌, arith}
use native.Mathlib.Nat.{pos_of_ne-zero}
use Rattle.language.specs.HandedOn.{handed_on}
use Rattle.text.specs.Bytes.{step_of}
use Rattle.text.specs.SizeLaws.{size-too-deep, size-no-code, size-literal, size-variable, size-first-stops, size-both}
use Rattle.text.proofs.Cursor.+size.Goals as goal

pub returns-in_err-none : goal.returns-in_err-none
returns-in_err-none t c = size-too-deep _ _ _ _ c.if-levels-eq0.true c.code_in.ensures (handed_on c.from_residual.ensures ∙ sym (ap step_of c.in_err-none.was))

pub returns-then-levels-eq0 : goal.returns-then-levels-eq0
returns-then-levels-eq0 t c = size-too-deep _ _ _ _ c.if-levels-eq0.true c.code_in.ensures (sym (ap step_of c.in_ok-none.was))

pub returns-in_err-f : goal.returns-in_err-f
returns-in_err-f t c = size-no-code _ _ _ _ c.if-levels-eq0.false c.code_in-2.ensures c.in_err-f.was (handed_on c.from_residual-in_err-f.ensures ∙ sym (ap step_of c.in_err-f.was))

pub returns-in_err-k : goal.returns-in_err-k
returns-in_err-k t c = size-literal _ _ _ _ c.if-levels-eq0.false c.code_in-2.ensures c.in_ok-f.was c.if-form-eq-NUMBER_PLACE.true c.byte.ensures (handed_on c.from_residual-in_err-k.ensures ∙ sym (ap step_of c.in_err-k.was))

pub returns-then-form-eq-NUMBER_PLACE : goal.returns-then-form-eq-NUMBER_PLACE
returns-then-form-eq-NUMBER_PLACE t c = size-literal _ _ _ _ c.if-levels-eq0.false c.code_in-2.ensures c.in_ok-f.was c.if-form-eq-NUMBER_PLACE.true c.byte.ensures (sym (ap step_of c.in_ok-k.was))

pub returns-in_err-i : goal.returns-in_err-i
returns-in_err-i t c = size-variable _ _ _ _ c.if-levels-eq0.false c.code_in-2.ensures c.in_ok-f.was c.if-form-eq-VARIABLE_PLACE.true c.index.ensures (handed_on c.from_residual-in_err-i.ensures ∙ sym (ap step_of c.in_err-i.was))

pub returns-then-form-eq-VARIABLE_PLACE : goal.returns-then-form-eq-VARIABLE_PLACE
returns-then-form-eq-VARIABLE_PLACE t c = size-variable _ _ _ _ c.if-levels-eq0.false c.code_in-2.ensures c.in_ok-f.was c.if-form-eq-VARIABLE_PLACE.true c.index.ensures (sym (ap step_of c.in_ok-i.was))

pub overflow_sub-levels : goal.overflow_sub-levels
overflow_sub-levels t c = pos_of_ne-zero c.if-levels-eq0.false

pub size-requires : goal.size-requires
size-requires t c = (omega (arith, pos_of_ne-zero c.if-levels-eq0.false), tt)

pub returns-in_err-d : goal.returns-in_err-d
returns-in_err-d t c = rw (handed_on c.from_residual-in_err-d.ensures ∙ sym c.in_err-d.was) (size-first-stops _ _ _ _ c.if-levels-eq0.false c.code_in-2.ensures c.in_ok-f.was c.if-form-eq-NUMBER_PLACE.false c.if-form-eq-VARIABLE_PLACE.false c.size.ensures c.in_err-d.was)

pub overflow_sub-levels-2 : goal.overflow_sub-levels-2
overflow_sub-levels-2 t c = pos_of_ne-zero c.if-levels-eq0.false

pub size-requires-2 : goal.size-requires-2
size-requires-2 t c = (omega (arith, pos_of_ne-zero c.if-levels-eq0.false), tt)

pub returns : goal.returns
returns t c = size-both _ _ _ _ c.if-levels-eq0.false c.code_in-2.ensures c.in_ok-f.was c.if-form-eq-NUMBER_PLACE.false c.if-form-eq-VARIABLE_PLACE.false c.size.ensures c.in_ok-d.was c.size-2.ensures
