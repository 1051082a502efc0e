-- The cycle of functions that pass over an expression meets its contracts: each need is answered by a law of NestedLaws, HeadLaws,
-- FormLaws or CaseLaws; the measure is levels left, then the place in the cycle.
use mathlib.Core.Path.{refl, ap}
use Rattle.std.proofs.Common.{sym, ◌∙◌}
use Rattle.language.specs.HandedOn.{handed_on}
use Rattle.text.specs.Bytes.{step_of}
use native.Mathlib.Omega.{arith}
use Rattle.expression_reader.specs.Follows.{form_at}
use Rattle.expression_reader.specs.ScopeLaws.{levels-in, levels-most, levels-roomy}
use Rattle.expression_reader.specs.HeadLaws.{code-level, code-form, head-none, head_done, channel-form, last-form, fewer-levels}
use Rattle.expression_reader.specs.FormLaws.{opened-some, opened-none, index-less, opens-whole, bool_whole, int_whole, variable_whole, let_whole, case_whole, fit_whole, leaf-bool, leaf-int, leaf-variable, opens-channel, opens-if, opens-operator, opens-size, opens-call, opens-construct, binding-stops, binding-done}
use Rattle.expression_reader.specs.CaseLaws.{branches-none, branches-stop, branches-done, case-stops, case-subject, case-type, case-done, fit-stops, fit-subject, fit-arm, fit-done}
use Rattle.expression_reader.specs.NestedLaws.{nested-start, nested-end, nested-resumed, nested-refused, nested-passed, nested-inside}
use Rattle.expression_reader.proofs.+passing.Goals as goal

pub binding-returns-in_err-next : goal.binding-returns-in_err-next
binding-returns-in_err-next t c = rw (handed_on c.from_residual.ensures ∙ sym c.in_err-next.was) (binding-stops _ _ _ _ _ c.nested.ensures c.in_err-next.was)

pub binding-returns : goal.binding-returns
binding-returns t c = binding-done _ _ _ _ _ c.nested.ensures c.in_ok-next.was c.wider-inner.ensures c.nested-2.ensures

pub branches-returns-then-count-k : goal.branches-returns-then-count-k
branches-returns-then-count-k t c = branches-none _ _ _ _ _ _ _ c.constructors-count.ensures c.requires.t_lt_types.0 c.if-count-k.true

pub branches-returns-in_err-next : goal.branches-returns-in_err-next
branches-returns-in_err-next t c = rw (handed_on c.from_residual.ensures ∙ sym c.in_err-next.was) (branches-stop _ _ _ _ _ _ _ c.constructors-count.ensures c.requires.t_lt_types.0 c.if-count-k.false c.fields-variables.ensures c.own_fields-sizes.ensures c.wider-inner.ensures c.nested.ensures c.in_err-next.was)

pub branches-returns : goal.branches-returns
branches-returns t c = branches-done _ _ _ _ _ _ _ c.constructors-count.ensures c.requires.t_lt_types.0 c.if-count-k.false c.fields-variables.ensures c.own_fields-sizes.ensures c.wider-inner.ensures c.nested.ensures c.in_ok-next.was c.branches.ensures

pub case_of-returns-in_err-f : goal.case_of-returns-in_err-f
case_of-returns-in_err-f t c = case-stops _ _ _ _ _ c.index.ensures c.in_err-f.was (handed_on c.from_residual.ensures ∙ sym (ap step_of c.in_err-f.was))

pub case_of-returns-in_err-written : goal.case_of-returns-in_err-written
case_of-returns-in_err-written t c = rw (handed_on c.from_residual-in_err-written.ensures ∙ sym c.in_err-written.was) (case-subject _ _ _ _ _ c.index.ensures c.in_ok-f.was c.nested.ensures c.in_err-written.was)

pub case_of-returns-in_err-next : goal.case_of-returns-in_err-next
case_of-returns-in_err-next t c = rw (handed_on c.from_residual-in_err-next.ensures ∙ sym c.in_err-next.was) (case-type _ _ _ _ _ c.index.ensures c.in_ok-f.was c.nested.ensures c.in_ok-written.was c.result.ensures c.in_err-next.was)

pub case_of-branches-requires : goal.case_of-branches-requires
case_of-branches-requires t c = (omega (arith, c.decreases), (c.requires.levels_le_nesting_most, (c.requires.roomy, (index-less c.index.ensures.0 c.in_ok-f.was, omega arith))))

pub case_of-returns : goal.case_of-returns
case_of-returns t c = case-done _ _ _ _ _ c.index.ensures c.in_ok-f.was c.nested.ensures c.in_ok-written.was c.result.ensures c.in_ok-next.was c.branches.ensures

pub fit-returns-in_err-f : goal.fit-returns-in_err-f
fit-returns-in_err-f t c = fit-stops _ _ _ _ _ c.count.ensures c.in_err-f.was (handed_on c.from_residual.ensures ∙ sym (ap step_of c.in_err-f.was))

pub fit-returns-in_err-second : goal.fit-returns-in_err-second
fit-returns-in_err-second t c = rw (handed_on c.from_residual-in_err-second.ensures ∙ sym c.in_err-second.was) (fit-subject _ _ _ _ _ c.count.ensures c.in_ok-f.was c.nested.ensures c.in_err-second.was)

pub fit-returns-in_err-third : goal.fit-returns-in_err-third
fit-returns-in_err-third t c = rw (handed_on c.from_residual-in_err-third.ensures ∙ sym c.in_err-third.was) (fit-arm _ _ _ _ _ c.count.ensures c.in_ok-f.was c.nested.ensures c.in_ok-second.was c.wider-inner.ensures c.nested-2.ensures c.in_err-third.was)

pub fit-returns : goal.fit-returns
fit-returns t c = fit-done _ _ _ _ _ c.count.ensures c.in_ok-f.was c.nested.ensures c.in_ok-second.was c.wider-inner.ensures c.nested-2.ensures c.in_ok-third.was c.nested-3.ensures

pub head-returns-in_err-f : goal.head-returns-in_err-f
head-returns-in_err-f t c = rw (handed_on c.from_residual.ensures ∙ sym c.in_err-f.was) (head-none _ _ _ _ _ c.code_in.ensures c.requires.roomy c.in_err-f.was)

pub head-overflow_sub-levels : goal.head-overflow_sub-levels
head-overflow_sub-levels t c = code-level _ _ _ c.code_in.ensures c.in_ok-f.was

pub head-behind-requires : goal.head-behind-requires
head-behind-requires t c = (fewer-levels c.decreases (code-level _ _ c.args.levels c.code_in.ensures c.in_ok-f.was), (omega (arith, c.requires.levels_le_nesting_most), (c.requires.roomy (code-level _ _ c.args.levels c.code_in.ensures c.in_ok-f.was), code-form _ _ c.args.levels c.code_in.ensures c.in_ok-f.was)))

pub head-returns : goal.head-returns
head-returns t c = head_done _ _ _ _ _ c.code_in.ensures c.requires.roomy c.in_ok-f.was c.behind.ensures

pub nested-loop-left-init : goal.nested-loop-left-init
nested-loop-left-init t c = nested-start _ _ _ _ _ c.levels_in-most.ensures refl

pub nested-returns-then-depth-eq0 : goal.nested-returns-then-depth-eq0
nested-returns-then-depth-eq0 t c = nested-end _ _ _ _ _ c.loop-left.invariant c.if-left-eq0.true c.if-depth-eq0.true

pub nested-loop-left-preserved-then-left-eq0 : goal.nested-loop-left-preserved-then-left-eq0
nested-loop-left-preserved-then-left-eq0 t c = nested-resumed _ _ _ _ _ c.loop-left.invariant c.if-left-eq0.true c.if-depth-eq0.false c.word_at-left.ensures

pub nested-head-requires : goal.nested-head-requires
nested-head-requires t c = (omega (arith, c.decreases, levels-most (levels-in c.args.s c.args.levels c.levels_in-most.ensures)), (omega (arith, c.requires, levels-most (levels-in c.args.s c.args.levels c.levels_in-most.ensures)), λ h. levels-roomy (levels-in c.args.s c.args.levels c.levels_in-most.ensures) (omega (arith, h))))

pub nested-returns-in_err-f : goal.nested-returns-in_err-f
nested-returns-in_err-f t c = nested-refused _ _ _ _ _ c.loop-left.invariant c.if-left-eq0.false c.head.ensures c.in_err-f.was (handed_on c.from_residual.ensures ∙ sym (ap step_of c.in_err-f.was))

pub nested-loop-left-preserved-then-f-ne0 : goal.nested-loop-left-preserved-then-f-ne0
nested-loop-left-preserved-then-f-ne0 t c = nested-inside _ _ _ _ _ c.loop-left.invariant c.if-left-eq0.false c.head.ensures c.in_ok-f.was (omega (arith, c.requires, levels-most (levels-in c.args.s c.args.levels c.levels_in-most.ensures))) refl c.put.ensures

pub nested-loop-left-preserved : goal.nested-loop-left-preserved
nested-loop-left-preserved t c = nested-passed _ _ _ _ _ c.loop-left.invariant c.if-left-eq0.false c.head.ensures c.in_ok-f.was c.if-f-ne0.false refl

pub behind-returns-in_err-code-in-0 : goal.behind-returns-in_err-code-in-0
behind-returns-in_err-code-in-0 t c = opens-whole _ _ _ _ _ c.args.form (ap form_at c.in-0.is) bool_whole (leaf-bool _ _ _ _ _ c.code.ensures (sym (ap step_of c.in_err-code-in-0.was))) (opened-none 0 refl (handed_on c.from_residual.ensures))

pub behind-returns-in_ok-code-in-0 : goal.behind-returns-in_ok-code-in-0
behind-returns-in_ok-code-in-0 t c = opens-whole _ _ _ _ _ c.args.form (ap form_at c.in-0.is) bool_whole (leaf-bool _ _ _ _ _ c.code.ensures (sym (ap step_of c.in_ok-code-in-0.was))) (opened-some refl c.opened.ensures)

pub behind-returns-in_err-past_int-in-1 : goal.behind-returns-in_err-past_int-in-1
behind-returns-in_err-past_int-in-1 t c = opens-whole _ _ _ _ _ c.args.form (ap form_at c.in-1.is) int_whole (leaf-int _ _ _ _ _ c.past_int.ensures) (opened-none 0 c.in_err-past_int-in-1.was (handed_on c.from_residual-in_err-past_int-in-1.ensures))

pub behind-returns-in_ok-past_int-in-1 : goal.behind-returns-in_ok-past_int-in-1
behind-returns-in_ok-past_int-in-1 t c = opens-whole _ _ _ _ _ c.args.form (ap form_at c.in-1.is) int_whole (leaf-int _ _ _ _ _ c.past_int.ensures) (opened-some c.in_ok-past_int-in-1.was c.opened-in-1.ensures)

pub behind-returns-in_err-index-in-2 : goal.behind-returns-in_err-index-in-2
behind-returns-in_err-index-in-2 t c = opens-whole _ _ _ _ _ c.args.form (ap form_at c.in-2.is) variable_whole (leaf-variable _ _ _ _ _ c.index.ensures (sym (ap step_of c.in_err-index-in-2.was))) (opened-none 0 refl (handed_on c.from_residual-in_err-index-in-2.ensures))

pub behind-returns-in_ok-index-in-2 : goal.behind-returns-in_ok-index-in-2
behind-returns-in_ok-index-in-2 t c = opens-whole _ _ _ _ _ c.args.form (ap form_at c.in-2.is) variable_whole (leaf-variable _ _ _ _ _ c.index.ensures (sym (ap step_of c.in_ok-index-in-2.was))) (opened-some refl c.opened-in-2.ensures)

pub behind-returns-in_err-index-in-3 : goal.behind-returns-in_err-index-in-3
behind-returns-in_err-index-in-3 t c = opens-channel _ _ _ _ _ c.args.form (channel-form c.args.form (omega arith) c.in-3.in_default-own.rest) c.index-in-3.ensures (sym (ap step_of c.in_err-index-in-3.was)) (opened-none 0 refl (handed_on c.from_residual-in_err-index-in-3.ensures))

pub behind-returns-in_ok-index-in-3 : goal.behind-returns-in_ok-index-in-3
behind-returns-in_ok-index-in-3 t c = opens-channel _ _ _ _ _ c.args.form (channel-form c.args.form (omega arith) c.in-3.in_default-own.rest) c.index-in-3.ensures (sym (ap step_of c.in_ok-index-in-3.was)) (opened-some refl c.opened-in-3.ensures)

pub behind-returns-in_err-binding-in-5 : goal.behind-returns-in_err-binding-in-5
behind-returns-in_err-binding-in-5 t c = opens-whole _ _ _ _ _ c.args.form (ap form_at c.in-5.is) let_whole c.binding.ensures (opened-none 0 c.in_err-binding-in-5.was (handed_on c.from_residual-in_err-binding-in-5.ensures))

pub behind-returns-in_ok-binding-in-5 : goal.behind-returns-in_ok-binding-in-5
behind-returns-in_ok-binding-in-5 t c = opens-whole _ _ _ _ _ c.args.form (ap form_at c.in-5.is) let_whole c.binding.ensures (opened-some c.in_ok-binding-in-5.was c.opened-in-5.ensures)

pub behind-returns-in_err-code-in-7 : goal.behind-returns-in_err-code-in-7
behind-returns-in_err-code-in-7 t c = opens-operator _ _ _ _ _ c.args.form c.in-7.is c.code-in-7.ensures (sym (ap step_of c.in_err-code-in-7.was)) (opened-none 2 refl (handed_on c.from_residual-in_err-code-in-7.ensures))

pub behind-returns-in_ok-code-in-7 : goal.behind-returns-in_ok-code-in-7
behind-returns-in_ok-code-in-7 t c = opens-operator _ _ _ _ _ c.args.form c.in-7.is c.code-in-7.ensures (sym (ap step_of c.in_ok-code-in-7.was)) (opened-some refl c.opened-in-7.ensures)

pub behind-returns-in_err-case_of-in-10 : goal.behind-returns-in_err-case_of-in-10
behind-returns-in_err-case_of-in-10 t c = opens-whole _ _ _ _ _ c.args.form (ap form_at c.in-10.is) case_whole c.case_of.ensures (opened-none 0 c.in_err-case_of-in-10.was (handed_on c.from_residual-in_err-case_of-in-10.ensures))

pub behind-returns-in_ok-case_of-in-10 : goal.behind-returns-in_ok-case_of-in-10
behind-returns-in_ok-case_of-in-10 t c = opens-whole _ _ _ _ _ c.args.form (ap form_at c.in-10.is) case_whole c.case_of.ensures (opened-some c.in_ok-case_of-in-10.was c.opened-in-10.ensures)

pub behind-returns-in_err-size-in-11 : goal.behind-returns-in_err-size-in-11
behind-returns-in_err-size-in-11 t c = opens-size _ _ _ _ _ c.args.form c.in-11.is c.size.ensures (opened-none 1 c.in_err-size-in-11.was (handed_on c.from_residual-in_err-size-in-11.ensures))

pub behind-returns-in_ok-size-in-11 : goal.behind-returns-in_ok-size-in-11
behind-returns-in_ok-size-in-11 t c = opens-size _ _ _ _ _ c.args.form c.in-11.is c.size.ensures (opened-some c.in_ok-size-in-11.was c.opened-in-11.ensures)

pub behind-returns-in_err-fit-in_default : goal.behind-returns-in_err-fit-in_default
behind-returns-in_err-fit-in_default t c = opens-whole _ _ _ _ _ c.args.form (ap form_at (last-form c.args.form c.requires.form_bound (omega arith) c.in_default.in_default-own.rest)) fit_whole c.fit.ensures (opened-none 0 c.in_err-fit-in_default.was (handed_on c.from_residual-in_err-fit-in_default.ensures))

pub behind-returns-in_ok-fit-in_default : goal.behind-returns-in_ok-fit-in_default
behind-returns-in_ok-fit-in_default t c = opens-whole _ _ _ _ _ c.args.form (ap form_at (last-form c.args.form c.requires.form_bound (omega arith) c.in_default.in_default-own.rest)) fit_whole c.fit.ensures (opened-some c.in_ok-fit-in_default.was c.opened-in_default.ensures)

pub behind-returns-in-6 : goal.behind-returns-in-6
behind-returns-in-6 t c = opens-if _ _ _ _ _ c.args.form c.in-6.is (opened-some refl c.opened-in-6.ensures)

pub behind-returns-in-8 : goal.behind-returns-in-8
behind-returns-in-8 t c = opens-call _ _ _ _ _ c.args.form c.in-8.is c.call.ensures

pub behind-returns-in-9 : goal.behind-returns-in-9
behind-returns-in-9 t c = opens-construct _ _ _ _ _ c.args.form c.in-9.is c.construct.ensures
