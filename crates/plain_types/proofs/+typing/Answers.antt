-- The cycle of functions that give an expression's plain type meets its contracts: each need is answered by a law of FormLaws, ListLaws,
-- CaseLaws or ExprLaws; the measure is levels left, then the place in the cycle, a list by what is left of it.
use mathlib.Core.Path.{sym, ◌∙◌}
use borrow.Author.Rules.{rules}
use mathlib.Core.Path.{◌≡◌}
use Rattle.language.specs.Oks.{was_ok, was_err}
use Rattle.heads.specs.HeadForms.{now_named, last_named}
use Rattle.plain_types.specs.MadePlaces.{at-expr, at-want, at-let, at-if, at_op, at_call, at-con, at-several, at-case, at-branches, at-adj, at-fit}
use Rattle.plain_types.specs.WordLaws.{same-types, other-types}
use Rattle.plain_types.specs.FormLaws.{want-wrong, want-other, want-done, let-wrong, let-done, fit-wrong, fit-unnamed, fit_none, fit-done, if-wrong, if_none, if-done, op-wrong, op-none, op-done, adj-stops, adj-wrong, adj-unnamed, adj-done}
use Rattle.plain_types.specs.ListLaws.{several-none, several-wrong, several-more, call-done, con-done}
use Rattle.plain_types.specs.CaseLaws.{branches-all, branches-wrong, branches-next, case-wrong, case-none, case-done}
use Rattle.plain_types.specs.ExprLaws.{expr-cut, expr-missing, expr-bool, expr-int, expr-var, expr-channel, expr-let, expr-if, expr-op, expr-call, expr-con, expr-case, expr-adj, expr-fit}
use Rattle.plain_types.proofs.+typing.Goals as goal

pub exprs::adjust-returns-in_err-next : goal.exprs::adjust-returns-in_err-next
exprs::adjust-returns-in_err-next t c = rw c.from_residual.ensures (adj-stops _ _ _ _ c.frame_line-line.ensures c.size.ensures (was_err _ c.ok.ensures.value c.in_err-next.was).1)

pub exprs::adjust-returns-in_err-k : goal.exprs::adjust-returns-in_err-k
exprs::adjust-returns-in_err-k t c = rw c.from_residual-in_err-k.ensures (adj-wrong _ _ _ _ c.frame_line-line.ensures c.size.ensures (was_ok _ c.ok.ensures.value c.in_ok-next.was) (at-expr c.moved.ensures c.expr.ensures) c.in_err-k.was)

pub exprs::adjust-returns-then-not-is_named : goal.exprs::adjust-returns-then-not-is_named
exprs::adjust-returns-then-not-is_named t c = adj-unnamed _ _ _ _ c.frame_line-line.ensures c.size.ensures (was_ok _ c.ok.ensures.value c.in_ok-next.was) (at-expr c.moved.ensures c.expr.ensures) c.in_ok-k.was (sym c.is_named.ensures ∙ c.if-not-is_named.true)

pub exprs::adjust-returns : goal.exprs::adjust-returns
exprs::adjust-returns t c = adj-done _ _ _ _ c.frame_line-line.ensures c.size.ensures (was_ok _ c.ok.ensures.value c.in_ok-next.was) (at-expr c.moved.ensures c.expr.ensures) c.in_ok-k.was (sym c.is_named.ensures ∙ c.if-not-is_named.false)

pub exprs::binding-returns-in_err-k : goal.exprs::binding-returns-in_err-k
exprs::binding-returns-in_err-k t c = rw c.from_residual.ensures (let-wrong _ _ _ _ c.expr.ensures c.in_err-k.was)

pub exprs::binding-returns : goal.exprs::binding-returns
exprs::binding-returns t c = let-done _ _ _ _ c.expr.ensures c.in_ok-k.was c.from.ensures c.put.ensures (at-expr c.widened.ensures c.expr-2.ensures)

pub exprs::choice-returns-in_err-a : goal.exprs::choice-returns-in_err-a
exprs::choice-returns-in_err-a t c = rw c.from_residual.ensures (if-wrong _ _ _ _ c.expect.ensures c.in_err-a.was)

pub exprs::choice-returns-in_err-b : goal.exprs::choice-returns-in_err-b
exprs::choice-returns-in_err-b t c = rw c.from_residual-in_err-b.ensures (if_none _ _ _ _ c.expect.ensures c.in_ok-a.was (at-expr c.moved.ensures c.expr.ensures) c.in_err-b.was)

pub exprs::choice-returns : goal.exprs::choice-returns
exprs::choice-returns t c = if-done _ _ _ _ c.expect.ensures c.in_ok-a.was (at-expr c.moved.ensures c.expr.ensures) c.in_ok-b.was (at-want c.moved-2.ensures c.expect-2.ensures)

pub exprs::expect-returns-in_err-k : goal.exprs::expect-returns-in_err-k
exprs::expect-returns-in_err-k t c = rw c.from_residual.ensures (want-wrong _ _ _ _ _ c.expr.ensures c.in_err-k.was)

pub exprs::expect-returns-then-ne : goal.exprs::expect-returns-then-ne
exprs::expect-returns-then-ne t c = let other : c.in_ok-k.k.of ≡ c.args.of → ⊥ = search rules in want-other _ _ _ _ _ c.expr.ensures c.in_ok-k.was (other-types _ _ other)

pub exprs::expect-returns : goal.exprs::expect-returns
exprs::expect-returns t c = let same : c.in_ok-k.k.of ≡ c.args.of = search rules in want-done _ _ _ _ _ c.expr.ensures c.in_ok-k.was (same-types same)

pub exprs::expr-returns-then-p-eq0 : goal.exprs::expr-returns-then-p-eq0
exprs::expr-returns-then-p-eq0 t c = expr-cut _ _ _ _ c.if-p-eq0.true

pub exprs::expr-returns-in-Bool : goal.exprs::expr-returns-in-Bool
exprs::expr-returns-in-Bool t c = expr-bool _ _ _ _ c.frame_line-line.ensures c.head_at-head.ensures c.in-Bool.is c.answer.ensures

pub exprs::expr-returns-in-Int : goal.exprs::expr-returns-in-Int
exprs::expr-returns-in-Int t c = expr-int _ _ _ _ c.frame_line-line.ensures c.head_at-head.ensures c.in-Int.is c.answer-in-Int.ensures

pub exprs::expr-returns-in-Variable : goal.exprs::expr-returns-in-Variable
exprs::expr-returns-in-Variable t c = expr-var _ _ _ _ c.frame_line-line.ensures c.head_at-head.ensures c.in-Variable.is c.word_at.ensures c.from.ensures c.answer-in-Variable.ensures

pub exprs::expr-returns-in-Now : goal.exprs::expr-returns-in-Now
exprs::expr-returns-in-Now t c = expr-channel _ _ _ _ c.frame_line-line.ensures c.head_at-head.ensures (now_named c.in-Now.is) c.channel.ensures

pub exprs::expr-returns-in-Last : goal.exprs::expr-returns-in-Last
exprs::expr-returns-in-Last t c = expr-channel _ _ _ _ c.frame_line-line.ensures c.head_at-head.ensures (last_named c.in-Last.is) c.channel-in-Last.ensures

pub exprs::expr-returns-in-Let : goal.exprs::expr-returns-in-Let
exprs::expr-returns-in-Let t c = expr-let _ _ _ _ c.frame_line-line.ensures c.head_at-head.ensures c.in-Let.is (at-let c.inside-q.ensures c.binding.ensures)

pub exprs::expr-returns-in-If : goal.exprs::expr-returns-in-If
exprs::expr-returns-in-If t c = expr-if _ _ _ _ c.frame_line-line.ensures c.head_at-head.ensures c.in-If.is (at-if c.inside-q.ensures c.choice.ensures)

pub exprs::expr-returns-in-Operator : goal.exprs::expr-returns-in-Operator
exprs::expr-returns-in-Operator t c = expr-op _ _ _ _ c.frame_line-line.ensures c.head_at-head.ensures c.in-Operator.is (at_op c.inside-q.ensures c.operation.ensures)

pub exprs::expr-returns-in-Call : goal.exprs::expr-returns-in-Call
exprs::expr-returns-in-Call t c = expr-call _ _ _ _ c.frame_line-line.ensures c.head_at-head.ensures c.in-Call.is (at_call c.inside-q.ensures c.call.ensures)

pub exprs::expr-returns-in-Construct : goal.exprs::expr-returns-in-Construct
exprs::expr-returns-in-Construct t c = expr-con _ _ _ _ c.frame_line-line.ensures c.head_at-head.ensures c.in-Construct.is (at-con c.inside-q.ensures c.make.ensures)

pub exprs::expr-returns-in-Case : goal.exprs::expr-returns-in-Case
exprs::expr-returns-in-Case t c = expr-case _ _ _ _ c.frame_line-line.ensures c.head_at-head.ensures c.in-Case.is (at-case c.inside-q.ensures c.case_of.ensures)

pub exprs::expr-returns-in-Adjust : goal.exprs::expr-returns-in-Adjust
exprs::expr-returns-in-Adjust t c = expr-adj _ _ _ _ c.frame_line-line.ensures c.head_at-head.ensures c.in-Adjust.is (at-adj c.inside-q.ensures c.adjust.ensures)

pub exprs::expr-returns-in-Fit : goal.exprs::expr-returns-in-Fit
exprs::expr-returns-in-Fit t c = expr-fit _ _ _ _ c.frame_line-line.ensures c.head_at-head.ensures c.in-Fit.is (at-fit c.inside-q.ensures c.fit.ensures)

pub exprs::expr-returns-in-Missing : goal.exprs::expr-returns-in-Missing
exprs::expr-returns-in-Missing t c = expr-missing _ _ _ _ c.frame_line-line.ensures c.head_at-head.ensures c.in-Missing.is

pub exprs::fit-returns-in_err-a : goal.exprs::fit-returns-in_err-a
exprs::fit-returns-in_err-a t c = rw c.from_residual.ensures (fit-wrong _ _ _ _ c.expr.ensures c.in_err-a.was)

pub exprs::fit-returns-then-not-is_named : goal.exprs::fit-returns-then-not-is_named
exprs::fit-returns-then-not-is_named t c = fit-unnamed _ _ _ _ c.expr.ensures c.in_ok-a.was (sym c.is_named.ensures ∙ c.if-not-is_named.true)

pub exprs::fit-returns-in_err-b : goal.exprs::fit-returns-in_err-b
exprs::fit-returns-in_err-b t c = rw c.from_residual-in_err-b.ensures (fit_none _ _ _ _ c.expr.ensures c.in_ok-a.was c.from.ensures c.put.ensures (sym c.is_named.ensures ∙ c.if-not-is_named.false) (at-expr c.widened.ensures c.expr-2.ensures) c.in_err-b.was)

pub exprs::fit-returns : goal.exprs::fit-returns
exprs::fit-returns t c = fit-done _ _ _ _ c.expr.ensures c.in_ok-a.was c.from.ensures c.put.ensures (sym c.is_named.ensures ∙ c.if-not-is_named.false) (at-expr c.widened.ensures c.expr-2.ensures) c.in_ok-b.was (at-want c.moved.ensures c.expect.ensures)

pub exprs::operation-returns-in_err-a : goal.exprs::operation-returns-in_err-a
exprs::operation-returns-in_err-a t c = rw c.from_residual.ensures (op-wrong _ _ _ _ c.operand-of.ensures c.expect.ensures c.in_err-a.was)

pub exprs::operation-returns-in_err-b : goal.exprs::operation-returns-in_err-b
exprs::operation-returns-in_err-b t c = rw c.from_residual-in_err-b.ensures (op-none _ _ _ _ c.operand-of.ensures c.expect.ensures c.in_ok-a.was (at-want c.moved.ensures c.expect-2.ensures) c.in_err-b.was)

pub exprs::operation-returns : goal.exprs::operation-returns
exprs::operation-returns t c = op-done _ _ _ _ c.operand-of.ensures c.expect.ensures c.in_ok-a.was (at-want c.moved.ensures c.expect-2.ensures) c.in_ok-b.was c.outcome.ensures c.answer.ensures

pub lists::branches-returns-then-left-eq0 : goal.lists::branches-returns-then-left-eq0
lists::branches-returns-then-left-eq0 t c = branches-all _ _ _ _ _ c.if-left-eq0.true c.answer.ensures

pub lists::branches-returns-in_err-k : goal.lists::branches-returns-in_err-k
lists::branches-returns-in_err-k t c = rw c.from_residual.ensures (branches-wrong _ _ _ _ _ c.if-left-eq0.false c.fields-n.ensures c.enter.ensures (at-want c.widened.ensures c.expect.ensures) c.in_err-k.was)

pub lists::branches-returns : goal.lists::branches-returns
lists::branches-returns t c = branches-next _ _ _ _ _ c.if-left-eq0.false c.fields-n.ensures c.enter.ensures (at-want c.widened.ensures c.expect.ensures) c.in_ok-k.was (at-branches c.moved.ensures c.branches.ensures)

pub lists::call-returns : goal.lists::call-returns
lists::call-returns t c = call-done _ _ _ _ c.returned-result.ensures c.arity-n.ensures c.several.ensures

pub lists::case_of-returns-in_err-k : goal.lists::case_of-returns-in_err-k
lists::case_of-returns-in_err-k t c = rw c.from_residual.ensures (case-wrong _ _ _ _ c.named-subject.ensures c.expect.ensures c.in_err-k.was)

pub lists::case_of-returns-in_err-result : goal.lists::case_of-returns-in_err-result
lists::case_of-returns-in_err-result t c = rw c.from_residual-in_err-result.ensures (case-none _ _ _ _ c.named-subject.ensures c.expect.ensures c.in_ok-k.was c.frame_line-line.ensures c.result_type.ensures c.in_err-result.was)

pub lists::case_of-returns : goal.lists::case_of-returns
lists::case_of-returns t c = case-done _ _ _ _ c.named-subject.ensures c.expect.ensures c.in_ok-k.was c.frame_line-line.ensures c.result_type.ensures c.in_ok-result.was c.constructors-n.ensures (at-branches c.moved.ensures c.branches.ensures)

pub lists::make-returns : goal.lists::make-returns
lists::make-returns t c = con-done _ _ _ _ c.named-result.ensures c.fields-n.ensures c.several.ensures

pub lists::several-returns-then-left-eq0 : goal.lists::several-returns-then-left-eq0
lists::several-returns-then-left-eq0 t c = several-none _ _ _ _ _ c.if-left-eq0.true c.answer.ensures

pub lists::several-returns-in_err-k : goal.lists::several-returns-in_err-k
lists::several-returns-in_err-k t c = rw c.from_residual.ensures (several-wrong _ _ _ _ _ c.if-left-eq0.false c.wanted-one.ensures c.expect.ensures c.in_err-k.was)

pub lists::several-returns : goal.lists::several-returns
lists::several-returns t c = several-more _ _ _ _ _ c.if-left-eq0.false c.wanted-one.ensures c.expect.ensures c.in_ok-k.was (at-several c.moved.ensures c.several.ensures)
