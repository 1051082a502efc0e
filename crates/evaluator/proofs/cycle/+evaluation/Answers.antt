-- The cycle of the evaluator meets its contracts: each need is answered by a law of its function's file.
-- forms by their tags: those with parts, and the others
use borrow.Author.Rules.{rules}
use Prim.Native.Nat.{◌-◌, ℕ}
use mathlib.Core.Bool.{true, false}
use mathlib.Core.Path.{◌≡◌, refl, sym, ◌∙◌}
use native.Mathlib.Omega.{arith}
use native.Mathlib.Nat.{le_refl}
use lib.ListN.{length}
use lib.Seq.{length-take-le}
use Rattle.heads.specs.declared.Form.{Form}
use Rattle.heads.specs.declared.Form.TheVariants.{Bool as BoolForm, Int, Variable, Now, Last, Let, If, Operator, Call, Construct, Case, Adjust, Fit, Missing}
use Rattle.index.specs.Sections.{frames_of}
use Rattle.index.specs.Indexed.{frame_place}
use Rattle.language.specs.HandedOn.{handed_on}
use Rattle.evaluation_steps.specs.Measures.{falls-moved, falls-bound, falls-head, falls-body, head-shorter, shorter-behind, later-end, later-branch, later_first, later-all, later-two}
use Rattle.evaluation_steps.specs.KeepLaws.{moved_by, board-moved, room_at, room_bound, room-body, room_cut, room_next}
use Rattle.evaluation_steps.specs.ExprLaws.{expr-bool, expr-int, expr-variable, expr-now, expr-last, expr-missing, expr-compound, operand-variable}
use Rattle.evaluation_steps.specs.ArmLaws.{bound-full, bound-done, choice-second, choice-third, fit-second, fit-third}
use Rattle.evaluation_steps.specs.BranchLaws.{branch-beyond, branch-full, branch-done}
use Rattle.evaluation_steps.specs.BodyLaws.{body-spent, body-done, part-all, part-back, part-long}
use Rattle.evaluation_steps.specs.ArgumentLaws.{gathered_none, gathered-more, gathered-refused, gathered-all}
use Rattle.evaluation_steps.specs.CompoundLaws.{compound-full, compound-refused, compound-moved, compound-done, so-below, still-free}
use Rattle.evaluation_steps.specs.SideLaws.{operator-both, operator-decided, operator-refused, operator-done}
use Rattle.evaluation_steps.specs.FinishLaws.{finish-adjust, finish-operator, finish-construct, finish-call, finish-let, finish-if, finish-fit, finish-case, finish-none}
use Rattle.heads.specs.Heads.{has_parts}
use Rattle.evaluator.proofs.cycle.+evaluation.Goals as goal

-- a form of the last arm of `expr` has parts
no-leaf : (f : Form) → ((b : ℕ) → f ≡ BoolForm b → ⊥) → ((n : ℕ) → f ≡ Int n → ⊥) → ((v : ℕ) → f ≡ Variable v → ⊥) → ((c : ℕ) → f ≡ Now c → ⊥) → ((c : ℕ) → f ≡ Last c → ⊥) → (f ≡ Missing → ⊥) → has_parts f ≡ true
no-leaf (BoolForm b) other _ _ _ _ _ = absurd (other b refl)
no-leaf (Int n) _ other _ _ _ _ = absurd (other n refl)
no-leaf (Variable v) _ _ other _ _ _ = absurd (other v refl)
no-leaf (Now c) _ _ _ other _ _ = absurd (other c refl)
no-leaf (Last c) _ _ _ _ other _ = absurd (other c refl)
no-leaf Let _ _ _ _ _ _ = refl
no-leaf If _ _ _ _ _ _ = refl
no-leaf (Operator o) _ _ _ _ _ _ = refl
no-leaf (Call f) _ _ _ _ _ _ = refl
no-leaf (Construct t c) _ _ _ _ _ _ = refl
no-leaf (Case t) _ _ _ _ _ _ = refl
no-leaf Adjust _ _ _ _ _ _ = refl
no-leaf (Fit k) _ _ _ _ _ _ = refl
no-leaf Missing _ _ _ _ _ other = absurd (other refl)

-- a form of the last arm of `finish` has none
no-parts : (f : Form) → ((o : ℕ) → f ≡ Operator o → ⊥) → ((t c : ℕ) → f ≡ Construct t c → ⊥) → (f ≡ Adjust → ⊥) → ((g : ℕ) → f ≡ Call g → ⊥) → ((t : ℕ) → f ≡ Case t → ⊥) → (f ≡ If → ⊥) → ((k : ℕ) → f ≡ Fit k → ⊥) → (f ≡ Let → ⊥) → has_parts f ≡ false
no-parts (BoolForm b) _ _ _ _ _ _ _ _ = refl
no-parts (Int n) _ _ _ _ _ _ _ _ = refl
no-parts (Variable v) _ _ _ _ _ _ _ _ = refl
no-parts (Now c) _ _ _ _ _ _ _ _ = refl
no-parts (Last c) _ _ _ _ _ _ _ _ = refl
no-parts Let _ _ _ _ _ _ _ other = absurd (other refl)
no-parts If _ _ _ _ _ other _ _ = absurd (other refl)
no-parts (Operator o) other _ _ _ _ _ _ _ = absurd (other o refl)
no-parts (Call f) _ _ _ other _ _ _ _ = absurd (other f refl)
no-parts (Construct t c) _ other _ _ _ _ _ _ = absurd (other t c refl)
no-parts (Case t) _ _ _ _ other _ _ _ = absurd (other t refl)
no-parts Adjust _ _ other _ _ _ _ _ = absurd (other refl)
no-parts (Fit k) _ _ _ _ _ _ other _ = absurd (other k refl)
no-parts Missing _ _ _ _ _ _ _ _ = refl

pub arguments-loop-i-init : goal.arguments-loop-i-init
arguments-loop-i-init t c = gathered_none _ _ _ _ _ _ _ _ _ c.requires.room

pub arguments-operand-requires : goal.arguments-operand-requires
arguments-operand-requires t c = (falls-moved _ _ c.args.p 2 c.decreases 1 c.moved-q.ensures (c.loop-i.invariant.onward) (omega arith), (room_next c.requires.room c.moved-q.ensures (c.loop-i.invariant.moved) (c.loop-i.invariant.below), rw c.moved-q.ensures (c.requires.line_value)))

pub arguments-returns-in_err-value : goal.arguments-returns-in_err-value
arguments-returns-in_err-value t c = gathered-refused _ _ _ _ _ _ _ _ c.loop-i.invariant c.loop-i-test.true c.moved-q.ensures c.operand.ensures c.in_err-value.was (handed_on c.from_residual.ensures)

pub arguments-loop-i-preserved : goal.arguments-loop-i-preserved
arguments-loop-i-preserved t c = gathered-more _ _ _ _ _ _ _ _ c.loop-i.invariant c.loop-i-test.true c.moved-q.ensures c.operand.ensures c.in_ok-value.was (search rules) c.put.ensures c.end_of-at.ensures

pub arguments-returns : goal.arguments-returns
arguments-returns t c = gathered-all _ _ _ _ _ _ _ _ c.loop-i.invariant c.loop-i-test.false refl

pub binding-returns-then-slots-p : goal.binding-returns-then-slots-p
binding-returns-then-slots-p t c = bound-full _ _ _ _ _ _ _ _ c.if-slots-p.true refl

pub binding-returns : goal.binding-returns
binding-returns t c = bound-done _ _ _ _ _ _ _ _ c.if-slots-p.false c.put.ensures c.bound-q.ensures c.expr.ensures

pub body-returns-then-p-eq0 : goal.body-returns-then-p-eq0
body-returns-then-p-eq0 t c = body-spent _ _ _ _ _ _ _ _ _ _ c.if-p-eq0.true refl

pub body-expr-requires : goal.body-expr-requires
body-expr-requires t c = (falls-body _ _ c.args.p 1 c.decreases _ _ 0 c.body_context-q.ensures (omega arith) c.if-p-eq0.false (omega arith), room-body c.requires.room _ _ _ c.push.new.slots c.body_context-q.ensures (c.push.auto.slots) c.requires.n_in_bounds)

pub body-returns : goal.body-returns
body-returns t c = body-done _ _ _ _ _ _ _ _ _ _ c.if-p-eq0.false c.requires.n_in_bounds c.push.ensures c.body_context-q.ensures (part-all c.push.new.slots c.args.p.top) (part-back c.push.new.slots c.expr.new.slots c.args.p.top) c.expr.ensures

pub branch-returns-then-constructors-c : goal.branch-returns-then-constructors-c
branch-returns-then-constructors-c t c = branch-beyond _ _ _ _ _ _ _ _ _ c.constructor-c.ensures c.constructors.ensures c.if-constructors-c.true refl

pub branch-returns-then-slots-p : goal.branch-returns-then-slots-p
branch-returns-then-slots-p t c = branch-full _ _ _ _ _ _ _ _ _ c.constructor-c.ensures c.constructors.ensures c.if-constructors-c.false c.fields-n.ensures c.if-slots-p.true refl

pub branch-expr-requires : goal.branch-expr-requires
branch-expr-requires t c = (falls-bound _ _ c.args.p 1 c.decreases 0 _ c.bound-q.ensures (later-branch _ _ _ _ c.end_of-first.ensures c.branch_at-at.ensures) (omega arith), room_bound c.requires _ _ c.bound-q.ensures (c.push_fields.auto.slots) (omega (arith, c.if-slots-p.false, c.requires.top)))

pub branch-returns : goal.branch-returns
branch-returns t c = branch-done _ _ _ _ _ _ _ _ _ c.constructor-c.ensures c.constructors.ensures c.if-constructors-c.false c.fields-n.ensures c.requires.top c.if-slots-p.false c.push_fields.ensures c.end_of-first.ensures c.branch_at-at.ensures c.bound-q.ensures c.expr.ensures

pub choice-returns-then-truth : goal.choice-returns-then-truth
choice-returns-then-truth t c = choice-second _ _ _ _ _ _ _ _ c.truth.ensures c.if-truth.true c.expr.ensures

pub choice-expr-requires-2 : goal.choice-expr-requires-2
choice-expr-requires-2 t c = (falls-moved _ _ c.args.p 1 c.decreases 0 c.moved-q.ensures (later-end _ _ _ c.end_of-third.ensures) (omega arith), room_at c.requires c.moved-q.ensures)

pub choice-returns : goal.choice-returns
choice-returns t c = choice-third _ _ _ _ _ _ _ _ c.truth.ensures c.if-truth.false c.end_of-third.ensures c.moved-q.ensures c.expr-2.ensures

pub compound-returns-then-slots-p : goal.compound-returns-then-slots-p
compound-returns-then-slots-p t c = compound-full _ _ _ _ _ _ _ _ c.reserved-waiting.ensures c.if-slots-p.true refl

pub compound-arguments-requires : goal.compound-arguments-requires
compound-arguments-requires t c = (falls-moved _ _ c.args.p 4 c.decreases 2 c.moved-first.ensures (later_first (c.args.program.now.ends.now) (frame_place (frames_of (c.args.program.now.index.now)) (c.args.p.line)) c.args.form (c.args.p.at.at) c.first_operand-at.ensures) (omega arith), (room_cut c.requires.room (length (c.args.slots.now) - c.reserved-waiting.result) c.moved-first.ensures (omega arith) (omega (arith, c.if-slots-p.false, c.requires.room.top)), rw c.moved-first.ensures (c.requires.line_value)))

pub compound-returns-in_err-values : goal.compound-returns-in_err-values
compound-returns-in_err-values t c = compound-refused _ _ _ _ _ _ _ _ c.reserved-waiting.ensures c.requires.room c.if-slots-p.false c.operands-n.ensures c.first_operand-at.ensures c.moved-first.ensures refl refl refl c.arguments.ensures c.in_err-values.was (handed_on c.from_residual.ensures)

pub compound-finish-requires : goal.compound-finish-requires
compound-finish-requires t c = (falls-moved _ _ c.args.p 4 c.decreases 3 c.moved-q.ensures (later-two c.args.p (later_first (c.args.program.now.ends.now) (frame_place (frames_of (c.args.program.now.index.now)) (c.args.p.line)) c.args.form (c.args.p.at.at) c.first_operand-at.ensures) c.moved-first.ensures (later-all c.arguments.ensures.onward c.in_ok-values.was)) (omega arith), (room_next c.requires.room c.moved-q.ensures (compound-moved _ _ _ _ _ _ _ c.args.form c.reserved-waiting.ensures c.requires.room c.if-slots-p.false c.operands-n.ensures c.first_operand-at.ensures c.moved-first.ensures refl refl refl c.arguments.ensures c.in_ok-values.was) (so-below _ _ _ _ _ _ _ c.args.form c.reserved-waiting.ensures c.requires.room c.if-slots-p.false c.operands-n.ensures c.first_operand-at.ensures c.moved-first.ensures refl refl refl c.arguments.ensures), rw c.moved-q.ensures (still-free _ _ _ _ _ _ _ c.args.form c.reserved-waiting.ensures c.requires.room c.if-slots-p.false c.operands-n.ensures c.first_operand-at.ensures c.moved-first.ensures refl refl refl c.arguments.ensures)))

pub compound-returns : goal.compound-returns
compound-returns t c = compound-done _ _ _ _ _ _ _ _ c.reserved-waiting.ensures c.requires.room c.if-slots-p.false c.operands-n.ensures c.first_operand-at.ensures c.moved-first.ensures refl refl refl c.arguments.ensures c.in_ok-values.was c.moved-q.ensures c.finish.ensures

pub expr-compound-requires : goal.expr-compound-requires
expr-compound-requires t c = (falls-head _ _ c.args.p 0 c.decreases 4 c.moved-q.ensures (shorter-behind _ _ c.frame_line-line.ensures (head-shorter c.head_at-head.ensures c.head_at-head.result.form refl (no-leaf c.head_at-head.result.form c.in_default.not-Bool c.in_default.not-Int c.in_default.not-Variable c.in_default.not-Now c.in_default.not-Last c.in_default.not-Missing))) (omega arith), (room_at c.requires c.moved-q.ensures, rw c.moved-q.ensures (c.frame_line-line.ensures)))

pub expr-returns-in-Bool : goal.expr-returns-in-Bool
expr-returns-in-Bool t c = expr-bool _ _ _ _ _ _ _ c.requires c.frame_line-line.ensures c.head_at-head.ensures c.in-Bool.is c.new_bool.ensures

pub expr-returns-in-Int : goal.expr-returns-in-Int
expr-returns-in-Int t c = expr-int _ _ _ _ _ _ _ c.requires c.frame_line-line.ensures c.head_at-head.ensures c.in-Int.is c.new_int.ensures

pub expr-returns-in-Variable : goal.expr-returns-in-Variable
expr-returns-in-Variable t c = expr-variable _ _ _ _ _ _ _ c.requires c.frame_line-line.ensures c.head_at-head.ensures refl c.in-Variable.is c.variable.ensures

pub expr-returns-in-Now : goal.expr-returns-in-Now
expr-returns-in-Now t c = expr-now _ _ _ _ _ _ _ c.requires c.frame_line-line.ensures c.head_at-head.ensures refl c.in-Now.is c.word_at.ensures

pub expr-returns-in-Last : goal.expr-returns-in-Last
expr-returns-in-Last t c = expr-last _ _ _ _ _ _ _ c.requires c.frame_line-line.ensures c.head_at-head.ensures refl c.in-Last.is c.channel_cell.ensures

pub expr-returns-in-Missing : goal.expr-returns-in-Missing
expr-returns-in-Missing t c = expr-missing _ _ _ _ _ _ _ c.requires c.frame_line-line.ensures c.head_at-head.ensures c.in-Missing.is refl

pub expr-returns-in_default : goal.expr-returns-in_default
expr-returns-in_default t c = expr-compound _ _ _ _ _ _ _ c.requires c.frame_line-line.ensures c.head_at-head.ensures c.moved-q.ensures refl (no-leaf c.head_at-head.result.form c.in_default.not-Bool c.in_default.not-Int c.in_default.not-Variable c.in_default.not-Now c.in_default.not-Last c.in_default.not-Missing) c.compound.ensures

pub finish-returns-in-Operator : goal.finish-returns-in-Operator
finish-returns-in-Operator t c = finish-operator _ _ _ _ _ _ _ _ _ c.in-Operator.is refl refl c.operator.ensures

pub finish-returns-in-Construct : goal.finish-returns-in-Construct
finish-returns-in-Construct t c = finish-construct _ _ _ _ _ _ _ _ _ c.in-Construct.is c.construct.ensures

pub finish-returns-in-Adjust : goal.finish-returns-in-Adjust
finish-returns-in-Adjust t c = finish-adjust _ _ _ _ _ _ _ _ _ c.requires.room c.in-Adjust.is c.word_at-first.ensures refl

pub finish-returns-in-Call : goal.finish-returns-in-Call
finish-returns-in-Call t c = finish-call _ _ _ _ _ _ _ _ _ c.in-Call.is c.body.ensures

pub finish-returns-in-Case : goal.finish-returns-in-Case
finish-returns-in-Case t c = finish-case _ _ _ _ _ _ _ _ _ c.in-Case.is c.word_at-first.ensures c.branch-program.ensures

pub finish-returns-in-If : goal.finish-returns-in-If
finish-returns-in-If t c = finish-if _ _ _ _ _ _ _ _ _ c.in-If.is c.word_at-first.ensures c.choice.ensures

pub finish-returns-in-Fit : goal.finish-returns-in-Fit
finish-returns-in-Fit t c = finish-fit _ _ _ _ _ _ _ _ _ c.in-Fit.is c.word_at-first.ensures c.fit.ensures

pub finish-returns-in-Let : goal.finish-returns-in-Let
finish-returns-in-Let t c = finish-let _ _ _ _ _ _ _ _ _ c.in-Let.is c.word_at-first.ensures c.binding.ensures

pub finish-returns-in_default : goal.finish-returns-in_default
finish-returns-in_default t c = finish-none _ _ _ _ _ _ _ _ _ (no-parts c.args.form c.in_default.not-Operator c.in_default.not-Construct c.in_default.not-Adjust c.in_default.not-Call c.in_default.not-Case c.in_default.not-If c.in_default.not-Fit c.in_default.not-Let) refl

pub fit-returns-then-size-k : goal.fit-returns-then-size-k
fit-returns-then-size-k t c = fit-second _ _ _ _ _ _ _ _ c.size.ensures c.if-size-k.true c.binding.ensures

pub fit-expr-requires : goal.fit-expr-requires
fit-expr-requires t c = (falls-moved _ _ c.args.p 2 c.decreases 0 c.moved-q.ensures (later-end _ _ _ c.end_of-third.ensures) (omega arith), room_at c.requires c.moved-q.ensures)

pub fit-returns : goal.fit-returns
fit-returns t c = fit-third _ _ _ _ _ _ _ _ c.size.ensures c.if-size-k.false c.end_of-third.ensures c.moved-q.ensures c.expr.ensures

pub operand-returns-in-Some : goal.operand-returns-in-Some
operand-returns-in-Some t c = operand-variable _ _ _ _ _ _ _ c.requires.room c.requires.line_value c.variable_at.ensures c.in-Some.is c.variable.ensures refl

pub operator-returns-then-o-lt-OPERATOR_AND : goal.operator-returns-then-o-lt-OPERATOR_AND
operator-returns-then-o-lt-OPERATOR_AND t c = operator-both _ _ _ _ _ _ _ _ _ _ c.if-o-lt-OPERATOR_AND.true c.word_at-left.ensures c.word_at.ensures c.operate.ensures

pub operator-returns-then-decides : goal.operator-returns-then-decides
operator-returns-then-decides t c = operator-decided _ _ _ _ _ _ _ _ _ _ c.if-o-lt-OPERATOR_AND.false c.word_at-left.ensures c.truth-holds.ensures c.decides.ensures c.if-decides.true c.one_if.ensures.0 c.new_bool.ensures

pub operator-returns-in_err-right : goal.operator-returns-in_err-right
operator-returns-in_err-right t c = operator-refused _ _ _ _ _ _ _ _ _ _ c.if-o-lt-OPERATOR_AND.false c.word_at-left.ensures c.truth-holds.ensures c.decides.ensures c.if-decides.false c.expr.ensures c.in_err-right.was (handed_on c.from_residual.ensures ∙ sym c.in_err-right.was)

pub operator-returns : goal.operator-returns
operator-returns t c = operator-done _ _ _ _ _ _ _ _ _ _ c.if-o-lt-OPERATOR_AND.false c.word_at-left.ensures c.truth-holds.ensures c.decides.ensures c.if-decides.false c.expr.ensures c.in_ok-right.was c.operate-2.ensures
