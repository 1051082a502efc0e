-- The cycle of the size checker meets its contracts: each need is answered by a law of the form's file; the measure is the load (`Loads`).
use Rattle.std.proofs.Common.{sym}
use Rattle.language.specs.HandedOn.{handed_on}
use Prim.Native.Nat.{ℕ}
use mathlib.Core.Path.{◌≡◌, refl, ap, ◌∙◌, subst}
use native.Mathlib.Omega.{arith}
use Rattle.size_laws.specs.Loads.{load_same, load_moved, load-wide, load-down, load-body, room-same, room-wide, room-down, room-widens, room-behind, room-rest, room-body, grows-behind, grows-wide}
use Rattle.size_laws.specs.TurnLaws.{put_is}
use Rattle.size_steps.specs.Agreement.{grows-to, grows-all-to}
use mathlib.Core.Bool.{false}
use Rattle.heads.specs.declared.Form.{Form}
use Rattle.heads.specs.declared.Form.TheVariants.{Bool as BoolForm, Int, Variable, Now, Last, Let, If, Operator, Call, Construct, Case, Adjust, Fit, Missing}
use Rattle.heads.specs.HeadForms.{now_named, last_named}
use Rattle.size_steps.specs.Leaves.{Operands}
use Rattle.size_steps.specs.declared.Instances.{Instances}
use Rattle.size_laws.specs.ExprLaws.{is_leaf, expr-deep, expr-bool, expr-int, expr-variable, expr-channel, expr-compound, compound-is, compound-none, operands_of}
use Rattle.size_laws.specs.SeveralLaws.{gathers-start, turned-variable, turned-expr, several-part, several-done}
use Rattle.size_laws.specs.CallLaws.{call-arguments, call-applied, apply-refused, apply-done}
use Rattle.size_laws.specs.EnterLaws.{enter-found, enter-absent, new-refused, new-entered, entry-numbers}
use Rattle.size_laws.specs.BodyLaws.{body-full, body_refused, body-differs, body-done}
use Rattle.size_laws.specs.ConLaws.{con-fields, con-made}
use Rattle.size_laws.specs.CaseLaws.{case-first, case-plain, case-outside, case-branches, case-done}
use Rattle.size_laws.specs.BranchesLaws.{branches-none, branches-first, branches-rest, branches-done}
use Rattle.size_laws.specs.BranchLaws.{branch-skipped, branch-split}
use Rattle.size_laws.specs.Walks.{walks-start, walks-are}
use Rattle.size_laws.specs.SplitRanks.{turn-falls, less_as}
use Rattle.size_laws.specs.SplitsLaws.{splits-part, splits-differ, splits-turn, splits-done}
use Rattle.size_laws.specs.IfLaws.{if-first, if-second, if-third, if-differ, if-done}
use Rattle.size_laws.specs.OpLaws.{op-first, op-second, op-done}
use Rattle.size_laws.specs.AdjLaws.{adj-outside, adj-refused, adj-plain, adj-lowered, adj-done}
use Rattle.size_laws.specs.FitLaws.{fit-subject, fit-plain, fit-first, fit-other, fit-differ, fit-done}
use Rattle.size_laws.specs.LetLaws.{let-first, let-second, let-done}
use Prim.Native.Nat.{ℕ}
use Rattle.heads.specs.Heads.{has_parts}
use Rattle.size_checker.proofs.cycle.+sizing.Goals as goal
use Rattle.size_checker.proofs.cycle.+sizing.Goals.{several-in-Some, several-in-None+in_ok-a-in-None}

-- a form of the last arm is no leaf
no-leaf : (f : Form) → ((b : ℕ) → f ≡ BoolForm b → ⊥) → ((n : ℕ) → f ≡ Int n → ⊥) → ((v : ℕ) → f ≡ Variable v → ⊥) → ((c : ℕ) → f ≡ Now c → ⊥) → ((c : ℕ) → f ≡ Last c → ⊥) → is_leaf f ≡ false
no-leaf (BoolForm b) other _ _ _ _ = absurd (other b refl)
no-leaf (Int n) _ other _ _ _ = absurd (other n refl)
no-leaf (Variable v) _ _ other _ _ = absurd (other v refl)
no-leaf (Now c) _ _ _ other _ = absurd (other c refl)
no-leaf (Last c) _ _ _ _ other = absurd (other c refl)
no-leaf Let _ _ _ _ _ = refl
no-leaf If _ _ _ _ _ = refl
no-leaf (Operator o) _ _ _ _ _ = refl
no-leaf (Call f) _ _ _ _ _ = refl
no-leaf (Construct t c) _ _ _ _ _ = refl
no-leaf (Case t) _ _ _ _ _ = refl
no-leaf Adjust _ _ _ _ _ = refl
no-leaf (Fit k) _ _ _ _ _ = refl
no-leaf Missing _ _ _ _ _ = refl

-- a form of the last arm of `compound` has no parts
no-parts : (f : Form) → (f ≡ Let → ⊥) → (f ≡ If → ⊥) → ((o : ℕ) → f ≡ Operator o → ⊥) → ((g : ℕ) → f ≡ Call g → ⊥) → ((t c : ℕ) → f ≡ Construct t c → ⊥) → ((t : ℕ) → f ≡ Case t → ⊥) → (f ≡ Adjust → ⊥) → ((k : ℕ) → f ≡ Fit k → ⊥) → has_parts f ≡ false
no-parts (BoolForm b) _ _ _ _ _ _ _ _ = refl
no-parts (Int n) _ _ _ _ _ _ _ _ = refl
no-parts (Variable v) _ _ _ _ _ _ _ _ = refl
no-parts (Now c) _ _ _ _ _ _ _ _ = refl
no-parts (Last c) _ _ _ _ _ _ _ _ = refl
no-parts Let other _ _ _ _ _ _ _ = absurd (other refl)
no-parts If _ other _ _ _ _ _ _ = absurd (other refl)
no-parts (Operator o) _ _ other _ _ _ _ _ = absurd (other o refl)
no-parts (Call f) _ _ _ other _ _ _ _ = absurd (other f refl)
no-parts (Construct t c) _ _ _ _ other _ _ _ = absurd (other t c refl)
no-parts (Case t) _ _ _ _ _ other _ _ = absurd (other t refl)
no-parts Adjust _ _ _ _ _ _ other _ = absurd (other refl)
no-parts (Fit k) _ _ _ _ _ _ _ other = absurd (other k refl)
no-parts Missing _ _ _ _ _ _ _ _ = refl

pub adjust-overflow_add-result : goal.adjust-overflow_add-result
adjust-overflow_add-result t c = omega (arith, c.requires.line)

pub adjust-returns-in_default-clause-sized : goal.adjust-returns-in_default-clause-sized
adjust-returns-in_default-clause-sized t c = adj-outside c.size_at.ensures c.frame_line-line.ensures c.in_default.is

pub adjust-expr-requires : goal.adjust-expr-requires
adjust-expr-requires t c = (load_moved _ 900 c.decreases _ 0 c.moved_on-q.ensures (omega arith) (omega arith), room-behind c.requires c.moved_on-q.ensures)

pub adjust-returns-in_err-a-clause-sized : goal.adjust-returns-in_err-a-clause-sized
adjust-returns-in_err-a-clause-sized t c = rw (handed_on c.from_residual.ensures ∙ sym c.in_err-a.was) (adj-refused c.size_at.ensures c.frame_line-line.ensures c.in-Some.is c.moved_on-q.ensures c.expr.ensures.sized c.in_err-a.was)

pub adjust-overflow_add-result-in_default-ty : goal.adjust-overflow_add-result-in_default-ty
adjust-overflow_add-result-in_default-ty t c = omega (arith, c.requires.line)

pub adjust-returns-in_default-ty-clause-sized : goal.adjust-returns-in_default-ty-clause-sized
adjust-returns-in_default-ty-clause-sized t c = adj-plain c.size_at.ensures c.frame_line-line.ensures c.in-Some.is c.moved_on-q.ensures c.expr.ensures.sized c.in_ok-a.was c.in_default-ty.not-Named

pub adjust-overflow_add-result-then-k-j : goal.adjust-overflow_add-result-then-k-j
adjust-overflow_add-result-then-k-j t c = omega (arith, c.requires.line)

pub adjust-returns-then-k-j-clause-sized : goal.adjust-returns-then-k-j-clause-sized
adjust-returns-then-k-j-clause-sized t c = adj-lowered c.size_at.ensures c.frame_line-line.ensures c.in-Some.is c.moved_on-q.ensures c.expr.ensures.sized c.in_ok-a.was c.in-Named.is c.if-k-j.true

pub adjust-returns-clause-sized : goal.adjust-returns-clause-sized
adjust-returns-clause-sized t c = adj-done c.size_at.ensures c.frame_line-line.ensures c.in-Some.is c.moved_on-q.ensures c.expr.ensures.sized c.in_ok-a.was c.in-Named.is c.if-k-j.false c.adjusted.ensures

pub apply-enter-requires : goal.apply-enter-requires
apply-enter-requires t c = (load_moved _ 800 c.decreases _ 90 c.moved_on-q.ensures c.requires.used_le_used.0 (omega arith), (room-rest c.requires.room c.moved_on-q.ensures, (c.requires.used_le_used.1.0, (c.requires.used_le_used.1.1, c.named_sizes-m.ensures.few))))

pub apply-returns-in_err-b-clause-sized : goal.apply-returns-in_err-b-clause-sized
apply-returns-in_err-b-clause-sized t c = rw (handed_on c.from_residual.ensures ∙ sym c.in_err-b.was) (apply-refused c.args.p c.args.a refl c.named_sizes-m.ensures c.moved_on-q.ensures c.enter.ensures.sized c.in_err-b.was)

pub apply-returns-clause-sized : goal.apply-returns-clause-sized
apply-returns-clause-sized t c = apply-done c.args.p c.args.a refl c.named_sizes-m.ensures c.moved_on-q.ensures c.enter.ensures.sized c.in_ok-b.was c.called.ensures.body c.called.ensures.both c.called.ensures.all c.called.ensures.is

pub at_splits-loop-more-init : goal.at_splits-loop-more-init
at_splits-loop-more-init t c = (walks-start c.nothing_yet-all.ensures.none c.nothing_yet-all.ensures.is, refl)

pub at_splits-widen-q-requires : goal.at_splits-widen-q-requires
at_splits-widen-q-requires t c = room-widens c.requires.room c.moved_on.ensures (omega (arith, c.fields-n.ensures.1)) (omega (arith, c.own_fields-own.ensures.1))

pub at_splits-expr-requires : goal.at_splits-expr-requires
at_splits-expr-requires t c = (load-wide _ 100 c.decreases _ _ _ _ 0 c.moved_on.ensures c.widen-q.ensures c.loop-more.invariant.0.grown (omega arith), room-wide c.requires.room c.moved_on.ensures c.widen-q.ensures (omega (arith, c.fields-n.ensures.1)) (omega (arith, c.own_fields-own.ensures.1)))

pub at_splits-returns-in_err-a-clause-sized : goal.at_splits-returns-in_err-a-clause-sized
at_splits-returns-in_err-a-clause-sized t c = rw (handed_on c.from_residual.ensures ∙ sym c.in_err-a.was) (splits-part (walks-are c.loop-more-test.true c.loop-more.invariant.0) c.fields-n.ensures c.own_fields-own.ensures (omega (arith, c.bind_fields-arg-1.given)) (omega (arith, c.bind_fields-arg-in-loop-more-2-1.given)) c.bind_fields.ensures c.moved_on.ensures c.widen-q.ensures c.expr.ensures.sized c.in_err-a.was)

pub at_splits-overflow_add-result : goal.at_splits-overflow_add-result
at_splits-overflow_add-result t c = omega (arith, c.requires.room.line)

pub at_splits-returns-then-not-is_type-clause-sized : goal.at_splits-returns-then-not-is_type-clause-sized
at_splits-returns-then-not-is_type-clause-sized t c = splits-differ (walks-are c.loop-more-test.true c.loop-more.invariant.0) c.fields-n.ensures c.own_fields-own.ensures (omega (arith, c.bind_fields-arg-1.given)) (omega (arith, c.bind_fields-arg-in-loop-more-2-1.given)) c.bind_fields.ensures c.moved_on.ensures c.widen-q.ensures c.expr.ensures.sized c.in_ok-a.was c.is_type.ensures c.if-not-is_type.true

pub at_splits-loop-more-smaller : goal.at_splits-loop-more-smaller
at_splits-loop-more-smaller t c = less_as _ c.loop-more-test.true (turn-falls c.args.p _ _ c.moved_on.ensures c.widen-q.ensures c.expr.ensures.sized.kept c.next_split-more.ensures)

pub at_splits-loop-more-preserved : goal.at_splits-loop-more-preserved
at_splits-loop-more-preserved t c = (splits-turn (walks-are c.loop-more-test.true c.loop-more.invariant.0) c.fields-n.ensures c.own_fields-own.ensures (omega (arith, c.bind_fields-arg-1.given)) (omega (arith, c.bind_fields-arg-in-loop-more-2-1.given)) c.bind_fields.ensures c.moved_on.ensures c.widen-q.ensures c.expr.ensures.sized c.in_ok-a.was c.is_type.ensures c.if-not-is_type.false (omega (arith, c.next_split-arg-1.given)) c.larger-all.ensures.both c.larger-all.ensures.is c.next_split-more.ensures, c.expr.ensures.same_list ∙ c.loop-more.invariant.1)

pub at_splits-returns-clause-sized : goal.at_splits-returns-clause-sized
at_splits-returns-clause-sized t c = splits-done (walks-are c.loop-more-test.false c.loop-more.invariant.0) c.fields-n.ensures c.slotted.ensures.held c.slotted.ensures.is

pub binding-expr-requires : goal.binding-expr-requires
binding-expr-requires t c = (load_same _ 900 c.decreases 0 (omega arith), room-same c.requires (omega arith))

pub binding-returns-in_err-a-clause-sized : goal.binding-returns-in_err-a-clause-sized
binding-returns-in_err-a-clause-sized t c = rw (handed_on c.from_residual.ensures ∙ sym c.in_err-a.was) (let-first c.expr.ensures.sized c.in_err-a.was)

pub binding-widen-q-requires : goal.binding-widen-q-requires
binding-widen-q-requires t c = room-widens c.requires c.behind.ensures (omega arith) (omega arith)

pub binding-expr-requires-2 : goal.binding-expr-requires-2
binding-expr-requires-2 t c = (load-wide _ 900 c.decreases _ _ 1 0 0 c.behind.ensures c.widen-q.ensures (grows-to c.expr.ensures.sized.grows c.in_ok-a.was) (omega arith), room-wide c.requires c.behind.ensures c.widen-q.ensures (omega arith) (omega arith))

pub binding-returns-in_err-b-clause-sized : goal.binding-returns-in_err-b-clause-sized
binding-returns-in_err-b-clause-sized t c = rw (handed_on c.from_residual-in_err-b.ensures ∙ sym c.in_err-b.was) (let-second c.expr.ensures.sized (omega (arith, c.put-arg-1.given.0.1)) c.in_ok-a.was c.type_word.ensures.is c.behind.ensures c.widen-q.ensures (put_is c.put.ensures c.expr-2.ensures.sized) c.in_err-b.was)

pub binding-returns-clause-sized : goal.binding-returns-clause-sized
binding-returns-clause-sized t c = let-done c.expr.ensures.sized (omega (arith, c.put-arg-1.given.0.1)) c.in_ok-a.was c.type_word.ensures.is c.behind.ensures c.widen-q.ensures (put_is c.put.ensures c.expr-2.ensures.sized) c.in_ok-b.was c.with_let.ensures.held c.with_let.ensures.all c.with_let.ensures.is

pub body-overflow_add-result : goal.body-overflow_add-result
body-overflow_add-result t c = omega (arith, c.requires.room.line)

pub body-returns-then-p-ge-INSTANCES_MOST-clause-sized : goal.body-returns-then-p-ge-INSTANCES_MOST-clause-sized
body-returns-then-p-ge-INSTANCES_MOST-clause-sized t c = body-full _ _ c.if-p-ge-INSTANCES_MOST.true

pub body-body_site-q-requires : goal.body-body_site-q-requires
body-body_site-q-requires t c = omega (arith, c.if-p-ge-INSTANCES_MOST.false)

pub body-expr-requires : goal.body-expr-requires
body-expr-requires t c = (load-body _ 80 c.decreases c.args.source.now.index.now c.args.e _ c.body_site-q.ensures (omega (arith, c.if-p-ge-INSTANCES_MOST.false)), room-body c.args.p c.args.source.now.index.now c.requires.entered c.body_site-q.ensures)

pub body-returns-in_err-a-clause-sized : goal.body-returns-in_err-a-clause-sized
body-returns-in_err-a-clause-sized t c = rw (handed_on c.from_residual.ensures ∙ sym c.in_err-a.was) (body_refused _ _ (omega (arith, c.if-p-ge-INSTANCES_MOST.false)) c.from.ensures.is c.add.ensures c.body_site-q.ensures c.expr.ensures.sized c.in_err-a.was)

pub body-overflow_add-result-then-not-is_type : goal.body-overflow_add-result-then-not-is_type
body-overflow_add-result-then-not-is_type t c = omega (arith, ap (λ z. z.place.line) c.body_site-q.ensures)

pub body-returns-then-not-is_type-clause-sized : goal.body-returns-then-not-is_type-clause-sized
body-returns-then-not-is_type-clause-sized t c = body-differs _ _ (omega (arith, c.if-p-ge-INSTANCES_MOST.false)) c.from.ensures.is c.add.ensures c.body_site-q.ensures c.expr.ensures.sized c.in_ok-a.was c.is_type.ensures c.if-not-is_type.true

pub body-returns-clause-sized : goal.body-returns-clause-sized
body-returns-clause-sized t c = body-done _ _ (omega (arith, c.if-p-ge-INSTANCES_MOST.false)) c.from.ensures.is c.add.ensures c.body_site-q.ensures c.expr.ensures.sized c.in_ok-a.was c.is_type.ensures c.if-not-is_type.false c.finish.ensures c.moved_on.ensures c.leaf.ensures

pub branch-returns-then-m-own-clause-sized : goal.branch-returns-then-m-own-clause-sized
branch-returns-then-m-own-clause-sized t c = branch-skipped c.own_fields-own.ensures (omega (arith, c.if-m-own.true)) c.frame_line-line.ensures c.skip-next.ensures c.moved_on.ensures c.nothing.ensures c.leaf.ensures

pub branch-overflow_sub-m : goal.branch-overflow_sub-m
branch-overflow_sub-m t c = omega (arith, c.if-m-own.false)

pub branch-at_splits-requires : goal.branch-at_splits-requires
branch-at_splits-requires t c = (load_same _ 200 c.decreases 100 (omega arith), (c.requires.room, c.requires.of_lt_byte_range))

pub branch-returns-clause-sized : goal.branch-returns-clause-sized
branch-returns-clause-sized t c = branch-split c.own_fields-own.ensures c.if-m-own.false (omega (arith, c.first_split-arg-1.given.0.1)) c.first_split.ensures c.at_splits.ensures.sized

pub branches-returns-then-constructors-k-clause-sized : goal.branches-returns-then-constructors-k-clause-sized
branches-returns-then-constructors-k-clause-sized t c = branches-none c.constructors.ensures c.if-constructors-k.true c.nothing.ensures c.leaf.ensures

pub branches-branch-source-requires : goal.branches-branch-source-requires
branches-branch-source-requires t c = (load_same _ _ c.decreases 200 (omega arith), (c.requires.room, (c.requires.of_lt_byte_range.0, omega (arith, c.if-constructors-k.false, c.constructors.ensures.1))))

pub branches-returns-in_err-a-clause-sized : goal.branches-returns-in_err-a-clause-sized
branches-returns-in_err-a-clause-sized t c = rw (handed_on c.from_residual.ensures ∙ sym c.in_err-a.was) (branches-first c.constructors.ensures c.if-constructors-k.false c.branch-source.ensures.sized c.in_err-a.was)

pub branches-overflow_add-j : goal.branches-overflow_add-j
branches-overflow_add-j t c = omega (arith, c.if-constructors-k.false, c.constructors.ensures.1)

pub branches-branches-requires : goal.branches-branches-requires
branches-branches-requires t c = (load_moved _ _ c.decreases _ _ c.behind-q.ensures (grows-to c.branch-source.ensures.sized.grows c.in_ok-a.was) (omega (arith, c.if-constructors-k.false, c.constructors.ensures.1)), (room-rest c.requires.room c.behind-q.ensures, (c.requires.of_lt_byte_range.0, omega (arith, c.if-constructors-k.false, c.constructors.ensures.1))))

pub branches-returns-in_err-b-clause-sized : goal.branches-returns-in_err-b-clause-sized
branches-returns-in_err-b-clause-sized t c = rw (handed_on c.from_residual-in_err-b.ensures ∙ sym c.in_err-b.was) (branches-rest c.constructors.ensures c.if-constructors-k.false c.branch-source.ensures.sized c.in_ok-a.was c.behind-q.ensures c.branches.ensures.sized c.in_err-b.was)

pub branches-returns-clause-sized : goal.branches-returns-clause-sized
branches-returns-clause-sized t c = branches-done c.constructors.ensures c.if-constructors-k.false c.branch-source.ensures.sized c.in_ok-a.was c.behind-q.ensures c.branches.ensures.sized c.in_ok-b.was c.branched.ensures.all c.branched.ensures.is

pub call-several-requires : goal.call-several-requires
call-several-requires t c = (load_same _ 900 c.decreases 300 (omega arith), (c.requires.room, c.arity-n.ensures.1))

pub call-returns-in_err-a-clause-sized : goal.call-returns-in_err-a-clause-sized
call-returns-in_err-a-clause-sized t c = call-arguments c.arity-n.ensures (omega arith) c.several.ensures.sized c.in_err-a.was (handed_on c.from_residual.ensures)

pub call-apply-requires : goal.call-apply-requires
call-apply-requires t c = (load_same _ 900 c.decreases 800 (omega arith), (c.requires.room, (grows-all-to c.several.ensures.sized.grows c.in_ok-a.was, (c.requires.f_lt_byte_range, c.arity-n.ensures.1))))

pub call-returns-clause-sized : goal.call-returns-clause-sized
call-returns-clause-sized t c = call-applied c.arity-n.ensures (omega arith) c.several.ensures.sized c.in_ok-a.was c.apply.ensures.sized

pub case_of-expr-requires : goal.case_of-expr-requires
case_of-expr-requires t c = (load_same _ 900 c.decreases 0 (omega arith), room-same c.requires.room (omega arith))

pub case_of-returns-in_err-a-clause-sized : goal.case_of-returns-in_err-a-clause-sized
case_of-returns-in_err-a-clause-sized t c = rw (handed_on c.from_residual.ensures ∙ sym c.in_err-a.was) (case-first c.expr.ensures.sized c.in_err-a.was)

pub case_of-overflow_add-result : goal.case_of-overflow_add-result
case_of-overflow_add-result t c = omega (arith, c.requires.room.line)

pub case_of-returns-in_default-clause-sized : goal.case_of-returns-in_default-clause-sized
case_of-returns-in_default-clause-sized t c = case-plain c.expr.ensures.sized c.in_ok-a.was c.in_default.not-Named

pub case_of-overflow_add-result-in_default-type_at : goal.case_of-overflow_add-result-in_default-type_at
case_of-overflow_add-result-in_default-type_at t c = omega (arith, c.requires.room.line)

pub case_of-returns-in_default-type_at-clause-sized : goal.case_of-returns-in_default-type_at-clause-sized
case_of-returns-in_default-type_at-clause-sized t c = case-outside c.expr.ensures.sized c.in_ok-a.was c.in-Named.is c.frame_line-line.ensures c.type_at.ensures c.in_default-type_at.is

pub case_of-branches-requires : goal.case_of-branches-requires
case_of-branches-requires t c = (load_moved _ 900 c.decreases _ _ c.moved_on-q.ensures (grows-to c.expr.ensures.sized.grows c.in_ok-a.was) (omega arith), (room-rest c.requires.room c.moved_on-q.ensures, (omega (arith, ap (λ z. z.of) c.subject-s.ensures, c.requires.t_lt_byte_range), omega arith)))

pub case_of-returns-in_err-b-clause-sized : goal.case_of-returns-in_err-b-clause-sized
case_of-returns-in_err-b-clause-sized t c = rw (handed_on c.from_residual-in_err-b.ensures ∙ sym c.in_err-b.was) (case-branches c.expr.ensures.sized c.in_ok-a.was c.in-Named.is c.frame_line-line.ensures c.type_at.ensures c.in-Some.is c.moved_on-q.ensures c.subject-s.ensures c.branches.ensures.sized c.in_err-b.was)

pub case_of-returns-clause-sized : goal.case_of-returns-clause-sized
case_of-returns-clause-sized t c = case-done c.expr.ensures.sized c.in_ok-a.was c.in-Named.is c.frame_line-line.ensures c.type_at.ensures c.in-Some.is c.moved_on-q.ensures c.subject-s.ensures c.branches.ensures.sized c.in_ok-b.was c.cased.ensures.all c.cased.ensures.is

pub choice-expr-requires : goal.choice-expr-requires
choice-expr-requires t c = (load_same _ 900 c.decreases 0 (omega arith), room-same c.requires (omega arith))

pub choice-returns-in_err-a-clause-sized : goal.choice-returns-in_err-a-clause-sized
choice-returns-in_err-a-clause-sized t c = rw (handed_on c.from_residual.ensures ∙ sym c.in_err-a.was) (if-first c.expr.ensures.sized c.in_err-a.was)

pub choice-expr-requires-2 : goal.choice-expr-requires-2
choice-expr-requires-2 t c = (load_moved _ 900 c.decreases _ 0 c.behind-q.ensures (grows-to c.expr.ensures.sized.grows c.in_ok-a.was) (omega arith), room-behind c.requires c.behind-q.ensures)

pub choice-returns-in_err-b-clause-sized : goal.choice-returns-in_err-b-clause-sized
choice-returns-in_err-b-clause-sized t c = rw (handed_on c.from_residual-in_err-b.ensures ∙ sym c.in_err-b.was) (if-second c.expr.ensures.sized c.in_ok-a.was c.behind-q.ensures c.expr-2.ensures.sized c.in_err-b.was)

pub choice-expr-requires-3 : goal.choice-expr-requires-3
choice-expr-requires-3 t c = (load_moved _ 900 c.decreases _ 0 c.behind-r.ensures (grows-behind c.args.p (grows-to c.expr.ensures.sized.grows c.in_ok-a.was) c.behind-q.ensures c.expr-2.ensures.sized.grows c.in_ok-b.was) (omega arith), room-behind c.requires c.behind-r.ensures)

pub choice-returns-in_err-d-clause-sized : goal.choice-returns-in_err-d-clause-sized
choice-returns-in_err-d-clause-sized t c = rw (handed_on c.from_residual-in_err-d.ensures ∙ sym c.in_err-d.was) (if-third c.expr.ensures.sized c.in_ok-a.was c.behind-q.ensures c.expr-2.ensures.sized c.in_ok-b.was c.behind-r.ensures c.expr-3.ensures.sized c.in_err-d.was)

pub choice-overflow_add-result : goal.choice-overflow_add-result
choice-overflow_add-result t c = omega (arith, c.requires.line)

pub choice-returns-then-not-agree-clause-sized : goal.choice-returns-then-not-agree-clause-sized
choice-returns-then-not-agree-clause-sized t c = if-differ c.expr.ensures.sized c.in_ok-a.was c.behind-q.ensures c.expr-2.ensures.sized c.in_ok-b.was c.behind-r.ensures c.expr-3.ensures.sized c.in_ok-d.was c.agree.ensures c.if-not-agree.true

pub choice-returns-clause-sized : goal.choice-returns-clause-sized
choice-returns-clause-sized t c = if-done c.expr.ensures.sized c.in_ok-a.was c.behind-q.ensures c.expr-2.ensures.sized c.in_ok-b.was c.behind-r.ensures c.expr-3.ensures.sized c.in_ok-d.was c.agree.ensures c.if-not-agree.false c.chosen.ensures.both c.chosen.ensures.all c.chosen.ensures.is

pub compound-binding-requires : goal.compound-binding-requires
compound-binding-requires t c = (load_same _ 1000 c.decreases 900 (omega arith), c.requires.room)

pub compound-choice-requires : goal.compound-choice-requires
compound-choice-requires t c = (load_same _ 1000 c.decreases 900 (omega arith), c.requires.room)

pub compound-operation-requires : goal.compound-operation-requires
compound-operation-requires t c = (load_same _ 1000 c.decreases 900 (omega arith), c.requires.room)

pub compound-call-requires : goal.compound-call-requires
compound-call-requires t c = (load_same _ 1000 c.decreases 900 (omega arith), (c.requires.room, subst Operands c.in-Call.is c.requires.operands))

pub compound-construct-requires : goal.compound-construct-requires
compound-construct-requires t c = (load_same _ 1000 c.decreases 900 (omega arith), (c.requires.room, subst Operands c.in-Construct.is c.requires.operands))

pub compound-case_of-requires : goal.compound-case_of-requires
compound-case_of-requires t c = (load_same _ 1000 c.decreases 900 (omega arith), (c.requires.room, subst Operands c.in-Case.is c.requires.operands))

pub compound-adjust-requires : goal.compound-adjust-requires
compound-adjust-requires t c = (load_same _ 1000 c.decreases 900 (omega arith), c.requires.room)

pub compound-fit-requires : goal.compound-fit-requires
compound-fit-requires t c = (load_same _ 1000 c.decreases 900 (omega arith), (c.requires.room, subst Operands c.in-Fit.is c.requires.operands))

pub compound-overflow_add-result : goal.compound-overflow_add-result
compound-overflow_add-result t c = omega (arith, c.requires.room.line)

pub compound-returns-in-Let-clause-sized : goal.compound-returns-in-Let-clause-sized
compound-returns-in-Let-clause-sized t c = compound-is c.in-Let.is c.binding.ensures.sized

pub compound-returns-in-If-clause-sized : goal.compound-returns-in-If-clause-sized
compound-returns-in-If-clause-sized t c = compound-is c.in-If.is c.choice.ensures.sized

pub compound-returns-in-Operator-clause-sized : goal.compound-returns-in-Operator-clause-sized
compound-returns-in-Operator-clause-sized t c = compound-is c.in-Operator.is c.operation.ensures.sized

pub compound-returns-in-Call-clause-sized : goal.compound-returns-in-Call-clause-sized
compound-returns-in-Call-clause-sized t c = compound-is c.in-Call.is c.call.ensures.sized

pub compound-returns-in-Construct-clause-sized : goal.compound-returns-in-Construct-clause-sized
compound-returns-in-Construct-clause-sized t c = compound-is c.in-Construct.is c.construct.ensures.sized

pub compound-returns-in-Case-clause-sized : goal.compound-returns-in-Case-clause-sized
compound-returns-in-Case-clause-sized t c = compound-is c.in-Case.is c.case_of.ensures.sized

pub compound-returns-in-Adjust-clause-sized : goal.compound-returns-in-Adjust-clause-sized
compound-returns-in-Adjust-clause-sized t c = compound-is c.in-Adjust.is c.adjust.ensures.sized

pub compound-returns-in-Fit-clause-sized : goal.compound-returns-in-Fit-clause-sized
compound-returns-in-Fit-clause-sized t c = compound-is c.in-Fit.is c.fit.ensures.sized

pub compound-returns-in_default-clause-sized : goal.compound-returns-in_default-clause-sized
compound-returns-in_default-clause-sized t c = compound-none c.args.form (no-parts c.args.form c.in_default.not-Let c.in_default.not-If c.in_default.not-Operator c.in_default.not-Call c.in_default.not-Construct c.in_default.not-Case c.in_default.not-Adjust c.in_default.not-Fit)

pub construct-several-requires : goal.construct-several-requires
construct-several-requires t c = (load_same _ 900 c.decreases 300 (omega arith), (c.requires.room, c.fields-n.ensures.1))

pub construct-returns-in_err-a-clause-sized : goal.construct-returns-in_err-a-clause-sized
construct-returns-in_err-a-clause-sized t c = con-fields c.fields-n.ensures (omega arith) c.several.ensures.sized c.in_err-a.was (handed_on c.from_residual.ensures)

pub construct-made-requires : goal.construct-made-requires
construct-made-requires t c = (c.requires.room.line, c.requires.t_lt_byte_range.0)

pub construct-returns-clause-sized : goal.construct-returns-clause-sized
construct-returns-clause-sized t c = con-made c.fields-n.ensures (omega arith) c.several.ensures.sized c.in_ok-a.was c.made.ensures

pub enter-enter_new-requires : goal.enter-enter_new-requires
enter-enter_new-requires t c = (load_same _ 90 c.decreases 85 (omega arith), (c.requires.room, c.requires.f_lt_byte_range))

pub enter-returns-in_default-clause-sized : goal.enter-returns-in_default-clause-sized
enter-returns-in_default-clause-sized t c = enter-absent c.find.ensures c.in_default.is c.enter_new.ensures.sized

pub enter-known-requires : goal.enter-known-requires
enter-known-requires t c = c.requires.room.line

pub enter-returns-clause-sized : goal.enter-returns-clause-sized
enter-returns-clause-sized t c = enter-found c.find.ensures c.in-Some.is c.known.ensures

pub enter_new-prepare-requires : goal.enter_new-prepare-requires
enter_new-prepare-requires t c = c.requires.room.line

pub enter_new-returns-in_err-e-clause-sized : goal.enter_new-returns-in_err-e-clause-sized
enter_new-returns-in_err-e-clause-sized t c = new-refused c.prepare.ensures c.in_err-e.was (handed_on c.from_residual.ensures)

pub enter_new-body-requires : goal.enter_new-body-requires
enter_new-body-requires t c = (load_same _ 85 c.decreases 80 (omega arith), (c.requires.room, entry-numbers c.prepare.ensures.of c.in_ok-e.was c.requires.f_lt_byte_range.0 c.requires.f_lt_byte_range.1.0 c.requires.f_lt_byte_range.1.1))

pub enter_new-returns-clause-sized : goal.enter_new-returns-clause-sized
enter_new-returns-clause-sized t c = new-entered c.prepare.ensures c.in_ok-e.was c.body.ensures.sized

pub expr-overflow_add-result : goal.expr-overflow_add-result
expr-overflow_add-result t c = omega (arith, c.requires.line)

pub expr-returns-then-here-eq0-clause-sized : goal.expr-returns-then-here-eq0-clause-sized
expr-returns-then-here-eq0-clause-sized t c = expr-deep c.if-here-eq0.true

pub expr-down-q-requires : goal.expr-down-q-requires
expr-down-q-requires t c = omega (arith, c.if-here-eq0.false)

pub expr-compound-requires : goal.expr-compound-requires
expr-compound-requires t c = (load-down _ 0 c.decreases _ 1000 c.down-q.ensures (omega (arith, c.if-here-eq0.false)) (omega arith), (room-down c.requires c.down-q.ensures (omega (arith, c.if-here-eq0.false)) refl, operands_of c.head_at-h.ensures _ refl))

pub expr-returns-in-Bool-clause-sized : goal.expr-returns-in-Bool-clause-sized
expr-returns-in-Bool-clause-sized t c = expr-bool c.frame_line-line.ensures c.head_at-h.ensures c.down-q.ensures c.in-Bool.is c.leaf.ensures c.one_cell.ensures

pub expr-returns-in-Int-clause-sized : goal.expr-returns-in-Int-clause-sized
expr-returns-in-Int-clause-sized t c = expr-int c.frame_line-line.ensures c.head_at-h.ensures c.down-q.ensures c.in-Int.is c.leaf-in-Int.ensures c.one_cell-in-Int.ensures

pub expr-returns-in-Variable-clause-sized : goal.expr-returns-in-Variable-clause-sized
expr-returns-in-Variable-clause-sized t c = expr-variable c.frame_line-line.ensures c.head_at-h.ensures c.down-q.ensures c.in-Variable.is c.type_in.ensures c.leaf-in-Variable.ensures c.nothing.ensures

pub expr-returns-in-Now-clause-sized : goal.expr-returns-in-Now-clause-sized
expr-returns-in-Now-clause-sized t c = expr-channel c.frame_line-line.ensures c.head_at-h.ensures c.down-q.ensures (now_named c.in-Now.is) c.channel_type.ensures c.leaf-in-Now.ensures c.nothing-in-Now.ensures

pub expr-returns-in-Last-clause-sized : goal.expr-returns-in-Last-clause-sized
expr-returns-in-Last-clause-sized t c = expr-channel c.frame_line-line.ensures c.head_at-h.ensures c.down-q.ensures (last_named c.in-Last.is) c.channel_type-in-Last.ensures c.leaf-in-Last.ensures c.nothing-in-Last.ensures

pub expr-returns-in_default-clause-sized : goal.expr-returns-in_default-clause-sized
expr-returns-in_default-clause-sized t c = expr-compound c.frame_line-line.ensures c.head_at-h.ensures c.down-q.ensures c.head_at-h.result.form refl (no-leaf c.head_at-h.result.form c.in_default.not-Bool c.in_default.not-Int c.in_default.not-Variable c.in_default.not-Now c.in_default.not-Last) c.compound.ensures.sized

pub fit-expr-requires : goal.fit-expr-requires
fit-expr-requires t c = (load_same _ 900 c.decreases 0 (omega arith), room-same c.requires.0 (omega arith))

pub fit-returns-in_err-a-clause-sized : goal.fit-returns-in_err-a-clause-sized
fit-returns-in_err-a-clause-sized t c = rw (handed_on c.from_residual.ensures ∙ sym c.in_err-a.was) (fit-subject _ c.expr.ensures.sized c.in_err-a.was)

pub fit-overflow_add-result : goal.fit-overflow_add-result
fit-overflow_add-result t c = omega (arith, c.requires.0.line)

pub fit-returns-in_default-clause-sized : goal.fit-returns-in_default-clause-sized
fit-returns-in_default-clause-sized t c = fit-plain _ c.expr.ensures.sized c.in_ok-a.was c.in_default.not-Named

pub fit-overflow_cast-k : goal.fit-overflow_cast-k
fit-overflow_cast-k t c = omega (arith, c.requires.1)

pub fit-widen-q-requires : goal.fit-widen-q-requires
fit-widen-q-requires t c = room-widens c.requires.0 c.behind.ensures (omega arith) (omega arith)

pub fit-expr-requires-2 : goal.fit-expr-requires-2
fit-expr-requires-2 t c = (load-wide _ 900 c.decreases _ _ 1 0 0 c.behind.ensures c.widen-q.ensures (grows-to c.expr.ensures.sized.grows c.in_ok-a.was) (omega arith), room-wide c.requires.0 c.behind.ensures c.widen-q.ensures (omega arith) (omega arith))

pub fit-returns-in_err-b-clause-sized : goal.fit-returns-in_err-b-clause-sized
fit-returns-in_err-b-clause-sized t c = rw (handed_on c.from_residual-in_err-b.ensures ∙ sym c.in_err-b.was) (fit-first _ c.expr.ensures.sized (omega (arith, c.put-arg-1.given.0.1)) c.in_ok-a.was c.in-Named.is c.from-word.ensures.is c.behind.ensures c.widen-q.ensures (put_is c.put.ensures c.expr-2.ensures.sized) c.in_err-b.was)

pub fit-expr-requires-3 : goal.fit-expr-requires-3
fit-expr-requires-3 t c = (load_moved _ 900 c.decreases _ 0 c.behind-r.ensures (grows-wide c.args.p 1 0 (grows-to c.expr.ensures.sized.grows c.in_ok-a.was) c.behind.ensures c.widen-q.ensures c.expr-2.ensures.sized.grows c.in_ok-b.was) (omega arith), room-behind c.requires.0 c.behind-r.ensures)

pub fit-returns-in_err-d-clause-sized : goal.fit-returns-in_err-d-clause-sized
fit-returns-in_err-d-clause-sized t c = rw (handed_on c.from_residual-in_err-d.ensures ∙ sym c.in_err-d.was) (fit-other _ c.expr.ensures.sized (omega (arith, c.put-arg-1.given.0.1)) c.in_ok-a.was c.in-Named.is c.from-word.ensures.is c.behind.ensures c.widen-q.ensures (put_is c.put.ensures c.expr-2.ensures.sized) c.in_ok-b.was c.behind-r.ensures c.expr-3.ensures.sized c.in_err-d.was)

pub fit-overflow_add-result-then-not-agree : goal.fit-overflow_add-result-then-not-agree
fit-overflow_add-result-then-not-agree t c = omega (arith, c.requires.0.line)

pub fit-returns-then-not-agree-clause-sized : goal.fit-returns-then-not-agree-clause-sized
fit-returns-then-not-agree-clause-sized t c = fit-differ _ c.expr.ensures.sized (omega (arith, c.put-arg-1.given.0.1)) c.in_ok-a.was c.in-Named.is c.from-word.ensures.is c.behind.ensures c.widen-q.ensures (put_is c.put.ensures c.expr-2.ensures.sized) c.in_ok-b.was c.behind-r.ensures c.expr-3.ensures.sized c.in_ok-d.was c.agree.ensures c.if-not-agree.true

pub fit-returns-clause-sized : goal.fit-returns-clause-sized
fit-returns-clause-sized t c = fit-done _ c.expr.ensures.sized (omega (arith, c.put-arg-1.given.0.1)) c.in_ok-a.was c.in-Named.is c.from-word.ensures.is c.behind.ensures c.widen-q.ensures (put_is c.put.ensures c.expr-2.ensures.sized) c.in_ok-b.was c.behind-r.ensures c.expr-3.ensures.sized c.in_ok-d.was c.agree.ensures c.if-not-agree.false c.fitted.ensures.held c.fitted.ensures.both c.fitted.ensures.all c.fitted.ensures.is

pub operation-expr-requires : goal.operation-expr-requires
operation-expr-requires t c = (load_same _ 900 c.decreases 0 (omega arith), room-same c.requires (omega arith))

pub operation-returns-in_err-a-clause-sized : goal.operation-returns-in_err-a-clause-sized
operation-returns-in_err-a-clause-sized t c = rw (handed_on c.from_residual.ensures ∙ sym c.in_err-a.was) (op-first c.expr.ensures.sized c.in_err-a.was)

pub operation-expr-requires-2 : goal.operation-expr-requires-2
operation-expr-requires-2 t c = (load_moved _ 900 c.decreases _ 0 c.behind-q.ensures (grows-to c.expr.ensures.sized.grows c.in_ok-a.was) (omega arith), room-behind c.requires c.behind-q.ensures)

pub operation-returns-in_err-b-clause-sized : goal.operation-returns-in_err-b-clause-sized
operation-returns-in_err-b-clause-sized t c = rw (handed_on c.from_residual-in_err-b.ensures ∙ sym c.in_err-b.was) (op-second c.expr.ensures.sized c.in_ok-a.was c.behind-q.ensures c.expr-2.ensures.sized c.in_err-b.was)

pub operation-returns-clause-sized : goal.operation-returns-clause-sized
operation-returns-clause-sized t c = op-done c.expr.ensures.sized c.in_ok-a.was c.behind-q.ensures c.expr-2.ensures.sized c.in_ok-b.was c.operated.ensures.typed c.operated.ensures.both c.operated.ensures.one c.operated.ensures.all c.operated.ensures.is

pub several-loop-i-init : goal.several-loop-i-init
several-loop-i-init t c = (gathers-start c.none_at-all.ensures, refl)

pub several-expr-requires : goal.several-expr-requires
several-expr-requires t c = (load_moved _ 300 c.decreases _ 0 c.moved_on-q.ensures c.loop-i.invariant.0.grown (omega arith), room-behind c.requires.0 c.moved_on-q.ensures)

pub several-shape_of-row-in_err-a-in-None : goal.several-shape_of-row-in_err-a-in-None
several-shape_of-row-in_err-a-in-None t c = c.loop-i.invariant.0.long

pub several-returns-in_err-a-in-None-clause-sized : goal.several-returns-in_err-a-in-None-clause-sized
several-returns-in_err-a-in-None-clause-sized t c = several-part c.loop-i.invariant.0 c.loop-i-test.true c.moved_on-q.ensures c.expr.ensures.sized c.in_err-a-in-None.was (handed_on c.from_residual.ensures)

pub several-overflow_cast-i-in-None : goal.several-overflow_cast-i-in-None
several-overflow_cast-i-in-None t c = omega (arith, c.loop-i-test.true, c.requires.1)

pub several-loop-i-preserved : goal.several-loop-i-preserved
several-loop-i-preserved t c =
    elim c.match-variable_at.branch [
      | several-in-Some w ↦ (turned-variable c.loop-i.invariant.0 c.loop-i-test.true c.frame_line-line.ensures c.variable_at.ensures w.in-Some.is _ w.word_at.ensures w.put.ensures w.passed-all.ensures w.instances-is w.scope-is w.row-is w.all-is, ap (λ (i : Instances). i.list.ghost_name) w.instances-is ∙ c.loop-i.invariant.1)
      | several-in-None+in_ok-a-in-None w ↦ (turned-expr c.loop-i.invariant.0 c.loop-i-test.true w.moved_on-q.ensures w.expr.ensures.sized w.in_ok-a-in-None.was _ w.type_word.ensures.is w.put-in-None.ensures w.joined-all.ensures w.instances-is w.scope-is w.row-is w.all-is, ap (λ (i : Instances). i.list.ghost_name) w.instances-is ∙ w.expr.ensures.same_list ∙ c.loop-i.invariant.1)
    ]

pub several-shape_of-row : goal.several-shape_of-row
several-shape_of-row t c = c.loop-i.invariant.0.long

pub several-returns-clause-sized : goal.several-returns-clause-sized
several-returns-clause-sized t c = several-done c.loop-i.invariant.0 c.loop-i-test.false refl
