-- The paper's theorem 4.4, soundness of the estimation, and simulation by the plain machine, in one induction. An expression of
-- a type, given at least its three numbers, has a value of that type; the plain machine derives that value's tree.
use Rattle.std.specs.Prelude.{ℕ, zero, suc, true, ◌≡◌}
use mathlib.Core.List.{List, ◌++◌, Memᴰ}
use Rattle.std.proofs.Math.Option.{some}
use Rattle.std.proofs.Math.ListN.{get_elem? as look}
use Rattle.language.specs.Limits.{nesting_most}
use Rattle.language.specs.Syntax.{TypeDef, Constructor, Ty, Expr, Exprs, Function, File}
use Rattle.language.specs.Scope.{Scope, body_scope}
use Rattle.language.specs.Within.{WithinExpr, w_bool, w_int, w_var, w_now, w_last, w_let, w_if, w_op, w_call, w_con, w_case, w_adj, w_fit, WithinExprs, ws_nil, ws_cons, WithinBranches, wb_nil, wb_cons, WithinFunction, WithinFunctions, wf_nil, wf_cons, Within}
use Rattle.language.specs.Sizes.{field_types}
use Rattle.language.specs.Estimate.{Estimate}
use Rattle.language.specs.Heap.{Cell, Tree, tree_at}
use Rattle.language.specs.Values.{fits}
use Rattle.language.specs.Evaluator.{value, refused, Channels, eval, run}
use Rattle.language.specs.PlainMachine.{Derives}
use Rattle.language.specs.Typing.{Place, channels_at, Typing, t_bool, t_int, t_var, t_node, t_atlast, t_let, t_if, t_op, t_call, t_ctor, t_case, t_adj, t_fit, Typings, ts_nil, ts_cons, Branches, t_none, t_skip, t_branch, AtSplits, s_none, s_cons}
use Rattle.theory.specs.Lists.{none-is-not-some}
use Rattle.theory.specs.RulesGive.{runs-not-refused}
use Rattle.theory.specs.OneTree.{one-tree}
use Rattle.theory.specs.HeapValues.{Scoped}
use Rattle.theory.specs.ValuesFit.{value-fits}
use Rattle.theory.specs.ScopeTrees.{channel_trees, scope_trees}
use Rattle.theory.specs.Simulated.{Enough, either_left, either-right, Ends, Simulated, simulated-eval, Simulates, SimulatesAll, SimulatesBranches, simulates-more}
use Rattle.theory.specs.SimulatesRules.{bool-simulates, int-simulates, var-simulates, node-simulates, atlast-simulates, let-simulates, if-simulates, op-simulates, call-simulates, adj-simulates, fit-simulates, nil-simulates, cons-simulates}
use Rattle.theory.specs.SimulatesCase.{ctor-simulates, case-simulates, none-simulate, skip-simulates, branch-simulates}

-- ---- the body of a function is within the limits
pub record BodyWithin (types : List TypeDef) (F : Function) : Type 0 where
  pub earlier : List Function
  pub is : WithinExpr nesting_most (body_scope types earlier F.parameters) F.body

pub body-within : {types : List TypeDef} {earlier Fs : List Function} → WithinFunctions types earlier Fs → (f : ℕ) {F : Function} → look Fs f ≡ some F → BodyWithin types F
body-within wf_nil f e = none-is-not-some e
body-within {types} {earlier} (wf_cons {F = G} w ws) zero {F} e = let same : G ≡ F = cc in rw same at (first w)
  where
    first : WithinFunction types earlier G → BodyWithin types G
    first w = record { earlier = earlier; is = w.body }
body-within (wf_cons w ws) (suc f) e = body-within ws f e

module _ {P : File} (within : Within P) (cap : ℕ) where
  -- the limits bound the Int constants of the expression and of every body
  mutual
    unfolding channels_at

    pub simulate : {r : ℕ} {S : Scope} {p : Place} {Γ : List Ty} {Δ : List ℕ} {e : Expr} {τ : Ty} {x : Estimate} → Typing P p Γ Δ e τ x → WithinExpr r S e → Simulates P cap (channels_at p) Γ e τ x
    simulate (t_bool q) (w_bool room) = bool-simulates q
    simulate (t_int q) (w_int room less) = int-simulates less q
    simulate (t_var {v} e q) (w_var room less) = var-simulates v e q
    simulate (t_node {c} e q) (w_now room less) = node-simulates c e q
    simulate (t_atlast {c} e q) (w_last room less) = atlast-simulates c e q
    simulate (t_let a b q) (w_let room v w) = let-simulates (simulate a v) (simulate b w) q
    simulate (t_if a b d q) (w_if room u v w) = if-simulates (simulate a u) (simulate b v) (simulate d w) q
    simulate (t_op {o} operand a b result q) (w_op room v w) = op-simulates o operand (simulate a v) (simulate b w) result q
    simulate (t_call {g} {ks} es e i types k l m b q) (w_call room less ws) = call-simulates g ks (simulate-all es ws) e types (simulate b (body-within within.functions g e).is) q
    simulate (t_ctor {t} {i} {ks} es e y small types k q) (w_con room less few ws) = ctor-simulates t i ks (simulate-all es ws) e small types k q
    simulate (t_case a e bs q) (w_case room less w result ws) = case-simulates (simulate a w) (simulate-branches bs ws) q
    simulate (t_adj e a le) (w_adj room size w) = adj-simulates (simulate a w) le
    simulate (t_fit a b d q) (w_fit room bound u v w) = fit-simulates (simulate a u) (simulate b v) (simulate d w) q

    pub simulate-all : {r n : ℕ} {S : Scope} {p : Place} {Γ : List Ty} {Δ : List ℕ} {es : Exprs} {τs : List Ty} {x : Estimate} → Typings P p Γ Δ es τs x → WithinExprs r S n es → SimulatesAll P cap (channels_at p) Γ es τs x
    simulate-all (ts_nil q) ws_nil = nil-simulates q
    simulate-all (ts_cons e es q) (ws_cons w ws) = cons-simulates (simulate e w) (simulate-all es ws) q

    simulate-branches : {r : ℕ} {S : Scope} {p : Place} {Γ : List Ty} {Δ : List ℕ} {t k : ℕ} {cs ds : List Constructor} {bs : Exprs} {τ : Ty} {x : Estimate} → Branches P p Γ Δ t k cs bs τ x → WithinBranches r S ds bs →
        SimulatesBranches P cap (channels_at p) Γ t k cs bs τ x
    simulate-branches (t_none q) wb_nil = none-simulate
    simulate-branches (t_skip le bs) (wb_cons w ws) = skip-simulates le (simulate-branches bs ws)
    simulate-branches (t_branch less b bs q) (wb_cons w ws) = branch-simulates (λ js i. simulate-splits b w js i) (simulate-branches bs ws) q

    simulate-splits : {r : ℕ} {S : Scope} {p : Place} {Γ : List Ty} {Δ : List ℕ} {t : ℕ} {fs : Constructor} {kss : List (List ℕ)} {b : Expr} {τ : Ty} {x : Estimate} → AtSplits P p Γ Δ t fs kss b τ x → WithinExpr r S b →
        (js : List ℕ) → Memᴰ js kss → Simulates P cap (channels_at p) (Γ ++ field_types t fs js) b τ x
    simulate-splits (s_cons {m} {n} b bs q) w js (Memᴰ.head e) = rw e (simulates-more (either_left m n q) (simulate b w))
    simulate-splits (s_cons {m} {n} b bs q) w js (Memᴰ.tail i) = simulates-more (either-right m n q) (simulate-splits bs w js i)
    simulate-splits {r = r} {S = S} (s_none {p = p} {Γ = Γ} {Δ = Δ} {t = t} {fs = fs} {b = b} {τ = τ} _) w js x42 = elim x42 [ ]

-- ---- theorem 4.4: with at least its three numbers free, an expression has a value of its type, and none of 20 to 23 is met
module _ {P : File} (within : Within P) (cap : ℕ) {r : ℕ} {S : Scope} {p : Place} {Γ : List Ty} {Δ : List ℕ} {e : Expr} {τ : Ty} {x : Estimate} (typed : Typing P p Γ Δ e τ x) (limited : WithinExpr r S e)
    {N : Channels} {u s : ℕ} {E : List ℕ} {h : List Cell} (scoped : Scoped P N (channels_at p) h E Γ) (enough : Enough x u s cap h) where
  pub estimate-sound : Ends (Simulated P cap N u s E h e τ x.heap)
  estimate-sound = (simulate within cap typed limited).ends N u s E h scoped enough

  pub evaluates : eval P (run P cap u) cap N e E s h ≡ value estimate-sound.result estimate-sound.heap
  evaluates = simulated-eval estimate-sound.is

  pub never-refused : {n : ℕ} → eval P (run P cap u) cap N e E s h ≡ refused n → ⊥
  never-refused q = runs-not-refused estimate-sound.is.runs q

  pub value-fits-type : fits P (tree_at estimate-sound.heap estimate-sound.result) τ ≡ true
  value-fits-type = value-fits estimate-sound.is.has

  -- the value's tree is the one that the plain machine derives
  pub only-tree : {v : Tree} → Derives P (channel_trees h N) (scope_trees h E) e v → v ≡ tree_at estimate-sound.heap estimate-sound.result
  only-tree d = one-tree d estimate-sound.is.derives
