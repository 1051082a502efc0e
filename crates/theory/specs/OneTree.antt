-- The plain machine derives only one tree for an expression, and only one next state for a line.
use Rattle.std.specs.Prelude.{ℕ, List, ◌++◌, Bool, true, false, ◌≡◌, refl, length, drop, set}
use Rattle.std.proofs.Common.{sym, ap, ◌∙◌, subst, arith}
use Rattle.language.specs.Syntax.{Op, Expr, Exprs, File, node_channel}
use Rattle.language.specs.Heap.{Constant, kbool, truth, decides, Tree, vleaf, vcon, Trees, vnil, vcons}
use Rattle.language.specs.Values.{append_trees, tree_size}
use Rattle.language.specs.Order.{order}
use Rattle.language.specs.PlainMachine.{TreeChannels, Derives, p_bool, p_int, p_var, p_node, p_atlast, p_let, p_if_then, p_if_else, p_op, p_op_decided, p_call, p_ctor, p_case, p_adj, p_fit_success, p_fit_fail, DerivesAll, ps_nil, ps_cons, Nodes, no_nodes, next_node, Step, allowed, not_allowed}
use Rattle.theory.specs.Lists.{none-is-not-some, false-is-not-true}

-- in an equal scope, of an equal expression
derives-in : {P : File} {N : TreeChannels} {D E : Trees} {d e : Expr} {v : Tree} → D ≡ E → d ≡ e → Derives P N D d v → Derives P N E e v
derives-in {P} {N} {E} {d} {v} p q r = subst (λ x. Derives P N E x v) q (subst (λ x. Derives P N x d v) p r)

true-is-not-false : vleaf (kbool true) ≡ vleaf (kbool false) → ⊥
true-is-not-false e = let z : ◌≡◌ {A = ℕ} 0 1 = cc in omega arith

-- a left side does not decide and leave open
decided-not : {A : Type 0} (o : Op) {x : Constant} {v : Bool} → vleaf x ≡ vleaf (kbool v) → decides o (truth x) ≡ false → decides o v ≡ true → A
unfolding truth
decided-not o {x} {v} e more d = let same : x ≡ kbool v = cc in false-is-not-true (sym (rw same at more) ∙ d)

module _ {P : File} where
  mutual
    pub one-tree : {N : TreeChannels} {E : Trees} {e : Expr} {v w : Tree} → Derives P N E e v → Derives P N E e w → v ≡ w
    one-tree p_bool p_bool = refl
    one-tree p_int p_int = refl
    one-tree (p_var e) (p_var f) = cc
    one-tree (p_node e) (p_node f) = cc
    one-tree (p_atlast e) (p_atlast f) = cc
    one-tree (p_let {E} p q) (p_let r s) = one-tree q (derives-in (ap (λ x. append_trees E (vcons x vnil)) (sym (one-tree p r))) refl s)
    one-tree (p_if_then p q) (p_if_then r s) = one-tree q s
    one-tree (p_if_then p q) (p_if_else r s) = absurd (true-is-not-false (one-tree p r))
    one-tree (p_if_else p q) (p_if_then r s) = absurd (true-is-not-false (sym (one-tree p r)))
    one-tree (p_if_else p q) (p_if_else r s) = one-tree q s
    one-tree (p_op p i q a b e) (p_op r j s c d f) = let x = one-tree p r in let y = one-tree q s in cc
    one-tree (p_op {o} p i q a b e) (p_op_decided r j) = decided-not o (one-tree p r) i j
    one-tree (p_op_decided {o} p i) (p_op r j s c d f) = decided-not o (sym (one-tree p r)) j i
    one-tree (p_op_decided p i) (p_op_decided r j) = one-tree p r
    one-tree (p_call {F} e p m q) (p_call {F = G} f r n s) = let same : G ≡ F = cc in one-tree q (derives-in (sym (one-trees p r)) (ap (λ x. x.body) same) s)
    one-tree (p_ctor {t} {c} p e z l) (p_ctor r f y m) = ap (vcon t c) (one-trees p r)
    one-tree (p_case {E} {vs} {b} p k m e q) (p_case {vs = ws} {b = d} r l n f s) =
        let subject = one-tree p r in
        let fields : ws ≡ vs = cc in
        let branch : d ≡ b = cc in
        one-tree q (derives-in (ap (append_trees E) fields) branch s)
    one-tree (p_adj p) (p_adj r) = one-tree p r
    one-tree (p_fit_success {E} p l q) (p_fit_success r m s) = one-tree q (derives-in (ap (λ x. append_trees E (vcons x vnil)) (sym (one-tree p r))) refl s)
    one-tree (p_fit_success p l q) (p_fit_fail r m s) = absurd (omega (arith, ap (tree_size P) (one-tree p r)))
    one-tree (p_fit_fail p l q) (p_fit_success r m s) = absurd (omega (arith, ap (tree_size P) (one-tree p r)))
    one-tree (p_fit_fail p l q) (p_fit_fail r m s) = one-tree q s

    pub one-trees : {N : TreeChannels} {E : Trees} {es : Exprs} {vs ws : Trees} → DerivesAll P N E es vs → DerivesAll P N E es ws → vs ≡ ws
    one-trees ps_nil ps_nil = refl
    one-trees (ps_cons p ps) (ps_cons q qs) = rw (one-tree p q, one-trees ps qs)

  pub one-result : {last : List Tree} {is : List ℕ} {now vs ws : List Tree} → Nodes P last is now vs → Nodes P last is now ws → vs ≡ ws
  one-result no_nodes no_nodes = refl
  one-result {last} {ws} (next_node {i} {is} {now} d l r) (next_node e m q) =
      one-result r (subst (λ x. Nodes P last is (set now (node_channel P i) x) ws) (one-tree e d) q)

  pub one-step : {before : List Tree} {line : List ℕ} {vs ws : List Tree} → Step P before line vs → Step P before line ws → vs ≡ ws
  one-step {before} {ws} (allowed {vs} e r) (allowed {vs = us} f q) =
      let same : us ≡ vs = cc in
      one-result r (subst (λ x. Nodes P before (order P) (x ++ drop (length P.inputs) before) ws) same q)
  one-step (allowed e r) (not_allowed f) = none-is-not-some (sym f ∙ e)
  one-step (not_allowed e) (allowed f q) = none-is-not-some (sym e ∙ f)
  one-step (not_allowed e) (not_allowed f) = refl
