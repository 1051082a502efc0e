-- An expression's tree depends only on the channels that it reads: where those agree, the same is derived.
use Rattle.std.specs.Prelude.{ℕ, zero, suc, ◌+◌, ◌-◌, ◌<◌, List, [], ◌∷◌, Bool, true, false, ◌≡◌, refl, ltb}
use Rattle.std.proofs.Math.Option.{some}
use Rattle.std.proofs.Common.{sym, ◌∙◌, subst, arith, ltb-true, ltb-false}
use Rattle.std.proofs.Math.ListN.{get_elem? as look}
use Rattle.language.specs.Result.{choose}
use Rattle.language.specs.Syntax.{Expr, Exprs, enil, econs, look_expr, File}
use Rattle.language.specs.Within.{All, all_nil, all_cons}
use Rattle.language.specs.Heap.{Tree, Trees}
use Rattle.language.specs.PlainMachine.{TreeChannels, Derives, p_bool, p_int, p_var, p_node, p_atlast, p_let, p_if_then, p_if_else, p_op, p_op_decided, p_call, p_ctor, p_case, p_adj, p_fit_success, p_fit_fail, DerivesAll, ps_nil, ps_cons}
use Rattle.language.specs.Order.{readings, all_readings, nodes_among}
use Rattle.theory.specs.Lists.{none-is-not-some}
use Rattle.theory.specs.Alls.{all_left, all_right, all_first, all_rest}

branch-readings : {Q : ℕ → Type 0} (bs : Exprs) (c : ℕ) {b : Expr} → look_expr bs c ≡ some b → All Q (all_readings bs) → All Q (readings b)
unfolding look_expr all_readings
branch-readings enil c e all = none-is-not-some e
branch-readings {Q} (econs d bs) zero {b} e all = let same : d ≡ b = cc in subst (λ x. All Q (readings x)) same (all_left (readings d) (all_readings bs) all)
branch-readings (econs d bs) (suc c) e all = branch-readings bs c e (all_right (readings d) (all_readings bs) all)

-- the trees now agree at a channel
abbrev pub Same : TreeChannels → TreeChannels → ℕ → Type 0
Same N M c = look N.now c ≡ look M.now c

module _ {P : File} {M : TreeChannels} where
  mutual
    unfolding readings

    pub derives-same : {N : TreeChannels} {E : Trees} {e : Expr} {v : Tree} → N.last ≡ M.last → All (Same N M) (readings e) → Derives P N E e v → Derives P M E e v
    derives-same l s p_bool = p_bool
    derives-same l s p_int = p_int
    derives-same l s (p_var e) = p_var e
    derives-same l s (p_node e) = p_node (sym (all_first s) ∙ e)
    derives-same l s (p_atlast {c} {v} e) = p_atlast (subst (λ x. look x c ≡ some v) l e)
    derives-same l s (p_let {a} {b} p q) = p_let (derives-same l (all_left (readings a) (readings b) s) p) (derives-same l (all_right (readings a) (readings b) s) q)
    derives-same l s (p_if_then {a} {b} {d} p q) = p_if_then (derives-same l (all_left (readings a) _ s) p) (derives-same l (all_left (readings b) (readings d) (all_right (readings a) _ s)) q)
    derives-same l s (p_if_else {a} {b} {d} p q) = p_if_else (derives-same l (all_left (readings a) _ s) p) (derives-same l (all_right (readings b) (readings d) (all_right (readings a) _ s)) q)
    derives-same l s (p_op {a} {b} p more q x y z) = p_op (derives-same l (all_left (readings a) (readings b) s) p) more (derives-same l (all_right (readings a) (readings b) s) q) x y z
    derives-same l s (p_op_decided {a} {b} p d) = p_op_decided (derives-same l (all_left (readings a) (readings b) s) p) d
    derives-same l s (p_call e ps many q) = p_call e (derives-all-same l s ps) many q
    derives-same l s (p_ctor ps e x y) = p_ctor (derives-all-same l s ps) e x y
    derives-same l s (p_case {c} {e} {bs} p known many f q) = p_case (derives-same l (all_left (readings e) (all_readings bs) s) p) known many f (derives-same l (branch-readings bs c f (all_right (readings e) (all_readings bs) s)) q)
    derives-same l s (p_adj p) = p_adj (derives-same l s p)
    derives-same l s (p_fit_success {a} {b} {d} p le q) = p_fit_success (derives-same l (all_left (readings a) _ s) p) le (derives-same l (all_left (readings b) (readings d) (all_right (readings a) _ s)) q)
    derives-same l s (p_fit_fail {a} {b} {d} p less q) = p_fit_fail (derives-same l (all_left (readings a) _ s) p) less (derives-same l (all_right (readings b) (readings d) (all_right (readings a) _ s)) q)

    pub derives-all-same : {N : TreeChannels} {E : Trees} {es : Exprs} {vs : Trees} → N.last ≡ M.last → All (Same N M) (all_readings es) → DerivesAll P N E es vs → DerivesAll P M E es vs
    derives-all-same l s ps_nil = ps_nil
    derives-all-same l s (ps_cons {e} {es} p ps) = ps_cons (derives-same l (all_left (readings e) (all_readings es) s) p) (derives-all-same l (all_right (readings e) (all_readings es) s) ps)

-- ---- the channels read are inputs and nodes
pub readings-are : {Q S : ℕ → Type 0} (inputs : ℕ) (cs : List ℕ) → ((c : ℕ) → c < inputs → Q c) → ((j : ℕ) → S j → Q (inputs + j)) → All S (nodes_among inputs cs) → All Q cs
unfolding nodes_among choose
readings-are inputs [] f g all = all_nil
readings-are {Q} {S} inputs (c ∷ cs) f g all = cases (ltb c inputs) refl (λ more. readings-are inputs cs f g more) all
  where
    cases : (b : Bool) → ltb c inputs ≡ b → (All S (nodes_among inputs cs) → All Q cs) → All S (choose b (nodes_among inputs cs) ((c - inputs) ∷ nodes_among inputs cs)) → All Q (c ∷ cs)
    cases true e more s = all_cons (f c (ltb-true c inputs e)) (more s)
    cases false e more s = let is : inputs + (c - inputs) ≡ c = omega (arith, ltb-false c inputs e) in all_cons (subst Q is (g (c - inputs) (all_first s))) (more (all_rest s))
