-- Initial values: whatever the plain machine derives for one is its initial tree, and in an accepted file it derives that tree, which fits
-- the channel's declared type.
use Rattle.std.specs.Prelude.{ℕ, true, ◌≡◌}
use mathlib.Core.List.{List, [], map}
use Rattle.std.proofs.Math.Path.{refl, subst}
use Rattle.std.proofs.Common.{ap}
use native.Mathlib.Omega.{arith}
use Rattle.language.specs.Limits.{nesting_most}
use Rattle.language.specs.Syntax.{Ty, Expr, Exprs, Input, Node, File, declared_types, initial_values}
use Rattle.language.specs.Scope.{Scope, outer_scope}
use Rattle.language.specs.Within.{All, all_nil, all_cons, WithinExpr, Within}
use Rattle.language.specs.PlainTypes.{is_initial, are_initial}
use Rattle.language.specs.Estimate.{Estimate}
use Rattle.language.specs.Typing.{outside, channels_at, Typing, Initials, c_none, c_init}
use Rattle.language.specs.Heap.{Tree, vcon, Trees, vnil, trees_at}
use Rattle.language.specs.Values.{fits}
use Rattle.language.specs.Line.{trees_fit}
use Rattle.language.specs.PlainMachine.{TreeChannels, no_trees, Derives, p_bool, p_int, p_var, p_node, p_atlast, p_let, p_if_then, p_if_else, p_op, p_op_decided, p_call, p_ctor, p_case, p_adj, p_fit_success, p_fit_fail, DerivesAll, ps_nil, ps_cons, initial_tree, initial_fields, initial_trees}
use Rattle.theory.specs.Lists.{false-is-not-true, both_left, both_right, both_true}
use Rattle.theory.specs.Alls.{all_append, all_map, all-to-map, all-each}
use Rattle.language.specs.PlainTyping.{WellPlain}
use Rattle.theory.specs.HeapValues.{env_nil, scoped-body}
use Rattle.theory.specs.Simulated.{Enough}
use Rattle.theory.specs.Simulates.{estimate-sound, value-fits-type}
use Rattle.theory.specs.AcceptedFiles.{AcceptedFile}

-- ---- what is derived for an initial value
module _ {P : File} where
  mutual
    unfolding is_initial initial_tree

    pub initial-tree : {N : TreeChannels} {E : Trees} {e : Expr} {v : Tree} → Derives P N E e v → is_initial e ≡ true → v ≡ initial_tree e
    initial-tree p_bool i = refl
    initial-tree p_int i = refl
    initial-tree (p_var e) i = false-is-not-true i
    initial-tree (p_node e) i = false-is-not-true i
    initial-tree (p_atlast e) i = false-is-not-true i
    initial-tree (p_let p q) i = false-is-not-true i
    initial-tree (p_if_then p q) i = false-is-not-true i
    initial-tree (p_if_else p q) i = false-is-not-true i
    initial-tree (p_op p z q a b e) i = false-is-not-true i
    initial-tree (p_op_decided p z) i = false-is-not-true i
    initial-tree (p_call e p many q) i = false-is-not-true i
    initial-tree (p_ctor {t} {c} p e sizes less) i = ap (vcon t c) (initial-fields p i)
    initial-tree (p_case p known many e q) i = false-is-not-true i
    initial-tree (p_adj p) i = initial-tree p i
    initial-tree (p_fit_success p le q) i = false-is-not-true i
    initial-tree (p_fit_fail p less q) i = false-is-not-true i

    initial-fields : {N : TreeChannels} {E : Trees} {es : Exprs} {vs : Trees} → DerivesAll P N E es vs → are_initial es ≡ true → vs ≡ initial_fields es
    initial-fields ps_nil i = refl
    initial-fields (ps_cons p ps) i = rw (initial-tree p (both_left _ _ i), initial-fields ps (both_right _ _ i))

-- ---- it fits: evaluated with just enough of everything, it has a value of its type
module _ {P : File} (within : Within P) where
  initial-fits : {n frame : ℕ} {S : Scope} {e : Expr} {τ : Ty} {x : Estimate} → Typing P (outside frame []) [] [] e τ x → WithinExpr n S e → is_initial e ≡ true → fits P (initial_tree e) τ ≡ true
  unfolding channels_at
  initial-fits {τ} {x} typed limited form =
      let scoped = scoped-body {P = P} {h = []} env_nil in
      let enough : Enough x x.stack x.env x.heap [] = omega arith in
      subst (λ v. fits P v τ ≡ true) (initial-tree (estimate-sound within x.heap typed limited {u = x.stack} {s = x.env} scoped enough).is.derives form)
      (value-fits-type within x.heap typed limited {u = x.stack} {s = x.env} scoped enough)

  initial-derives : {n frame : ℕ} {S : Scope} {e : Expr} {τ : Ty} {x : Estimate} → Typing P (outside frame []) [] [] e τ x → WithinExpr n S e → is_initial e ≡ true → Derives P no_trees vnil e (initial_tree e)
  unfolding channels_at trees_at
  initial-derives {e} {x} typed limited form =
      let enough : Enough x x.stack x.env x.heap [] = omega arith in
      let derives : Derives P no_trees vnil e _ = (estimate-sound within x.heap typed limited {u = x.stack} {s = x.env} (scoped-body {P = P} {h = []} env_nil) enough).is.derives in
      subst (Derives P no_trees vnil e) (initial-tree derives form) derives

  initials-derive : {c : ℕ} {S : Scope} {es : List Expr} {τs : List Ty} → Initials P c es τs → All (WithinExpr nesting_most S) es → All (λ e. is_initial e ≡ true) es → All (λ e. Derives P no_trees vnil e (initial_tree e)) es
  initials-derive c_none all_nil all_nil = all_nil
  initials-derive (c_init typed rest) (all_cons w ws) (all_cons i is) = all_cons (initial-derives typed w i) (initials-derive rest ws is)

  initials-fit : {c : ℕ} {S : Scope} {es : List Expr} {τs : List Ty} → Initials P c es τs → All (WithinExpr nesting_most S) es → All (λ e. is_initial e ≡ true) es → trees_fit P (map initial_tree es) τs ≡ true
  unfolding trees_fit
  initials-fit c_none all_nil all_nil = refl
  initials-fit (c_init typed rest) (all_cons w ws) (all_cons i is) = both_true (initial-fits typed w i) (initials-fit rest ws is)

-- ---- the initial values of a file
abbrev pub initial_scope : File → Scope
initial_scope P = outer_scope P.types P.functions 0

pub initials-within : {P : File} → Within P → All (WithinExpr nesting_most (initial_scope P)) (initial_values P)
initials-within within = all_append (all-to-map (λ (i : Input). i.initial) (all_map (λ i w. w.initial) within.inputs)) (all-to-map (λ (n : Node). n.initial) (all_map (λ n w. w.initial) within.nodes))

pub initials-formed : {P : File} → WellPlain P → All (λ e. is_initial e ≡ true) (initial_values P)
initials-formed {P} plain = all_append
    (all-to-map (λ (i : Input). i.initial) (all-each P.inputs (λ i I at. (plain.inputs i I at).form)))
    (all-to-map (λ (n : Node). n.initial) (all-each P.nodes (λ n M at. (plain.nodes n M at).initial.form)))

pub initial-trees-fit : {t : List ℕ} {P : File} {x : Estimate} → AcceptedFile t P x → trees_fit P (initial_trees P) (declared_types P) ≡ true
initial-trees-fit a = initials-fit a.within a.derived.initials (initials-within a.within) (initials-formed a.plain)

pub initial-trees-derived : {t : List ℕ} {P : File} {x : Estimate} → AcceptedFile t P x → All (λ e. Derives P no_trees vnil e (initial_tree e)) (initial_values P)
initial-trees-derived a = initials-derive a.within a.derived.initials (initials-within a.within) (initials-formed a.plain)
