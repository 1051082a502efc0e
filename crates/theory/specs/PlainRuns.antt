-- The plain machine is no laxer than figure 4: whatever it derives on the trees of a sound heap, the rules derive on that heap, given
-- enough memory, and the location's tree is the one derived. No type is asked for.
use Rattle.std.specs.Prelude.{ℕ, zero, suc, ◌+◌, ◌-◌, ◌≤◌, ◌<◌, List, [], ◌∷◌, ◌++◌, Bool, true, false, ◌≡◌, length}
use Rattle.std.proofs.Math.Option.{some}
use Rattle.std.proofs.Math.Path.{refl}
use Rattle.std.proofs.Common.{sym, ap, ◌∙◌, subst, arith, length-append}
use Rattle.std.proofs.Math.ListN.{get_elem? as look}
use Rattle.language.specs.Limits.{size_most}
use Rattle.language.specs.Syntax.{Constructor, Size, ResultType, Op, Expr, ebool, eint, evar, enow, elast, elet, eif, eop, ecall, econ, ecase, eadj, efit, Exprs, enil, econs, look_expr, Function, File, constructors_of}
use Rattle.language.specs.PlainTypes.{operand_type}
use Rattle.language.specs.Within.{All, all_nil, all_cons}
use Rattle.language.specs.Sizes.{sum}
use Rattle.language.specs.Heap.{Constant, kbool, kint, Cell, leaf, con, Tree, vleaf, vcon, Trees, vnil, vcons, constant_type, truth, apply_op, decides, trees_at, tree_of, trees, tree_at}
use Rattle.language.specs.Values.{append_trees, look_tree, tree_count, tree_size}
use Rattle.language.specs.Evaluator.{Channels, no_channels}
use Rattle.language.specs.Rules.{New, Runs, RunsAll, e_bool, e_int, e_var, e_node, e_atlast, e_let, e_if_then, e_if_else, e_op, e_op_decided, e_call, e_ctor, e_case, e_adj, e_fit_success, e_fit_fail, es_nil, es_cons}
use Rattle.language.specs.PlainMachine.{TreeChannels, TreeSizes, Derives, p_bool, p_int, p_var, p_node, p_atlast, p_let, p_if_then, p_if_else, p_op, p_op_decided, p_call, p_ctor, p_case, p_adj, p_fit_success, p_fit_fail, DerivesAll, ps_nil, ps_cons}
use Rattle.theory.specs.Lists.{none-is-not-some, look-get_d}
use Rattle.theory.specs.Alls.{all_map, all-at}
use Rattle.theory.specs.Places.{look-mapped}
use Rattle.theory.specs.Heaps.{Grown, grown-refl, grown-one, grown-trans, grown-length}
use Rattle.theory.specs.HeapTrees.{tree-new}
use Rattle.theory.specs.ScopeTrees.{scope_trees, tree-grown, scope-trees-count}
use Rattle.theory.specs.SoundScopes.{Stands, stands-grown, stands-bound, stands-body}
use Rattle.theory.specs.SoundHeaps.{SoundCell, Sound, ConAt, sound-leaf, sound-con, leaf-at, con-at, own-sum, sizes-read}

-- ---- what the rules derive, with so many slots and calls, and cells for the heap that there is at the end
pub record Runnable (P : File) (N : Channels) (E : List ℕ) (h : List Cell) (e : Expr) (v : Tree) : Type 0 where
  pub location : ℕ
  pub heap : List Cell
  pub slots : ℕ
  pub calls : ℕ
  pub grown : Grown h heap
  pub sound : Sound P heap
  pub low : location < length heap
  pub tree : tree_at heap location ≡ v
  pub runs : (cap u s : ℕ) → length heap ≤ cap → slots ≤ s → calls ≤ u → Runs P cap N u s E h e location heap

pub record RunnableAll (P : File) (N : Channels) (E : List ℕ) (h : List Cell) (es : Exprs) (vs : Trees) : Type 0 where
  pub locations : List ℕ
  pub heap : List Cell
  pub slots : ℕ
  pub calls : ℕ
  pub grown : Grown h heap
  pub sound : Sound P heap
  pub low : All (λ l. l < length heap) locations
  pub trees : scope_trees heap locations ≡ vs
  pub runs : (cap u s : ℕ) → length heap ≤ cap → slots ≤ s → calls ≤ u → RunsAll P cap N u s E h es locations heap

-- ---- a new cell, and a location in scope
module _ {P : File} {N : Channels} {E : List ℕ} {h i : List Cell} {e : Expr} where
  new-runs : {v : Tree} (c : Cell) (slots calls : ℕ) → Grown h i → Sound P (i ++ (c ∷ [])) → tree_of (trees i) c ≡ v →
      ((cap u s : ℕ) → length i < cap → slots ≤ s → calls ≤ u → New cap i c (length i) (i ++ (c ∷ [])) → Runs P cap N u s E h e (length i) (i ++ (c ∷ []))) → Runnable P N E h e v
  new-runs c slots calls w sound is rule =
      let longer = length-append i (c ∷ []) in
      record {
        location = length i;
        heap = i ++ (c ∷ []);
        slots = slots;
        calls = calls;
        grown = grown-trans w (grown-one i c);
        sound = sound;
        low = omega (arith, longer);
        tree = tree-new i c ∙ is;
        runs = λ cap u s room many deep. rule cap u s (omega (arith, longer)) many deep (record { free = omega (arith, longer); at = refl; is = refl });
      }

held-runs : {P : File} {N : Channels} {E : List ℕ} {h : List Cell} {e : Expr} {v : Tree} → Sound P h → (l : ℕ) → l < length h → tree_at h l ≡ v → ((cap u s : ℕ) → Runs P cap N u s E h e l h) → Runnable P N E h e v
held-runs {h} sound l less is rule = record { location = l; heap = h; slots = 0; calls = 0; grown = grown-refl h; sound = sound; low = less; tree = is; runs = λ cap u s room many deep. rule cap u s }

-- a variable's location
record Located (h : List Cell) (E : List ℕ) (v : ℕ) (w : Tree) : Type 0 where
  location : ℕ
  at : look E v ≡ some location
  is : tree_at h location ≡ w

located : (h : List Cell) (E : List ℕ) (v : ℕ) {w : Tree} → look_tree (scope_trees h E) v ≡ some w → Located h E v w
unfolding trees_at look_tree
located h [] v e = none-is-not-some e
located h (l ∷ E) zero e = record { location = l; at = refl; is = cc }
located h (l ∷ E) (suc v) e = let r = located h E v e in record { location = r.location; at = r.at; is = r.is }

-- ---- a lemma a rule
module _ {P : File} {N : Channels} {E : List ℕ} {h : List Cell} {M : TreeChannels} {D : Trees} (S : Stands P N E h M D) where
  var-runs : (i : ℕ) {v : Tree} → look_tree D i ≡ some v → Runnable P N E h (evar i) v
  var-runs i e = let x = located h E i (ap (λ ts. look_tree ts i) S.scope ∙ e) in held-runs S.sound x.location (all-at S.variables i x.at) x.is (λ cap u s. e_var x.at)

  node-runs : (c : ℕ) {v : Tree} → look M.now c ≡ some v → Runnable P N E h (enow c) v
  node-runs c e =
      let x = look-mapped (tree_at h) N.now c (ap (λ (ts : TreeChannels). look ts.now c) S.channels ∙ e) in
      held-runs S.sound x.of (all-at S.now c x.at) (sym x.is) (λ cap u s. e_node x.at)

  atlast-runs : (c : ℕ) {v : Tree} → look M.last c ≡ some v → Runnable P N E h (elast c) v
  atlast-runs c e =
      let x = look-mapped (tree_at h) N.last c (ap (λ (ts : TreeChannels). look ts.last c) S.channels ∙ e) in
      held-runs S.sound x.of (all-at S.last c x.at) (sym x.is) (λ cap u s. e_atlast x.at)

  bool-runs : (b : Bool) → Runnable P N E h (ebool b) (vleaf (kbool b))
  unfolding tree_of
  bool-runs b = new-runs (leaf (kbool b)) 0 0 (grown-refl h) (sound-leaf S.sound (kbool b)) refl (λ cap u s room many deep w. e_bool w)

  int-runs : (n : ℕ) → Runnable P N E h (eint n) (vleaf (kint n))
  unfolding tree_of
  int-runs n = new-runs (leaf (kint n)) 0 0 (grown-refl h) (sound-leaf S.sound (kint n)) refl (λ cap u s room many deep w. e_int w)

  -- the scope after a part, and with its value bound
  stands_after : {a : Expr} {w : Tree} (x : Runnable P N E h a w) → Stands P N E x.heap M D
  stands_after x = stands-grown S x.grown x.sound

  stands-with : {a : Expr} {w : Tree} (x : Runnable P N E h a w) → Stands P N (E ++ (x.location ∷ [])) x.heap M (append_trees D (vcons w vnil))
  unfolding trees_at
  stands-with x = stands-bound (stands_after x) (x.location ∷ []) (all_cons x.low all_nil) (ap (λ t. vcons t vnil) x.tree)

-- the part that runs last gives the whole's value
last_runs : {P : File} {N L : Channels} {E F : List ℕ} {h i : List Cell} {e b : Expr} {v : Tree} (slots calls : ℕ) → Grown h i → (y : Runnable P L F i b v) →
    ((cap u s : ℕ) → length i ≤ cap → length y.heap ≤ cap → slots ≤ s → calls ≤ u → Runs P cap N u s E h e y.location y.heap) → Runnable P N E h e v
last_runs slots calls w y rule = record {
  location = y.location;
  heap = y.heap;
  slots = slots;
  calls = calls;
  grown = grown-trans w y.grown;
  sound = y.sound;
  low = y.low;
  tree = y.tree;
  runs = λ cap u s room many deep. rule cap u s (omega (arith, grown-length y.grown)) room many deep;
}

module _ {P : File} {N : Channels} {E : List ℕ} {h : List Cell} {v : Tree} where
  let_runs : {a b : Expr} {w : Tree} (x : Runnable P N E h a w) → Runnable P N (E ++ (x.location ∷ [])) x.heap b v → Runnable P N E h (elet a b) v
  let_runs x y = last_runs (x.slots + (1 + y.slots)) (x.calls + y.calls) x.grown y (λ cap u s first room many deep.
      e_let (x.runs cap u s first (omega arith) (omega arith)) (omega arith) (y.runs cap u (s - 1) room (omega arith) (omega arith)))

  then_runs : {a b d : Expr} (x : Runnable P N E h a (vleaf (kbool true))) → Runnable P N E x.heap b v → Runnable P N E h (eif a b d) v
  then_runs x y = last_runs (x.slots + y.slots) (x.calls + y.calls) x.grown y (λ cap u s first room many deep.
      e_if_then (x.runs cap u s first (omega arith) (omega arith)) (leaf-at x.sound x.location x.low x.tree) (y.runs cap u s room (omega arith) (omega arith)))

  else-runs : {a b d : Expr} (x : Runnable P N E h a (vleaf (kbool false))) → Runnable P N E x.heap d v → Runnable P N E h (eif a b d) v
  else-runs x y = last_runs (x.slots + y.slots) (x.calls + y.calls) x.grown y (λ cap u s first room many deep.
      e_if_else (x.runs cap u s first (omega arith) (omega arith)) (leaf-at x.sound x.location x.low x.tree) (y.runs cap u s room (omega arith) (omega arith)))

  adj-runs : {z : Size} {e : Expr} → Runnable P N E h e v → Runnable P N E h (eadj z e) v
  adj-runs x = record { location = x.location; heap = x.heap; slots = x.slots; calls = x.calls; grown = x.grown; sound = x.sound; low = x.low; tree = x.tree; runs = λ cap u s room many deep. e_adj (x.runs cap u s room many deep) }

  fit-runs : {k t c : ℕ} {ws : Trees} {a b d : Expr} (x : Runnable P N E h a (vcon t c ws)) → tree_size P (vcon t c ws) ≤ k → Runnable P N (E ++ (x.location ∷ [])) x.heap b v → Runnable P N E h (efit k a b d) v
  fit-runs {k} x le y =
      let at = con-at x.sound x.location x.low x.tree in
      last_runs (x.slots + (1 + y.slots)) (x.calls + y.calls) x.grown y (λ cap u s first room many deep.
      e_fit_success (x.runs cap u s first (omega arith) (omega arith)) at.cell (subst (λ n. n ≤ k) at.true_size le) (omega arith) (y.runs cap u (s - 1) room (omega arith) (omega arith)))

  no-fit-runs : {k t c : ℕ} {ws : Trees} {a b d : Expr} (x : Runnable P N E h a (vcon t c ws)) → k < tree_size P (vcon t c ws) → Runnable P N E x.heap d v → Runnable P N E h (efit k a b d) v
  no-fit-runs {k} x less y =
      let at = con-at x.sound x.location x.low x.tree in
      last_runs (x.slots + y.slots) (x.calls + y.calls) x.grown y (λ cap u s first room many deep.
      e_fit_fail (x.runs cap u s first (omega arith) (omega arith)) at.cell (subst (λ n. k < n) at.true_size less) (y.runs cap u s room (omega arith) (omega arith)))

  call-runs : {f : ℕ} {F : Function} {es : Exprs} {vs : Trees} → look P.functions f ≡ some F → (x : RunnableAll P N E h es vs) → tree_count vs ≡ length F.parameters →
      Runnable P no_channels x.locations x.heap F.body v → Runnable P N E h (ecall f es) v
  call-runs {F} e x many-arguments y =
      let n = length F.parameters in
      let as_many : length x.locations ≡ n = sym (scope-trees-count x.heap x.locations) ∙ ap tree_count x.trees ∙ many-arguments in
      last_runs (n + (x.slots + y.slots)) (1 + (x.calls + y.calls)) x.grown y (λ cap u s first room many deep.
      e_call e (omega arith) (x.runs cap u (s - n) first (omega arith) (omega arith)) as_many (omega arith) (y.runs cap (u - 1) (s - n) room (omega arith) (omega arith)))

ctor-runs : {P : File} {N : Channels} {E : List ℕ} {h : List Cell} {t c : ℕ} {fs : Constructor} {ks : List ℕ} {es : Exprs} {vs : Trees} → (x : RunnableAll P N E h es vs) → look (constructors_of P t) c ≡ some fs → TreeSizes P fs vs ks → sum ks < size_most →
    Runnable P N E h (econ t c es) (vcon t c vs)
unfolding tree_of tree_size
ctor-runs {P} {t} {c} {fs} {ks} {vs} x e sizes small =
    let i = x.heap in
    let ls = x.locations in
    let size : tree_size P (vcon t c vs) ≡ 1 + sum ks = rw (look-get_d (constructors_of P t) c [] e) (omega (arith, own-sum sizes)) in
    let cell : SoundCell P i (length i) t c (1 + sum ks) ls = record { low = x.low; size = ap (λ ws. tree_size P (vcon t c ws)) x.trees ∙ size } in
    new-runs (con t c (1 + sum ks) ls) x.slots x.calls x.grown (sound-con x.sound t c (1 + sum ks) ls cell) (ap (vcon t c) x.trees) (λ cap u s room many deep w.
    e_ctor (x.runs cap u s (omega arith) many deep) e (sizes-read x.sound ls x.low x.trees sizes) small w)

op_runs : {P : File} {N : Channels} {E : List ℕ} {h : List Cell} {o : Op} {a b : Expr} {l r z : Constant} (x : Runnable P N E h a (vleaf l)) → decides o (truth l) ≡ false → (y : Runnable P N E x.heap b (vleaf r)) → constant_type l ≡ operand_type o → constant_type r ≡ operand_type o → z ≡ apply_op o l r → Runnable P N E h (eop o a b) (vleaf z)
unfolding tree_of
op_runs {o} {l} {r} x more y left right is =
    let j = x.location in
    let i = y.heap in
    let below : j < length i = omega (arith, x.low, grown-length y.grown) in
    let left-cell = leaf-at x.sound j x.low x.tree in
    let first_Cell = leaf-at y.sound j below (tree-grown y.grown j x.low ∙ x.tree) in
    let second-cell = leaf-at y.sound y.location y.low y.tree in
    new-runs (leaf (apply_op o l r)) (x.slots + y.slots) (x.calls + y.calls) (grown-trans x.grown y.grown) (sound-leaf y.sound (apply_op o l r)) (ap vleaf (sym is)) (λ cap u s room many deep w.
    e_op (x.runs cap u s (omega (arith, grown-length y.grown)) (omega arith) (omega arith)) left-cell more (y.runs cap u s (omega arith) (omega arith) (omega arith)) first_Cell second-cell left right w)

decided-runs : {P : File} {N : Channels} {E : List ℕ} {h : List Cell} {o : Op} {a b : Expr} {v : Bool} → Runnable P N E h a (vleaf (kbool v)) → decides o v ≡ true → Runnable P N E h (eop o a b) (vleaf (kbool v))
unfolding tree_of
decided-runs {v} x d = new-runs (leaf (kbool v)) x.slots x.calls x.grown (sound-leaf x.sound (kbool v)) refl (λ cap u s room many deep w.
    e_op_decided (x.runs cap u s (omega arith) many deep) (leaf-at x.sound x.location x.low x.tree) d w)

-- the constructor at the subject's location
subject-at : {P : File} {N : Channels} {E : List ℕ} {h : List Cell} {e : Expr} {t c : ℕ} {vs : Trees} → (x : Runnable P N E h e (vcon t c vs)) → ConAt P x.heap x.location t c vs
subject-at x = con-at x.sound x.location x.low x.tree

stands-fields : {P : File} {N : Channels} {E : List ℕ} {h : List Cell} {M : TreeChannels} {D : Trees} {e : Expr} {t c : ℕ} {vs : Trees} → Stands P N E h M D → (x : Runnable P N E h e (vcon t c vs)) →
    Stands P N (E ++ (subject-at x).fields) x.heap M (append_trees D vs)
stands-fields S x = let at = subject-at x in stands-bound (stands_after S x) at.fields (all_map (λ l less. omega (arith, x.low)) at.low) at.trees

case-runs : {P : File} {N : Channels} {E : List ℕ} {h : List Cell} {v : Tree} {t c : ℕ} {fs : Constructor} {vs : Trees} {e b : Expr} {y : ResultType} {bs : Exprs} → (x : Runnable P N E h e (vcon t c vs)) → look (constructors_of P t) c ≡ some fs →
    tree_count vs ≡ length fs → look_expr bs c ≡ some b → Runnable P N (E ++ (subject-at x).fields) x.heap b v → Runnable P N E h (ecase t e y bs) v
case-runs {fs} x known as_many branch y =
    let at = subject-at x in
    let n = length fs in
    let fields : length at.fields ≡ n = sym (scope-trees-count x.heap at.fields) ∙ ap tree_count at.trees ∙ as_many in
    last_runs (x.slots + (n + y.slots)) (x.calls + y.calls) x.grown y (λ cap u s first room many deep.
    e_case (x.runs cap u s first (omega arith) (omega arith)) at.cell known fields branch (omega arith) (y.runs cap u (s - n) room (omega arith) (omega arith)))

-- ---- arguments and fields
none-run : {P : File} {N : Channels} {E : List ℕ} {h : List Cell} → Sound P h → RunnableAll P N E h enil vnil
unfolding trees_at
none-run {h} sound = record { locations = []; heap = h; slots = 0; calls = 0; grown = grown-refl h; sound = sound; low = all_nil; trees = refl; runs = λ cap u s room many deep. es_nil }

more-run : {P : File} {N : Channels} {E : List ℕ} {h : List Cell} {e : Expr} {es : Exprs} {v : Tree} {vs : Trees} → (x : Runnable P N E h e v) → RunnableAll P N E x.heap es vs → RunnableAll P N E h (econs e es) (vcons v vs)
unfolding trees_at
more-run x y = record {
  locations = x.location ∷ y.locations;
  heap = y.heap;
  slots = x.slots + y.slots;
  calls = x.calls + y.calls;
  grown = grown-trans x.grown y.grown;
  sound = y.sound;
  low = all_cons {a = x.location} (omega (arith, x.low, grown-length y.grown)) y.low;
  trees = rw (tree-grown y.grown x.location x.low, x.tree, y.trees);
  runs = λ cap u s room many deep. es_cons (x.runs cap u s (omega (arith, grown-length y.grown)) (omega arith) (omega arith)) (y.runs cap u s room (omega arith) (omega arith));
}

-- ---- every derivation
module _ {P : File} where
  mutual
    pub plain_runs : {N : Channels} {E : List ℕ} {h : List Cell} {M : TreeChannels} {D : Trees} {e : Expr} {v : Tree} → Derives P M D e v → Stands P N E h M D → Runnable P N E h e v
    plain_runs (p_bool {b}) S = bool-runs S b
    plain_runs (p_int {n}) S = int-runs S n
    plain_runs (p_var {i} e) S = var-runs S i e
    plain_runs (p_node {c} e) S = node-runs S c e
    plain_runs (p_atlast {c} e) S = atlast-runs S c e
    plain_runs (p_let p q) S = let x = plain_runs p S in let_runs x (plain_runs q (stands-with S x))
    plain_runs (p_if_then p q) S = let x = plain_runs p S in then_runs x (plain_runs q (stands_after S x))
    plain_runs (p_if_else p q) S = let x = plain_runs p S in else-runs x (plain_runs q (stands_after S x))
    plain_runs (p_op p more q left right is) S = let x = plain_runs p S in op_runs x more (plain_runs q (stands_after S x)) left right is
    plain_runs (p_op_decided p d) S = decided-runs (plain_runs p S) d
    plain_runs (p_call e ps many q) S = let x = plain-run-all ps S in call-runs e x many (plain_runs q (stands-body x.sound x.low x.trees))
    plain_runs (p_ctor ps e sizes small) S = ctor-runs (plain-run-all ps S) e sizes small
    plain_runs (p_case p known many branch q) S = let x = plain_runs p S in case-runs x known many branch (plain_runs q (stands-fields S x))
    plain_runs (p_adj p) S = adj-runs (plain_runs p S)
    plain_runs (p_fit_success p le q) S = let x = plain_runs p S in fit-runs x le (plain_runs q (stands-with S x))
    plain_runs (p_fit_fail p less q) S = let x = plain_runs p S in no-fit-runs x less (plain_runs q (stands_after S x))

    plain-run-all : {N : Channels} {E : List ℕ} {h : List Cell} {M : TreeChannels} {D : Trees} {es : Exprs} {vs : Trees} → DerivesAll P M D es vs → Stands P N E h M D → RunnableAll P N E h es vs
    plain-run-all ps_nil S = none-run S.sound
    plain-run-all (ps_cons p ps) S = let x = plain_runs p S in more-run x (plain-run-all ps (stands_after S x))
