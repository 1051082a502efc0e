-- Figure 4 and the plain machine derive the same: what the rules derive on a sound heap, the plain machine derives on its trees, and the
-- heap stays sound; with `PlainRuns`, both ways. No type is asked for, and no number of the estimation.
use Rattle.std.specs.Prelude.{ℕ, ◌+◌, ◌≤◌, ◌<◌, List, [], ◌∷◌, ◌++◌, ◌↔◌, ◌≡◌, length}
use Rattle.std.proofs.Math.Option.{some}
use Rattle.std.proofs.Math.Path.{refl}
use Rattle.std.proofs.Common.{sym, ap, ◌∙◌, subst, arith, length-append}
use Rattle.std.proofs.Math.ListN.{get_elem? as look}
use Rattle.language.specs.Limits.{size_most}
use Rattle.language.specs.Syntax.{Constructor, Expr, evar, enow, elast, econ, Exprs, File, constructors_of}
use Rattle.language.specs.Within.{All, all_nil, all_cons}
use Rattle.language.specs.Sizes.{sum}
use Rattle.language.specs.Heap.{Constant, kbool, kint, Cell, leaf, con, Tree, vleaf, vcon, Trees, vnil, vcons, trees_at, tree_of, trees, tree_at}
use Rattle.language.specs.Values.{append_trees, look_tree, tree_size}
use Rattle.language.specs.Evaluator.{Channels}
use Rattle.language.specs.Rules.{New, FieldSizes, Runs, RunsAll, e_bool, e_int, e_var, e_node, e_atlast, e_let, e_if_then, e_if_else, e_op, e_op_decided, e_call, e_ctor, e_case, e_adj, e_fit_success, e_fit_fail, es_nil, es_cons}
use Rattle.language.specs.PlainMachine.{TreeChannels, Derives, p_bool, p_int, p_var, p_node, p_atlast, p_let, p_if_then, p_if_else, p_op, p_op_decided, p_call, p_ctor, p_case, p_adj, DerivesAll, ps_nil, ps_cons}
use Rattle.theory.specs.Lists.{look-get_d, look-map}
use Rattle.theory.specs.Alls.{all_map, all-at}
use Rattle.theory.specs.Heaps.{Grown, grown-refl, grown-one, grown-trans, grown-length}
use Rattle.theory.specs.HeapTrees.{tree-new, tree-con}
use Rattle.theory.specs.ValuesFit.{tree-leaf}
use Rattle.theory.specs.ScopeTrees.{scope_trees, tree-grown, scope-trees-count, derives-tree, fit-derives, no-fit-derives, scope-trees-look}
use Rattle.theory.specs.SoundHeaps.{Sound, sound-leaf, sound-con, own-sum, sizes-written}
use Rattle.theory.specs.SoundScopes.{Stands, stands-grown, stands-bound, stands-body}
use Rattle.theory.specs.PlainRuns.{plain_runs}

-- ---- the location l in the grown heap g, whose tree the plain machine derives
pub record Given (P : File) (h : List Cell) (M : TreeChannels) (D : Trees) (e : Expr) (l : ℕ) (g : List Cell) : Type 0 where
  pub grown : Grown h g
  pub sound : Sound P g
  pub low : l < length g
  pub derives : Derives P M D e (tree_at g l)

pub record GivenAll (P : File) (h : List Cell) (M : TreeChannels) (D : Trees) (es : Exprs) (ls : List ℕ) (g : List Cell) : Type 0 where
  pub grown : Grown h g
  pub sound : Sound P g
  pub low : All (λ l. l < length g) ls
  pub derives : DerivesAll P M D es (scope_trees g ls)

new-given : {P : File} {h i : List Cell} {M : TreeChannels} {D : Trees} {e : Expr} {cap l : ℕ} {g : List Cell} {c : Cell} → Grown h i → Sound P (i ++ (c ∷ [])) → New cap i c l g → Derives P M D e (tree_of (trees i) c) → Given P h M D e l g
new-given {i} {c} w sound new derives = rw (new.at, new.is) (record {
  grown = grown-trans w (grown-one i c);
  sound = sound;
  low = omega (arith, length-append i (c ∷ []));
  derives = derives-tree (sym (tree-new i c)) derives;
})

-- a part that runs last
last-given : {P : File} {h i g : List Cell} {M L : TreeChannels} {D F : Trees} {e b : Expr} {l : ℕ} → Grown h i → Given P i L F b l g → Derives P M D e (tree_at g l) → Given P h M D e l g
last-given w y derives = record { grown = grown-trans w y.grown; sound = y.sound; low = y.low; derives = derives }

-- the tree of a constructor's cell
tree-at : {P : File} {h : List Cell} → Sound P h → (l : ℕ) {t c k : ℕ} {ls : List ℕ} → look h l ≡ some (con t c k ls) → tree_at h l ≡ vcon t c (trees_at (trees h) ls)
tree-at {h} s l {t} {c} {k} {ls} e = tree-con h l e (s.cell l t c k ls e).low

size-at : {P : File} {h : List Cell} → Sound P h → (l : ℕ) {t c k : ℕ} {ls : List ℕ} → look h l ≡ some (con t c k ls) → tree_size P (tree_at h l) ≡ k
size-at {P} s l {t} {c} {k} {ls} e = ap (tree_size P) (tree-at s l e) ∙ (s.cell l t c k ls e).size

-- ---- scopes after a part
module _ {P : File} {N : Channels} {E : List ℕ} {h : List Cell} {M : TreeChannels} {D : Trees} (S : Stands P N E h M D) where
  after-given : {a : Expr} {k : ℕ} {i : List Cell} → Given P h M D a k i → Stands P N E i M D
  after-given x = stands-grown S x.grown x.sound

  with-given : {a : Expr} {k : ℕ} {i : List Cell} → Given P h M D a k i → Stands P N (E ++ (k ∷ [])) i M (append_trees D (vcons (tree_at i k) vnil))
  unfolding trees_at
  with-given {k} x = stands-bound (after-given x) (k ∷ []) (all_cons x.low all_nil) refl

  with-fields : {a : Expr} {k t c n : ℕ} {i : List Cell} {ls : List ℕ} → Given P h M D a k i → look i k ≡ some (con t c n ls) → Stands P N (E ++ ls) i M (append_trees D (scope_trees i ls))
  with-fields {k} {t} {c} {n} {ls} x e = stands-bound (after-given x) ls (all_map (λ l less. omega (arith, x.low)) (x.sound.cell k t c n ls e).low) refl

  -- ---- rules
  var-given : (v : ℕ) {l : ℕ} → look E v ≡ some l → Derives P M D (evar v) (tree_at h l)
  var-given v {l} e = p_var (subst (λ ts. look_tree ts v ≡ some (tree_at h l)) S.scope (scope-trees-look h E v e))

  now-given : (c : ℕ) {l : ℕ} → look N.now c ≡ some l → Derives P M D (enow c) (tree_at h l)
  now-given c {l} e = p_node (subst (λ (ts : TreeChannels). look ts.now c ≡ some (tree_at h l)) S.channels (look-map (tree_at h) N.now c e))

  last-value-given : (c : ℕ) {l : ℕ} → look N.last c ≡ some l → Derives P M D (elast c) (tree_at h l)
  last-value-given c {l} e = p_atlast (subst (λ (ts : TreeChannels). look ts.last c ≡ some (tree_at h l)) S.channels (look-map (tree_at h) N.last c e))

  held-given : {e : Expr} {l : ℕ} → l < length h → Derives P M D e (tree_at h l) → Given P h M D e l h
  held-given less derives = record { grown = grown-refl h; sound = S.sound; low = less; derives = derives }

leaf-given : {P : File} {N : Channels} {E : List ℕ} {h : List Cell} {M : TreeChannels} {D : Trees} {e : Expr} {cap l : ℕ} {g : List Cell} (x : Constant) → Stands P N E h M D → New cap h (leaf x) l g → Derives P M D e (vleaf x) → Given P h M D e l g
unfolding tree_of
leaf-given {h} x S new derives = new-given (grown-refl h) (sound-leaf S.sound x) new derives

if-given : {P : File} {h i : List Cell} {M : TreeChannels} {D : Trees} {a : Expr} {k : ℕ} {x : Constant} → Given P h M D a k i → look i k ≡ some (leaf x) → Derives P M D a (vleaf x)
if-given {i} {k} g e = derives-tree (tree-leaf i k e) g.derives

ctor-given : {P : File} {h i g : List Cell} {M : TreeChannels} {D : Trees} {t c cap l : ℕ} {es : Exprs} {fs : Constructor} {ls ks : List ℕ} → GivenAll P h M D es ls i → look (constructors_of P t) c ≡ some fs → FieldSizes i fs ls ks → sum ks < size_most →
    New cap i (con t c (1 + sum ks) ls) l g → Given P h M D (econ t c es) l g
unfolding tree_of tree_size
ctor-given {P} {i} {t} {c} {ls} {ks} x e z small new =
    let sizes = sizes-written x.sound z in
    let size : tree_size P (vcon t c (scope_trees i ls)) ≡ 1 + sum ks = rw (look-get_d (constructors_of P t) c [] e) (omega (arith, own-sum sizes)) in
    new-given x.grown (sound-con x.sound t c (1 + sum ks) ls (record { low = x.low; size = size })) new (p_ctor x.derives e sizes small)

op-given : {P : File} {h i f g : List Cell} {M : TreeChannels} {D : Trees} {e a b : Expr} {j k cap l : ℕ} {x y z : Constant} → Given P h M D a j i → Given P i M D b k f → look f j ≡ some (leaf x) → look f k ≡ some (leaf y) → New cap f (leaf z) l g →
    (Derives P M D a (vleaf x) → Derives P M D b (vleaf y) → Derives P M D e (vleaf z)) → Given P h M D e l g
unfolding tree_of
op-given {f} {j} {z} p q d e new rule =
    new-given (grown-trans p.grown q.grown) (sound-leaf q.sound z) new (rule (derives-tree (sym (tree-grown q.grown j p.low) ∙ tree-leaf f j d) p.derives) (if-given q e))

decided-given : {P : File} {h i g : List Cell} {M : TreeChannels} {D : Trees} {e a : Expr} {j cap l : ℕ} {x : Constant} → Given P h M D a j i → look i j ≡ some (leaf x) → New cap i (leaf x) l g →
    (Derives P M D a (vleaf x) → Derives P M D e (vleaf x)) → Given P h M D e l g
unfolding tree_of
decided-given {x} p c new rule = new-given p.grown (sound-leaf p.sound x) new (rule (if-given p c))

-- ---- every derivation
module _ {P : File} {cap : ℕ} where
  mutual
    unfolding trees_at

    pub rules-plain : {N : Channels} {u s l : ℕ} {E : List ℕ} {h g : List Cell} {M : TreeChannels} {D : Trees} {e : Expr} → Runs P cap N u s E h e l g → Stands P N E h M D → Given P h M D e l g
    rules-plain (e_bool {b} w) S = leaf-given (kbool b) S w p_bool
    rules-plain (e_int {n} w) S = leaf-given (kint n) S w p_int
    rules-plain (e_var {v} e) S = held-given S (all-at S.variables v e) (var-given S v e)
    rules-plain (e_node {c} e) S = held-given S (all-at S.now c e) (now-given S c e)
    rules-plain (e_atlast {c} e) S = held-given S (all-at S.last c e) (last-value-given S c e)
    rules-plain (e_let p slot q) S = let x = rules-plain p S in let y = rules-plain q (with-given S x) in last-given x.grown y (p_let x.derives y.derives)
    rules-plain (e_if_then p e q) S = let x = rules-plain p S in let y = rules-plain q (after-given S x) in last-given x.grown y (p_if_then (if-given x e) y.derives)
    rules-plain (e_if_else p e q) S = let x = rules-plain p S in let y = rules-plain q (after-given S x) in last-given x.grown y (p_if_else (if-given x e) y.derives)
    rules-plain (e_op p c more q d e left right w) S = let x = rules-plain p S in let y = rules-plain q (after-given S x) in op-given x y d e w (λ a b. p_op a more b left right refl)
    rules-plain (e_op_decided p c d w) S = decided-given (rules-plain p S) c w (λ a. p_op_decided a d)
    rules-plain (e_call {ls} {i} known slots ps many calls q) S =
        let x = rules-plain-all ps S in
        let y = rules-plain q (stands-body x.sound x.low refl) in
        last-given x.grown y (p_call known x.derives (scope-trees-count i ls ∙ many) y.derives)
    rules-plain (e_ctor ps known z small w) S = ctor-given (rules-plain-all ps S) known z small w
    rules-plain (e_case {k} {ls} {i} p at known many branch slots q) S =
        let x = rules-plain p S in
        let y = rules-plain q (with-fields S x at) in
        last-given x.grown y (p_case (derives-tree (tree-at x.sound k at) x.derives) known (scope-trees-count i ls ∙ many) branch y.derives)
    rules-plain (e_adj p) S = let x = rules-plain p S in record { grown = x.grown; sound = x.sound; low = x.low; derives = p_adj x.derives }
    rules-plain (e_fit_success {m} {k} p at le slot q) S =
        let x = rules-plain p S in
        let y = rules-plain q (with-given S x) in
        last-given x.grown y (fit-derives (tree-at x.sound k at) x.derives (subst (λ n. n ≤ m) (sym (size-at x.sound k at)) le) y.derives)
    rules-plain (e_fit_fail {m} {k} p at less q) S =
        let x = rules-plain p S in
        let y = rules-plain q (after-given S x) in
        last-given x.grown y (no-fit-derives (tree-at x.sound k at) x.derives (subst (λ n. m < n) (sym (size-at x.sound k at)) less) y.derives)

    rules-plain-all : {N : Channels} {u s : ℕ} {E ls : List ℕ} {h g : List Cell} {M : TreeChannels} {D : Trees} {es : Exprs} → RunsAll P cap N u s E h es ls g → Stands P N E h M D → GivenAll P h M D es ls g
    rules-plain-all es_nil S = record { grown = grown-refl _; sound = S.sound; low = all_nil; derives = ps_nil }
    rules-plain-all (es_cons {l} p ps) S =
        let x = rules-plain p S in
        let y = rules-plain-all ps (after-given S x) in
        record {
          grown = grown-trans x.grown y.grown;
          sound = y.sound;
          low = all_cons {a = l} (omega (arith, x.low, grown-length y.grown)) y.low;
          derives = ps_cons (derives-tree (sym (tree-grown y.grown l x.low)) x.derives) y.derives;
        }

-- ---- both ways: a tree is derived exactly where the rules, with some memory, come to a location that has it
pub record RunsTo (P : File) (N : Channels) (E : List ℕ) (h : List Cell) (e : Expr) (v : Tree) : Type 0 where
  pub cells : ℕ
  pub slots : ℕ
  pub calls : ℕ
  pub location : ℕ
  pub heap : List Cell
  pub runs : Runs P cells N calls slots E h e location heap
  pub tree : tree_at heap location ≡ v

pub plain-is-rules : {P : File} {N : Channels} {E : List ℕ} {h : List Cell} {M : TreeChannels} {D : Trees} → Stands P N E h M D → (e : Expr) (v : Tree) → Derives P M D e v ↔ RunsTo P N E h e v
plain-is-rules {P} {N} {E} {h} {M} {D} S e v = (forth, λ r. derives-tree r.tree (rules-plain r.runs S).derives)
  where
    forth : Derives P M D e v → RunsTo P N E h e v
    forth d =
        let x = plain_runs d S in
        record { cells = length x.heap; slots = x.slots; calls = x.calls; location = x.location; heap = x.heap; runs = x.runs (length x.heap) x.calls x.slots (omega arith) (omega arith) (omega arith); tree = x.tree }
