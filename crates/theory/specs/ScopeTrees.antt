-- The trees of what stands in scope: the plain machine's scope. They do not change when the heap grows.
use Rattle.std.specs.Prelude.{ℕ, zero, suc, ◌≤◌, ◌<◌, List, [], ◌∷◌, ◌++◌, map, ◌≡◌, refl, length}
use Rattle.std.proofs.Math.Option.{some}
use Rattle.std.proofs.Common.{ap, ◌∙◌, subst, subst₂}
use Rattle.std.proofs.Math.ListN.{get_elem? as look}
use Rattle.language.specs.Syntax.{Ty, Expr, efit, Exprs, File}
use Rattle.language.specs.Within.{All, all_nil, all_cons}
use Rattle.language.specs.Heap.{Cell, Tree, Trees, vcon, vnil, vcons, trees_at, trees, tree_at}
use Rattle.language.specs.Values.{append_trees, look_tree, tree_count, tree_size}
use Rattle.language.specs.Evaluator.{Channels}
use Rattle.language.specs.PlainMachine.{TreeChannels, Derives, p_fit_success, p_fit_fail, DerivesAll}
use Rattle.theory.specs.Lists.{none-is-not-some}
use Rattle.theory.specs.Heaps.{Grown}
use Rattle.theory.specs.HeapTrees.{tree-append, fields-append}
use Rattle.theory.specs.HeapValues.{Scoped, env-less}

abbrev pub channel_trees : List Cell → Channels → TreeChannels
channel_trees h N = record { now = map (tree_at h) N.now; last = map (tree_at h) N.last }

abbrev pub scope_trees : List Cell → List ℕ → Trees
scope_trees h E = trees_at (trees h) E

-- ---- growth
pub tree-grown : {h g : List Cell} → Grown h g → (l : ℕ) → l < length h → tree_at g l ≡ tree_at h l
tree-grown {h} w l less = rw w.is (tree-append h w.more l less)

pub scope-trees-grown : {h g : List Cell} {E : List ℕ} → Grown h g → All (λ l. l < length h) E → scope_trees g E ≡ scope_trees h E
scope-trees-grown {h} w low = rw w.is (fields-append h w.more low)

pub map-trees-grown : {h g : List Cell} {ls : List ℕ} → Grown h g → All (λ l. l < length h) ls → map (tree_at g) ls ≡ map (tree_at h) ls
map-trees-grown w all_nil = refl
map-trees-grown w (all_cons {a = l} less low) = rw (tree-grown w l less, map-trees-grown w low)

pub scope-trees-append : (h : List Cell) (E ls : List ℕ) → scope_trees h (E ++ ls) ≡ append_trees (scope_trees h E) (scope_trees h ls)
unfolding trees_at append_trees
scope-trees-append h [] ls = refl
scope-trees-append h (l ∷ E) ls = ap (vcons (tree_at h l)) (scope-trees-append h E ls)

pub scope-trees-count : (h : List Cell) (ls : List ℕ) → tree_count (scope_trees h ls) ≡ length ls
unfolding trees_at tree_count
scope-trees-count h [] = refl
scope-trees-count h (l ∷ ls) = ap suc (scope-trees-count h ls)

-- ---- derivations
pub derives-tree : {P : File} {N : TreeChannels} {E : Trees} {e : Expr} {v w : Tree} → v ≡ w → Derives P N E e v → Derives P N E e w
derives-tree {P} {N} {E} {e} q d = subst (Derives P N E e) q d

-- the two rules of a fit whose subject's tree is known to be a constructor's
module _ {P : File} {N : TreeChannels} {E : Trees} {k t c : ℕ} {ws : Trees} {a b d : Expr} {w v : Tree} (is : w ≡ vcon t c ws) (subject : Derives P N E a w) where
  pub fit-derives : tree_size P w ≤ k → Derives P N (append_trees E (vcons w vnil)) b v → Derives P N E (efit k a b d) v
  fit-derives le r = p_fit_success (derives-tree is subject) (subst (λ x. tree_size P x ≤ k) is le) (subst (λ x. Derives P N (append_trees E (vcons x vnil)) b v) is r)

  pub no-fit-derives : k < tree_size P w → Derives P N E d v → Derives P N E (efit k a b d) v
  no-fit-derives less r = p_fit_fail (derives-tree is subject) (subst (λ x. k < tree_size P x) is less) r

module _ {P : File} {h g : List Cell} {N : Channels} {C : List Ty} {E : List ℕ} {Γ : List Ty} (w : Grown h g) (S : Scoped P N C h E Γ) where
  channel-trees-grown : channel_trees g N ≡ channel_trees h N
  channel-trees-grown = λ i. record { now = map-trees-grown w (env-less S.now) i; last = map-trees-grown w (env-less S.last) i }

  variable-trees-grown : scope_trees g E ≡ scope_trees h E
  variable-trees-grown = scope-trees-grown w (env-less S.variables)

  -- what is derived in the grown heap's trees is derived in those before
  pub derives-before : {e : Expr} {v : Tree} → Derives P (channel_trees g N) (scope_trees g E) e v → Derives P (channel_trees h N) (scope_trees h E) e v
  derives-before {e} {v} d = subst₂ (λ M D. Derives P M D e v) channel-trees-grown variable-trees-grown d

  pub derives-all-before : {es : Exprs} {vs : Trees} → DerivesAll P (channel_trees g N) (scope_trees g E) es vs → DerivesAll P (channel_trees h N) (scope_trees h E) es vs
  derives-all-before {es} {vs} d = subst₂ (λ M D. DerivesAll P M D es vs) channel-trees-grown variable-trees-grown d

  -- the same with locations of the grown heap bound
  pub derives-bound : {e : Expr} {v : Tree} (ls : List ℕ) → Derives P (channel_trees g N) (scope_trees g (E ++ ls)) e v → Derives P (channel_trees h N) (append_trees (scope_trees h E) (scope_trees g ls)) e v
  derives-bound {e} {v} ls d = subst₂ (λ M D. Derives P M D e v) channel-trees-grown (scope-trees-append g E ls ∙ ap (λ D. append_trees D (scope_trees g ls)) variable-trees-grown) d

-- ---- looking up
pub scope-trees-look : (h : List Cell) (E : List ℕ) (v : ℕ) {l : ℕ} → look E v ≡ some l → look_tree (scope_trees h E) v ≡ some (tree_at h l)
unfolding trees_at look_tree
scope-trees-look h [] v e = none-is-not-some e
scope-trees-look h (k ∷ E) zero {l} e = let z : k ≡ l = cc in rw z
scope-trees-look h (k ∷ E) (suc v) e = scope-trees-look h E v e
