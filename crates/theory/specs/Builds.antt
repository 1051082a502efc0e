-- Building a tree appends as many cells as the tree has; the tree of its location is the tree, earlier trees stay, and every new cell is reached from it.
use Rattle.std.specs.Prelude.{ℕ, ◌+◌, ◌≤◌, ◌<◌, ◌≡◌, refl, length}
use mathlib.Core.List.{List, [], ◌∷◌, ◌++◌, map, map-append, append-nil}
use Rattle.std.proofs.Math.Option.{some}
use Rattle.std.proofs.Math.Path.{sym, ap}
use Rattle.std.proofs.Common.{◌∙◌, subst, arith, length-append}
use Rattle.std.proofs.Math.ListN.{get_elem? as look}
use Rattle.std.proofs.Math.Seq.{append_snoc}
use Rattle.language.specs.Syntax.{File}
use Rattle.language.specs.Within.{All, all_nil, all_cons}
use Rattle.language.specs.Sizes.{sum}
use Rattle.language.specs.Heap.{Constant, Cell, leaf, con, Tree, vleaf, vcon, Trees, vnil, vcons, fields_in, trees_at, tree_of, trees, tree_at}
use Rattle.language.specs.Values.{tree_cells, trees_cells, tree_size}
use Rattle.language.specs.Slide.{State}
use Rattle.language.specs.Machine.{Built, BuiltAll, new_cell, build, build_fields, build_all}
use Rattle.theory.specs.Lists.{look-new}
use Rattle.theory.specs.HeapTrees.{tree-new}
use Rattle.theory.specs.Heaps.{Grown, grown-refl, grown-one, grown-trans, grown-length, look-grown}
use Rattle.theory.specs.ScopeTrees.{tree-grown}
use Rattle.theory.specs.Alls.{all_map, all_append, all_first, all_left, all_rest, all_right}
use Rattle.theory.specs.Places.{below_or_not, below-or-last}
use Rattle.theory.specs.Members.{map_same}

-- ---- what is built
pub record Builds (v : Tree) (h : List Cell) (r : Built) : Type 0 where
  pub grown : Grown h r.heap
  pub count : length r.heap ≡ length h + tree_cells v
  pub low : r.location < length r.heap
  pub tree : tree_at r.heap r.location ≡ v

pub record BuildsFields (ws : Trees) (h : List Cell) (r : BuiltAll) : Type 0 where
  pub grown : Grown h r.heap
  pub count : length r.heap ≡ length h + trees_cells ws
  pub low : All (λ l. l < length r.heap) r.locations
  pub trees : trees_at (trees r.heap) r.locations ≡ ws

-- the channels' trees, after those whose cells are given
pub record BuildsAll (vs : List Tree) (h : List Cell) (roots : List ℕ) (s : State) : Type 0 where
  pub grown : Grown h s.heap
  pub count : length s.heap ≡ length h + sum (map tree_cells vs)
  pub low : All (λ l. l < length s.heap) s.roots
  pub trees : map (tree_at s.heap) s.roots ≡ map (tree_at h) roots ++ vs

leaf-builds : (x : Constant) (h : List Cell) → Builds (vleaf x) h (new_cell h (leaf x))
unfolding new_cell tree_cells tree_of
leaf-builds x h = record { grown = grown-one h (leaf x); count = length-append h (leaf x ∷ []); low = omega (arith, length-append h (leaf x ∷ [])); tree = tree-new h (leaf x) }

con-builds : (t c k : ℕ) {ws : Trees} {h : List Cell} {q : BuiltAll} → BuildsFields ws h q → Builds (vcon t c ws) h (new_cell q.heap (con t c k q.locations))
unfolding new_cell tree_cells tree_of
con-builds t c k {q} b =
    let size = length-append q.heap (con t c k q.locations ∷ []) in
    record {
      grown = grown-trans b.grown (grown-one q.heap (con t c k q.locations));
      count = omega (arith, b.count);
      low = omega arith;
      tree = tree-new q.heap (con t c k q.locations) ∙ ap (vcon t c) b.trees;
    }

cons-builds : {w : Tree} {ws : Trees} {h : List Cell} {r : Built} {q : BuiltAll} → Builds w h r → BuildsFields ws r.heap q →
    BuildsFields (vcons w ws) h (record { locations = r.location ∷ q.locations; heap = q.heap })
unfolding tree_cells trees_at
cons-builds {r} b c = record {
  grown = grown-trans b.grown c.grown;
  count = omega (arith, b.count, c.count);
  low = all_cons {a = r.location} (omega (arith, b.low, grown-length c.grown)) c.low;
  trees = rw (tree-grown c.grown r.location b.low, b.tree, c.trees);
}

module _ (P : File) where
  mutual
    unfolding build tree_cells trees_at

    pub build-builds : (v : Tree) (h : List Cell) → Builds v h (build P v h)
    build-builds (vleaf x) h = leaf-builds x h
    build-builds (vcon t c ws) h = con-builds t c (tree_size P (vcon t c ws)) (fields-build ws h)

    pub fields-build : (ws : Trees) (h : List Cell) → BuildsFields ws h (build_fields P ws h)
    fields-build vnil h = record { grown = grown-refl h; count = omega arith; low = all_nil; trees = refl }
    fields-build (vcons w ws) h = cons-builds (build-builds w h) (fields-build ws (build P w h).heap)

  pub all_build : (vs : List Tree) (h : List Cell) (roots : List ℕ) → All (λ l. l < length h) roots → BuildsAll vs h roots (build_all P vs h roots)
  unfolding build_all sum
  all_build [] h roots low = record { grown = grown-refl h; count = omega arith; low = low; trees = sym (append-nil (map (tree_at h) roots)) }
  all_build (v ∷ vs) h roots low =
      let r = build P v h in
      let b = build-builds v h in
      let more = all_build vs r.heap (roots ++ (r.location ∷ [])) (all_append (all_map (λ l less. omega (arith, grown-length b.grown)) low) (all_cons b.low all_nil)) in
      record {
        grown = grown-trans b.grown more.grown;
        count = omega (arith, b.count, more.count);
        low = more.low;
        trees = more.trees
            ∙ ap (λ x. x ++ vs) (map-append (tree_at r.heap) roots (r.location ∷ []) ∙ ap (λ x. x ++ (tree_at r.heap r.location ∷ [])) (map_same roots (all_map (tree-grown b.grown) low)))
            ∙ append_snoc (map (tree_at h) roots) (tree_at r.heap r.location) vs ∙ ap (λ x. map (tree_at h) roots ++ (x ∷ vs)) b.tree;
      }

  all_grown : (vs : List Tree) (h : List Cell) (roots : List ℕ) → Grown h (build_all P vs h roots).heap
  unfolding build_all
  all_grown [] h roots = grown-refl h
  all_grown (v ∷ vs) h roots = grown-trans (build-builds v h).grown (all_grown vs (build P v h).heap (roots ++ ((build P v h).location ∷ [])))

pub all-grows : (P : File) (vs : List Tree) (h : List Cell) (roots : List ℕ) → length h ≤ length (build_all P vs h roots).heap
all-grows P vs h roots = grown-length (all_grown P vs h roots)

-- ---- what holds of a location, and with each cell of those that it names, holds of all cells built for it
module _ (P : File) (g : List Cell) (Q : ℕ → Type 0) (fields : (l : ℕ) (c : Cell) → look g l ≡ some c → Q l → All Q (fields_in c)) where
  mutual
    unfolding build new_cell fields_in

    build-reaches : (v : Tree) (h : List Cell) → Grown (build P v h).heap g → Q (build P v h).location → (i : ℕ) → length h ≤ i → i < length (build P v h).heap → Q i
    build-reaches (vleaf x) h w here i above below = subst Q (let e : length h ≡ i = omega (arith, length-append h (leaf x ∷ [])) in e) here
    build-reaches (vcon t c ws) h w here i above below =
        let q = build_fields P ws h in
        let k = tree_size P (vcon t c ws) in
        let d = con t c k q.locations in
        below-or-last i (length q.heap) (omega (arith, length-append q.heap (d ∷ [])))
        (λ less. fields-reach ws h (grown-trans (grown-one q.heap d) w) (fields (length q.heap) d (look-grown w (length q.heap) (look-new q.heap d)) here) i above less)
        (λ last. subst Q (sym last) here)

    fields-reach : (ws : Trees) (h : List Cell) → Grown (build_fields P ws h).heap g → All Q (build_fields P ws h).locations → (i : ℕ) → length h ≤ i → i < length (build_fields P ws h).heap → Q i
    fields-reach vnil h w all i above below = absurd (omega arith)
    fields-reach (vcons v ws) h w all i above below =
        let r = build P v h in
        below_or_not i (length r.heap) (λ less. build-reaches v h (grown-trans (fields-build P ws r.heap).grown w) (all_first all) i above less)
        (λ le. fields-reach ws r.heap w (all_rest all) i le below)

  roots-stay : (vs : List Tree) (h : List Cell) (roots : List ℕ) → All Q (build_all P vs h roots).roots → All Q roots
  unfolding build_all
  roots-stay [] h roots all = all
  roots-stay (v ∷ vs) h roots all = all_left roots ((build P v h).location ∷ []) (roots-stay vs (build P v h).heap (roots ++ ((build P v h).location ∷ [])) all)

  pub all-reach : (vs : List Tree) (h : List Cell) (roots : List ℕ) → Grown (build_all P vs h roots).heap g → All Q (build_all P vs h roots).roots →
      (i : ℕ) → length h ≤ i → i < length (build_all P vs h roots).heap → Q i
  unfolding build_all
  all-reach [] h roots w all i above below = absurd (omega arith)
  all-reach (v ∷ vs) h roots w all i above below =
      let r = build P v h in
      let new = roots ++ (r.location ∷ []) in
      below_or_not i (length r.heap)
      (λ less. build-reaches v h (grown-trans (all_grown P vs r.heap new) w) (all_first (all_right roots (r.location ∷ []) (roots-stay vs r.heap new all))) i above less)
      (λ le. all-reach vs r.heap new w all i le below)
