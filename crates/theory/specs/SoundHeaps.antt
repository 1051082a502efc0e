-- Sound heaps: every constructor names lower cells, and its size word is the true size of its tree. No type is asked for. What stands
-- at a location is then known from its tree.
use Rattle.std.specs.Prelude.{ℕ, ◌≤◌, ◌<◌, false, refl, length}
use mathlib.Core.List.{List, [], ◌∷◌, ◌++◌}
use Rattle.std.proofs.Math.Option.{some}
use Rattle.std.proofs.Math.Path.{◌≡◌, sym}
use Rattle.std.proofs.Common.{ap, ◌∙◌, subst, arith}
use Rattle.std.proofs.Math.ListN.{get_elem? as look}
use Rattle.language.specs.Syntax.{Constructor, File}
use Rattle.language.specs.Within.{All, all_nil, all_cons}
use Rattle.language.specs.Sizes.{sum}
use Rattle.language.specs.Heap.{Constant, kbool, Cell, leaf, con, vleaf, vcon, Trees, trees_at, trees, tree_at, cell_at}
use Rattle.language.specs.Values.{tree_size, own_tree_sum}
use Rattle.language.specs.Rules.{FieldSizes, z_none, z_bool, z_int, z_own, z_other}
use Rattle.language.specs.PlainMachine.{TreeSizes, y_none, y_bool, y_int, y_own, y_other}
use Rattle.theory.specs.Lists.{look-less}
use Rattle.theory.specs.Alls.{all_map}
use Rattle.theory.specs.Places.{look_at, look-snoc-cases}
use Rattle.theory.specs.HeapTrees.{fields-append, tree-con}
use Rattle.theory.specs.HeapValues.{vals-low}
use Rattle.theory.specs.Growth.{AllValues}
use Rattle.theory.specs.ValuesFit.{tree-leaf, val-tree-size}
use Rattle.theory.specs.TypedStates.{con-value}

-- a constructor's cell at l, or of a new cell l
pub record SoundCell (P : File) (h : List Cell) (l t c k : ℕ) (ls : List ℕ) : Type 0 where
  pub low : All (λ i. i < l) ls
  pub size : tree_size P (vcon t c (trees_at (trees h) ls)) ≡ k

pub record Sound (P : File) (h : List Cell) : Type 0 where
  pub cell : (l t c k : ℕ) (ls : List ℕ) → look h l ≡ some (con t c k ls) → SoundCell P h l t c k ls

-- heaps of values are sound
pub values-sound : {P : File} {h : List Cell} → AllValues P h → Sound P h
values-sound {P} {h} all = record {
  cell = λ l t c k ls e.
      let low = vals-low (con-value all l t c k ls e).are in
      record { low = low; size = ap (tree_size P) (sym (tree-con h l e low)) ∙ val-tree-size (all.value l t c k ls e) };
}

-- ---- one cell more
module _ {P : File} {h : List Cell} (s : Sound P h) where
  later-cell : (c : Cell) (l t d k : ℕ) (ls : List ℕ) → l ≤ length h → SoundCell P h l t d k ls → SoundCell P (h ++ (c ∷ [])) l t d k ls
  later-cell c l t d k ls le x = record { low = x.low; size = ap (λ ws. tree_size P (vcon t d ws)) (fields-append h (c ∷ []) (all_map (λ i less. omega arith) x.low)) ∙ x.size }

  pub sound-leaf : (x : Constant) → Sound P (h ++ (leaf x ∷ []))
  sound-leaf x = record {
    cell = λ l t d k ls e. look-snoc-cases h (leaf x) l e
        (λ before. later-cell (leaf x) l t d k ls (omega (arith, look-less h l before)) (s.cell l t d k ls before))
        (λ at is. absurd (let z : ◌≡◌ {A = ℕ} 0 1 = cc in omega arith));
  }

  pub sound-con : (t c k : ℕ) (ls : List ℕ) → SoundCell P h (length h) t c k ls → Sound P (h ++ (con t c k ls ∷ []))
  sound-con t c k ls x = record {
    cell = λ l u d j ms e. look-snoc-cases h (con t c k ls) l e
        (λ before. later-cell (con t c k ls) l u d j ms (omega (arith, look-less h l before)) (s.cell l u d j ms before))
        (λ at is. same l u d j ms at is);
  }
    where
      same : (l u d j : ℕ) (ms : List ℕ) → l ≡ length h → con t c k ls ≡ con u d j ms → SoundCell P (h ++ (con t c k ls ∷ [])) l u d j ms
      same l u d j ms at is =
          let t-is : t ≡ u = cc in
          let c-is : c ≡ d = cc in
          let k-is : k ≡ j = cc in
          let ls-is : ls ≡ ms = cc in
          rw (at, ← t-is, ← c-is, ← k-is, ← ls-is) (later-cell (con t c k ls) (length h) t c k ls (omega arith) x)

-- ---- what stands at a location, from its tree
pub record ConAt (P : File) (h : List Cell) (l t c : ℕ) (ws : Trees) : Type 0 where
  pub size : ℕ
  pub fields : List ℕ
  pub cell : look h l ≡ some (con t c size fields)
  pub low : All (λ i. i < l) fields
  pub trees : trees_at (trees h) fields ≡ ws
  pub true_size : tree_size P (vcon t c ws) ≡ size

module _ {P : File} {h : List Cell} (s : Sound P h) where
  pub leaf-at : (l : ℕ) {x : Constant} → l < length h → tree_at h l ≡ vleaf x → look h l ≡ some (leaf x)
  leaf-at l {x} less is = by-cell (cell_at h l) (look_at h l (leaf (kbool false)) less)
    where
      by-cell : (c : Cell) → look h l ≡ some c → look h l ≡ some (leaf x)
      by-cell (leaf y) e = e ∙ (let same : vleaf y ≡ vleaf x = sym (tree-leaf h l e) ∙ is in cc)
      by-cell (con t c k ls) e = absurd (let same : vcon t c (trees_at (trees h) ls) ≡ vleaf x = sym (tree-con h l e (s.cell l t c k ls e).low) ∙ is in let z : ◌≡◌ {A = ℕ} 0 1 = cc in omega arith)

  pub con-at : (l : ℕ) {t c : ℕ} {ws : Trees} → l < length h → tree_at h l ≡ vcon t c ws → ConAt P h l t c ws
  con-at l {t} {c} {ws} less is = by-cell (cell_at h l) (look_at h l (leaf (kbool false)) less)
    where
      by-cell : (d : Cell) → look h l ≡ some d → ConAt P h l t c ws
      by-cell (leaf y) e = absurd (let same : vleaf y ≡ vcon t c ws = sym (tree-leaf h l e) ∙ is in let z : ◌≡◌ {A = ℕ} 0 1 = cc in omega arith)
      by-cell (con u d k ls) e =
          let x = s.cell l u d k ls e in
          let same : vcon u d (trees_at (trees h) ls) ≡ vcon t c ws = sym (tree-con h l e x.low) ∙ is in
          let type : u ≡ t = cc in
          let constructor : d ≡ c = cc in
          record { size = k; fields = ls; cell = rw (← type, ← constructor) e; low = x.low; trees = cc; true_size = ap (tree_size P) (sym same) ∙ x.size }

-- ---- the sizes that E-CTOR reads in the cells are those that the plain machine's rule reads in the trees
pub own-sum : {P : File} {fs : Constructor} {ws : Trees} {ks : List ℕ} → TreeSizes P fs ws ks → own_tree_sum P ws fs ≡ sum ks
unfolding own_tree_sum sum
own-sum y_none = refl
own-sum (y_bool r) = own-sum r
own-sum (y_int r) = own-sum r
own-sum (y_own e r) = omega (arith, e, own-sum r)
own-sum (y_other le r) = own-sum r

module _ {P : File} {h : List Cell} (s : Sound P h) where
  pub sizes-read : {fs : Constructor} {ws : Trees} {ks : List ℕ} (ls : List ℕ) → All (λ l. l < length h) ls → trees_at (trees h) ls ≡ ws → TreeSizes P fs ws ks → FieldSizes h fs ls ks
  unfolding trees_at
  sizes-read [] all_nil is y_none = z_none
  sizes-read (l ∷ ls) low is y_none = absurd (let z : ◌≡◌ {A = ℕ} 0 1 = cc in omega arith)
  sizes-read [] low is (y_bool r) = absurd (let z : ◌≡◌ {A = ℕ} 0 1 = cc in omega arith)
  sizes-read (l ∷ ls) (all_cons less low) is (y_bool r) = z_bool (sizes-read ls low (cc) r)
  sizes-read [] low is (y_int r) = absurd (let z : ◌≡◌ {A = ℕ} 0 1 = cc in omega arith)
  sizes-read (l ∷ ls) (all_cons less low) is (y_int r) = z_int (sizes-read ls low (cc) r)
  sizes-read [] low is (y_own e r) = absurd (let z : ◌≡◌ {A = ℕ} 0 1 = cc in omega arith)
  sizes-read (l ∷ ls) (all_cons less low) is (y_own {t} {c} {k} {us} e r) =
      let x = con-at s l {t = t} {c = c} {ws = us} less (cc) in
      let size : x.size ≡ k = sym x.true_size ∙ e in
      z_own (subst (λ n. look h l ≡ some (con t c n x.fields)) size x.cell) (sizes-read ls low (cc) r)
  sizes-read [] low is (y_other le r) = absurd (let z : ◌≡◌ {A = ℕ} 0 1 = cc in omega arith)
  sizes-read (l ∷ ls) (all_cons less low) is (y_other {t} {c} {j} {us} le r) =
      let x = con-at s l {t = t} {c = c} {ws = us} less (cc) in
      z_other x.cell (subst (λ n. n ≤ j) x.true_size le) (sizes-read ls low (cc) r)

  pub sizes-written : {fs : Constructor} {ls ks : List ℕ} → FieldSizes h fs ls ks → TreeSizes P fs (trees_at (trees h) ls) ks
  unfolding trees_at
  sizes-written z_none = y_none
  sizes-written (z_bool r) = y_bool (sizes-written r)
  sizes-written (z_int r) = y_int (sizes-written r)
  sizes-written (z_own {l} {t} {c} {k} {ms} e r) = let x = s.cell l t c k ms e in rw (tree-con h l e x.low) (y_own x.size (sizes-written r))
  sizes-written (z_other {l} {t} {c} {k} {j} {ms} e le r) = let x = s.cell l t c k ms e in rw (tree-con h l e x.low) (y_other (subst (λ n. n ≤ j) (sym x.size) le) (sizes-written r))
