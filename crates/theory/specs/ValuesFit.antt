-- A location that has a type has a tree that fits it, and its size word is the tree's true size; the sizes that E-CTOR reads at its
-- fields are those of their trees.
use Rattle.std.specs.Prelude.{ℕ, ◌≤◌, List, true, ◌≡◌}
use Rattle.std.proofs.Math.Option.{some}
use Rattle.std.proofs.Math.Path.{sym}
use Rattle.std.proofs.Common.{◌∙◌, subst, arith}
use Rattle.std.proofs.Math.ListN.{get_elem? as look}
use Rattle.language.specs.Syntax.{Field, Ty, File}
use Rattle.language.specs.Heap.{Constant, Cell, leaf, con, vleaf, vcon, Trees, trees_at, tree_of, trees, tree_at, cell_at, size_in}
use Rattle.language.specs.Values.{tree_size, fits}
use Rattle.language.specs.PlainMachine.{TreeSizes, y_none, y_bool, y_int, y_own, y_other}
use Rattle.theory.specs.Heaps.{cell-at}
use Rattle.theory.specs.HeapTrees.{tree-cell, tree-con}
use Rattle.theory.specs.TypedTrees.{TreeHas, has_bool, has_int, has_named, TreeVal, val_con, FieldTrees, fields_nil, fields_bool, fields_int, fields_own, fields_other, val-size, has-fits}
use Rattle.theory.specs.HeapValues.{Has, h_bool, h_int, h_named, Val, v_con, Vals, vs_nil, vs_bool, vs_int, vs_own, vs_other, vals-low, val-size-word}

pub tree-leaf : (h : List Cell) (l : ℕ) {x : Constant} → look h l ≡ some (leaf x) → tree_at h l ≡ vleaf x
unfolding tree_of
tree-leaf h l e = tree-cell h l e

module _ {P : File} {h : List Cell} where
  -- ---- a typed location has a typed tree
  mutual
    unfolding trees_at

    pub has-tree : {l : ℕ} {τ : Ty} → Has P h l τ → TreeHas P (tree_at h l) τ
    has-tree (h_bool {l} e) = rw (tree-leaf h l e) has_bool
    has-tree (h_int {l} e less) = rw (tree-leaf h l e) (has_int less)
    has-tree (h_named v le) = has_named (val-tree v) le

    pub val-tree : {l t j : ℕ} → Val P h l t j → TreeVal P (tree_at h l) t j
    val-tree (v_con {l} e f vs s) = rw (tree-con h l e (vals-low vs)) (val_con f (vals-trees vs) s)

    pub vals-trees : {b t : ℕ} {fs : List Field} {ls ks : List ℕ} → Vals P h b t fs ls ks → FieldTrees P t fs (trees_at (trees h) ls) ks
    vals-trees vs_nil = fields_nil
    vals-trees (vs_bool low v vs) = fields_bool (has-tree v) (vals-trees vs)
    vals-trees (vs_int low v vs) = fields_int (has-tree v) (vals-trees vs)
    vals-trees (vs_own low v vs) = fields_own (val-tree v) (vals-trees vs)
    vals-trees (vs_other low v vs) = fields_other (has-tree v) (vals-trees vs)

  pub value-fits : {l : ℕ} {τ : Ty} → Has P h l τ → fits P (tree_at h l) τ ≡ true
  value-fits v = has-fits (has-tree v)

  pub val-tree-size : {l t j : ℕ} → Val P h l t j → tree_size P (tree_at h l) ≡ j
  val-tree-size v = val-size (val-tree v)

  -- the size word is the tree's size; constants have none
  pub size_word : {l : ℕ} {τ : Ty} → Has P h l τ → tree_size P (tree_at h l) ≡ size_in (cell_at h l)
  unfolding tree_size size_in
  size_word (h_bool {l} e) = rw (tree-leaf h l e, cell-at h l e)
  size_word (h_int {l} e less) = rw (tree-leaf h l e, cell-at h l e)
  size_word (h_named v le) = val-tree-size v ∙ sym (val-size-word v)

  -- the tree of a constructor's cell
  pub cell-tree : {l t c n : ℕ} {ls : List ℕ} {τ : Ty} → Has P h l τ → look h l ≡ some (con t c n ls) → tree_at h l ≡ vcon t c (trees_at (trees h) ls)
  cell-tree (h_bool e) at = absurd (let z : ◌≡◌ {A = ℕ} 0 1 = cc in omega arith)
  cell-tree (h_int e less) at = absurd (let z : ◌≡◌ {A = ℕ} 0 1 = cc in omega arith)
  cell-tree (h_named (v_con {l} e f vs s) le) at = let z = tree-con h l e (vals-low vs) in cc

-- the fields of a typed constructor have the sizes that the rule asks for, and none of another type is above its k
pub fields-sizes : {P : File} {t : ℕ} {fs : List Field} {ws : Trees} {ks : List ℕ} → FieldTrees P t fs ws ks → TreeSizes P fs ws ks
fields-sizes fields_nil = y_none
fields-sizes (fields_bool w r) = y_bool (fields-sizes r)
fields-sizes (fields_int w r) = y_int (fields-sizes r)
fields-sizes (fields_own (val_con e w s) r) = y_own (val-size (val_con e w s)) (fields-sizes r)
fields-sizes (fields_other {k} (has_named (val_con e w s) le) r) = y_other (subst (λ n. n ≤ k) (sym (val-size (val_con e w s))) le) (fields-sizes r)
