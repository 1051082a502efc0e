-- What a tree is: its cells, its size, and of which types it is a value. Document 01, "Checking" and "Estimation and memory".
use Rattle.std.specs.Prelude.{ℕ, zero, suc, ◌+◌, List, [], ◌∷◌, Bool, true, false, ltb, leb, eqb}
use Rattle.std.proofs.Math.Option.{Option, none, some}
use Rattle.std.proofs.Math.ListN.{get_elem? as look}
use Rattle.language.specs.Limits.{int_range}
use Rattle.language.specs.Result.{both}
use Rattle.language.specs.Syntax.{Field, fbool, fint, own, other, Constructor, Ty, tbool, tint, tnamed, File, constructors_of, fields_of}
use Rattle.language.specs.Heap.{Constant, kbool, kint, Tree, vleaf, vcon, Trees, vnil, vcons}

unfoldable pub append_trees : Trees → Trees → Trees
append_trees vnil ws = ws
append_trees (vcons v vs) ws = vcons v (append_trees vs ws)

unfoldable pub look_tree : Trees → ℕ → Option Tree
look_tree vnil i = none
look_tree (vcons v vs) zero = some v
look_tree (vcons v vs) (suc i) = look_tree vs i

unfoldable pub tree_count : Trees → ℕ
tree_count vnil = 0
tree_count (vcons v vs) = suc (tree_count vs)

-- "one a constructor, one a Bool or Int"
unfoldable mutual
  pub tree_cells : Tree → ℕ
  tree_cells (vleaf x) = 1
  tree_cells (vcon t c ws) = 1 + trees_cells ws

  pub trees_cells : Trees → ℕ
  trees_cells vnil = 0
  trees_cells (vcons w ws) = tree_cells w + trees_cells ws

-- a constant of a type; "Int is 32 bits"
unfoldable pub constant_fits : Constant → Ty → Bool
constant_fits (kbool b) tbool = true
constant_fits (kbool b) tint = false
constant_fits (kbool b) (tnamed t k) = false
constant_fits (kint n) tbool = false
constant_fits (kint n) tint = ltb n int_range
constant_fits (kint n) (tnamed t k) = false

unfoldable pub is_constructor : Option Constructor → (Constructor → Bool) → Bool
is_constructor none k = false
is_constructor (some fs) k = k fs

unfoldable pub named_as : ℕ → Ty → (ℕ → Bool) → Bool
named_as t tbool f = false
named_as t tint f = false
named_as t (tnamed u k) f = both (eqb t u) (f k)

module _ (P : File) where
  -- "A constructor's size is 1 plus the sizes of its own-type fields"
  unfoldable mutual
    pub tree_size : Tree → ℕ
    tree_size (vleaf x) = 0
    tree_size (vcon t c ws) = 1 + own_tree_sum ws (fields_of P t c)

    pub own_tree_sum : Trees → List Field → ℕ
    own_tree_sum vnil fs = 0
    own_tree_sum (vcons w ws) [] = 0
    own_tree_sum (vcons w ws) (fbool ∷ fs) = own_tree_sum ws fs
    own_tree_sum (vcons w ws) (fint ∷ fs) = own_tree_sum ws fs
    own_tree_sum (vcons w ws) (own ∷ fs) = tree_size w + own_tree_sum ws fs
    own_tree_sum (vcons w ws) (other t k ∷ fs) = own_tree_sum ws fs

  -- a value of a type, "no size in it above its declaration or field k"
  unfoldable mutual
    pub fits : Tree → Ty → Bool
    fits (vleaf x) τ = constant_fits x τ
    fits (vcon t c ws) τ = named_as t τ (λ k. both (leb (tree_size (vcon t c ws)) k) (is_constructor (look (constructors_of P t) c) (λ fs. fields_fit_of ws fs t k)))

    -- the fields of a constructor of type t that stands in a value of size at most k
    pub fields_fit_of : Trees → List Field → ℕ → ℕ → Bool
    fields_fit_of vnil [] t k = true
    fields_fit_of vnil (f ∷ fs) t k = false
    fields_fit_of (vcons w ws) [] t k = false
    fields_fit_of (vcons w ws) (fbool ∷ fs) t k = both (fits w tbool) (fields_fit_of ws fs t k)
    fields_fit_of (vcons w ws) (fint ∷ fs) t k = both (fits w tint) (fields_fit_of ws fs t k)
    fields_fit_of (vcons w ws) (own ∷ fs) t k = both (fits w (tnamed t k)) (fields_fit_of ws fs t k)
    fields_fit_of (vcons w ws) (other u j ∷ fs) t k = both (fits w (tnamed u j)) (fields_fit_of ws fs t k)
