-- The plain machine is document 01's term ("The third demand's run"): it "is fed the lines alone and sees no memory. It holds a
-- tree for each channel". Its expressions are figure 4 on trees, "with memory without limit", rule by rule as in `Rules`; refusal
-- 23's premises stay.
use Rattle.std.specs.Prelude.{ℕ, ◌≤◌, ◌<◌, List, [], ◌∷◌, ◌++◌, map, Bool, true, false, ◌≡◌, length, drop, set}
use Rattle.std.proofs.Math.Option.{none, some}
use Rattle.std.proofs.Math.ListN.{get_elem? as look}
use Rattle.language.specs.Limits.{size_most}
use Rattle.language.specs.Syntax.{Constructor, fbool, fint, own, other, Size, ResultType, Op, Expr, ebool, eint, evar, enow, elast, elet, eif, eop, ecall, econ, ecase, eadj, efit, Exprs, enil, econs, look_expr, Function, File, node_at_of, node_channel, constructors_of, initial_values}
use Rattle.language.specs.PlainTypes.{operand_type}
use Rattle.language.specs.Sizes.{sum, size_of_type}
use Rattle.language.specs.Heap.{Constant, kbool, kint, Tree, vleaf, vcon, Trees, vnil, vcons, constant_type, truth, apply_op, decides}
use Rattle.language.specs.Values.{append_trees, look_tree, tree_count, tree_size}
use Rattle.language.specs.Line.{line_trees}
use Rattle.language.specs.Order.{order}

-- the trees that `13` and `14` read: as they stand now, and before the line
pub record TreeChannels : Type 0 where
  pub now : List Tree
  pub last : List Tree

abbrev pub no_trees : TreeChannels
no_trees = record { now = []; last = [] }

module _ (P : File) where
  -- the sizes at a constructor's own-type fields, each a constructor χ[k](..); a field of another type is one too, not "above its k"
  pub data TreeSizes : Constructor → Trees → List ℕ → Type 0 where
    y_none : TreeSizes [] vnil []
    y_bool : {w : Tree} {fs : Constructor} {ws : Trees} {ks : List ℕ} → TreeSizes fs ws ks → TreeSizes (fbool ∷ fs) (vcons w ws) ks
    y_int : {w : Tree} {fs : Constructor} {ws : Trees} {ks : List ℕ} → TreeSizes fs ws ks → TreeSizes (fint ∷ fs) (vcons w ws) ks
    y_own : {t c k : ℕ} {us ws : Trees} {fs : Constructor} {ks : List ℕ} → tree_size P (vcon t c us) ≡ k → TreeSizes fs ws ks → TreeSizes (own ∷ fs) (vcons (vcon t c us) ws) (k ∷ ks)
    y_other : {t c u j : ℕ} {us ws : Trees} {fs : Constructor} {ks : List ℕ} → tree_size P (vcon t c us) ≤ j → TreeSizes fs ws ks → TreeSizes (other u j ∷ fs) (vcons (vcon t c us) ws) ks

  mutual
    pub data Derives : TreeChannels → Trees → Expr → Tree → Type 0 where
      p_bool : {N : TreeChannels} {E : Trees} {b : Bool} → Derives N E (ebool b) (vleaf (kbool b))
      p_int : {N : TreeChannels} {E : Trees} {n : ℕ} → Derives N E (eint n) (vleaf (kint n))
      p_var : {N : TreeChannels} {E : Trees} {i : ℕ} {v : Tree} → look_tree E i ≡ some v → Derives N E (evar i) v
      p_node : {N : TreeChannels} {E : Trees} {c : ℕ} {v : Tree} → look N.now c ≡ some v → Derives N E (enow c) v
      p_atlast : {N : TreeChannels} {E : Trees} {c : ℕ} {v : Tree} → look N.last c ≡ some v → Derives N E (elast c) v
      p_let : {N : TreeChannels} {E : Trees} {a b : Expr} {w v : Tree} → Derives N E a w → Derives N (append_trees E (vcons w vnil)) b v → Derives N E (elet a b) v
      p_if_then : {N : TreeChannels} {E : Trees} {a b d : Expr} {v : Tree} → Derives N E a (vleaf (kbool true)) → Derives N E b v → Derives N E (eif a b d) v
      p_if_else : {N : TreeChannels} {E : Trees} {a b d : Expr} {v : Tree} → Derives N E a (vleaf (kbool false)) → Derives N E d v → Derives N E (eif a b d) v
      p_op : {N : TreeChannels} {E : Trees} {o : Op} {a b : Expr} {x y z : Constant} → Derives N E a (vleaf x) → decides o (truth x) ≡ false → Derives N E b (vleaf y) →
          constant_type x ≡ operand_type o → constant_type y ≡ operand_type o → z ≡ apply_op o x y → Derives N E (eop o a b) (vleaf z)
      p_op_decided : {N : TreeChannels} {E : Trees} {o : Op} {a b : Expr} {v : Bool} → Derives N E a (vleaf (kbool v)) → decides o v ≡ true → Derives N E (eop o a b) (vleaf (kbool v))
      p_call : {N : TreeChannels} {E vs : Trees} {f : ℕ} {es : Exprs} {F : Function} {v : Tree} → look P.functions f ≡ some F → DerivesAll N E es vs →
          tree_count vs ≡ length F.parameters → Derives no_trees vs F.body v → Derives N E (ecall f es) v
      p_ctor : {N : TreeChannels} {E vs : Trees} {t c : ℕ} {ks : List ℕ} {es : Exprs} {fs : Constructor} → DerivesAll N E es vs → look (constructors_of P t) c ≡ some fs →
          TreeSizes fs vs ks → sum ks < size_most → Derives N E (econ t c es) (vcon t c vs)
      p_case : {N : TreeChannels} {E vs : Trees} {t c : ℕ} {e b : Expr} {r : ResultType} {bs : Exprs} {fs : Constructor} {v : Tree} → Derives N E e (vcon t c vs) → look (constructors_of P t) c ≡ some fs →
          tree_count vs ≡ length fs → look_expr bs c ≡ some b → Derives N (append_trees E vs) b v → Derives N E (ecase t e r bs) v
      p_adj : {N : TreeChannels} {E : Trees} {s : Size} {e : Expr} {v : Tree} → Derives N E e v → Derives N E (eadj s e) v
      p_fit_success : {N : TreeChannels} {E ws : Trees} {t c k : ℕ} {a b d : Expr} {v : Tree} → Derives N E a (vcon t c ws) → tree_size P (vcon t c ws) ≤ k →
          Derives N (append_trees E (vcons (vcon t c ws) vnil)) b v → Derives N E (efit k a b d) v
      p_fit_fail : {N : TreeChannels} {E ws : Trees} {t c k : ℕ} {a b d : Expr} {v : Tree} → Derives N E a (vcon t c ws) → k < tree_size P (vcon t c ws) → Derives N E d v → Derives N E (efit k a b d) v

    pub data DerivesAll : TreeChannels → Trees → Exprs → Trees → Type 0 where
      ps_nil : {N : TreeChannels} {E : Trees} → DerivesAll N E enil vnil
      ps_cons : {N : TreeChannels} {E vs : Trees} {e : Expr} {es : Exprs} {v : Tree} → Derives N E e v → DerivesAll N E es vs → DerivesAll N E (econs e es) (vcons v vs)

  -- "then for each node, in the iteration's order, the tree that the evaluation rules derive for its update: `13` reads the trees as
  -- they then stand, `14` those from before the line". The nodes at these places, one after the other; now: the trees of all channels.
  pub data Nodes (last : List Tree) : List ℕ → List Tree → List Tree → Type 0 where
    no_nodes : {now : List Tree} → Nodes last [] now now
    next_node : {i : ℕ} {is : List ℕ} {now result : List Tree} {v : Tree} →
        Derives (record { now = now; last = last }) vnil (node_at_of P i).update v → tree_size P v ≤ size_of_type (node_at_of P i).declared →
        Nodes last is (set now (node_channel P i) v) result → Nodes last (i ∷ is) now result

  -- "An allowed line puts in its own trees for the inputs"; "Any other line changes nothing."
  pub data Step (before : List Tree) (line : List ℕ) : List Tree → Type 0 where
    allowed : {vs result : List Tree} → line_trees P line ≡ some vs → Nodes before (order P) (vs ++ drop (length P.inputs) before) result → Step before line result
    not_allowed : line_trees P line ≡ none → Step before line before

-- the tree of an initial value, which uses `10`, `11`, `19` and `1B` only
unfoldable mutual
  pub initial_tree : Expr → Tree
  initial_tree (ebool b) = vleaf (kbool b)
  initial_tree (eint n) = vleaf (kint n)
  initial_tree (evar v) = vleaf (kbool false)
  initial_tree (enow c) = vleaf (kbool false)
  initial_tree (elast c) = vleaf (kbool false)
  initial_tree (elet a b) = vleaf (kbool false)
  initial_tree (eif a b d) = vleaf (kbool false)
  initial_tree (eop o a b) = vleaf (kbool false)
  initial_tree (ecall f es) = vleaf (kbool false)
  initial_tree (econ t c es) = vcon t c (initial_fields es)
  initial_tree (ecase t e r bs) = vleaf (kbool false)
  initial_tree (eadj s e) = initial_tree e
  initial_tree (efit k a b d) = vleaf (kbool false)

  pub initial_fields : Exprs → Trees
  initial_fields enil = vnil
  initial_fields (econs e es) = vcons (initial_tree e) (initial_fields es)

-- "at first its initial value's"
abbrev pub initial_trees : File → List Tree
initial_trees P = map initial_tree (initial_values P)
