-- Figure 4, with document 01's changes: "the m of E-CASE is the chosen branch's field count, and E-FIT-FAIL starts with t cells
-- free"; and its new premise: "a constructor over size 64, a field above its k". Document 02, R-2, gives E-OP two forms: where the left
-- side decides, its value stands in a new cell; else both sides are evaluated.
-- Runs N u s E h e l g: with the channels N, u calls left, s free slots, environment E and heap h, of cap cells, the expression e
-- gives the location l and the heap g. Free cells are cap less the heap's length. A rule bears the paper's name.
use Rattle.std.specs.Prelude.{ℕ, ◌+◌, ◌≤◌, ◌<◌, List, [], ◌∷◌, ◌++◌, Bool, true, false, ◌≡◌, length}
use Rattle.std.proofs.Math.Option.{some}
use Rattle.std.proofs.Math.ListN.{get_elem? as look}
use Rattle.language.specs.Limits.{size_most}
use Rattle.language.specs.Syntax.{Constructor, fbool, fint, own, other, Size, ResultType, Op, Expr, ebool, eint, evar, enow, elast, elet, eif, eop, ecall, econ, ecase, eadj, efit, Exprs, enil, econs, look_expr, Function, File, constructors_of}
use Rattle.language.specs.PlainTypes.{operand_type}
use Rattle.language.specs.Sizes.{sum}
use Rattle.language.specs.Heap.{Constant, kbool, kint, Cell, leaf, con, constant_type, truth, apply_op, decides}
use Rattle.language.specs.Evaluator.{Channels, no_channels}

-- the next free cell holds c: of all l outside dom(H), the next one is taken
pub record New (cap : ℕ) (h : List Cell) (c : Cell) (l : ℕ) (g : List Cell) : Type 0 where
  pub free : length h < cap
  pub at : l ≡ length h
  pub is : g ≡ h ++ (c ∷ [])

-- the sizes at a constructor's own-type fields, H(l) = χ[k](..) at each; a field of another type is not "above its k"
pub data FieldSizes (h : List Cell) : Constructor → List ℕ → List ℕ → Type 0 where
  z_none : FieldSizes h [] [] []
  z_bool : {l : ℕ} {fs : Constructor} {ls ks : List ℕ} → FieldSizes h fs ls ks → FieldSizes h (fbool ∷ fs) (l ∷ ls) ks
  z_int : {l : ℕ} {fs : Constructor} {ls ks : List ℕ} → FieldSizes h fs ls ks → FieldSizes h (fint ∷ fs) (l ∷ ls) ks
  z_own : {l t c k : ℕ} {fs : Constructor} {ls ks ms : List ℕ} → look h l ≡ some (con t c k ms) → FieldSizes h fs ls ks → FieldSizes h (own ∷ fs) (l ∷ ls) (k ∷ ks)
  z_other : {l t c k u j : ℕ} {fs : Constructor} {ls ks ms : List ℕ} → look h l ≡ some (con t c k ms) → k ≤ j → FieldSizes h fs ls ks → FieldSizes h (other u j ∷ fs) (l ∷ ls) ks

module _ (P : File) (cap : ℕ) where
  mutual
    pub data Runs : Channels → ℕ → ℕ → List ℕ → List Cell → Expr → ℕ → List Cell → Type 0 where
      e_bool : {N : Channels} {u s l : ℕ} {E : List ℕ} {h g : List Cell} {b : Bool} → New cap h (leaf (kbool b)) l g → Runs N u s E h (ebool b) l g
      e_int : {N : Channels} {u s l n : ℕ} {E : List ℕ} {h g : List Cell} → New cap h (leaf (kint n)) l g → Runs N u s E h (eint n) l g
      e_var : {N : Channels} {u s l v : ℕ} {E : List ℕ} {h : List Cell} → look E v ≡ some l → Runs N u s E h (evar v) l h
      e_node : {N : Channels} {u s l c : ℕ} {E : List ℕ} {h : List Cell} → look N.now c ≡ some l → Runs N u s E h (enow c) l h
      e_atlast : {N : Channels} {u s l c : ℕ} {E : List ℕ} {h : List Cell} → look N.last c ≡ some l → Runs N u s E h (elast c) l h
      e_let : {N : Channels} {u s r k l : ℕ} {E : List ℕ} {h i g : List Cell} {a b : Expr} →
          Runs N u s E h a k i → s ≡ 1 + r → Runs N u r (E ++ (k ∷ [])) i b l g → Runs N u s E h (elet a b) l g
      e_if_then : {N : Channels} {u s k l : ℕ} {E : List ℕ} {h i g : List Cell} {a b d : Expr} →
          Runs N u s E h a k i → look i k ≡ some (leaf (kbool true)) → Runs N u s E i b l g → Runs N u s E h (eif a b d) l g
      e_if_else : {N : Channels} {u s k l : ℕ} {E : List ℕ} {h i g : List Cell} {a b d : Expr} →
          Runs N u s E h a k i → look i k ≡ some (leaf (kbool false)) → Runs N u s E i d l g → Runs N u s E h (eif a b d) l g
      e_op : {N : Channels} {u s j k l : ℕ} {E : List ℕ} {h i f g : List Cell} {o : Op} {a b : Expr} {x y : Constant} →
          Runs N u s E h a j i → look i j ≡ some (leaf x) → decides o (truth x) ≡ false → Runs N u s E i b k f → look f j ≡ some (leaf x) → look f k ≡ some (leaf y) →
          constant_type x ≡ operand_type o → constant_type y ≡ operand_type o → New cap f (leaf (apply_op o x y)) l g → Runs N u s E h (eop o a b) l g
      e_op_decided : {N : Channels} {u s j l : ℕ} {E : List ℕ} {h i g : List Cell} {o : Op} {a b : Expr} {v : Bool} →
          Runs N u s E h a j i → look i j ≡ some (leaf (kbool v)) → decides o v ≡ true → New cap i (leaf (kbool v)) l g → Runs N u s E h (eop o a b) l g
      e_call : {N : Channels} {u v s r f l : ℕ} {E ls : List ℕ} {h i g : List Cell} {es : Exprs} {F : Function} →
          look P.functions f ≡ some F → s ≡ length F.parameters + r → RunsAll N u r E h es ls i → length ls ≡ length F.parameters → u ≡ 1 + v →
          Runs no_channels v r ls i F.body l g → Runs N u s E h (ecall f es) l g
      e_ctor : {N : Channels} {u s t c l : ℕ} {E ls ks : List ℕ} {h i g : List Cell} {es : Exprs} {fs : Constructor} →
          RunsAll N u s E h es ls i → look (constructors_of P t) c ≡ some fs → FieldSizes i fs ls ks → sum ks < size_most →
          New cap i (con t c (1 + sum ks) ls) l g → Runs N u s E h (econ t c es) l g
      e_case : {N : Channels} {u s r t c n k l : ℕ} {E ls : List ℕ} {h i g : List Cell} {e b : Expr} {y : ResultType} {bs : Exprs} {fs : Constructor} →
          Runs N u s E h e k i → look i k ≡ some (con t c n ls) → look (constructors_of P t) c ≡ some fs → length ls ≡ length fs → look_expr bs c ≡ some b → s ≡ length fs + r →
          Runs N u r (E ++ ls) i b l g → Runs N u s E h (ecase t e y bs) l g
      e_adj : {N : Channels} {u s l : ℕ} {E : List ℕ} {h g : List Cell} {z : Size} {e : Expr} → Runs N u s E h e l g → Runs N u s E h (eadj z e) l g
      e_fit_success : {N : Channels} {u s r m t c n k l : ℕ} {E ls : List ℕ} {h i g : List Cell} {a b d : Expr} →
          Runs N u s E h a k i → look i k ≡ some (con t c n ls) → n ≤ m → s ≡ 1 + r → Runs N u r (E ++ (k ∷ [])) i b l g → Runs N u s E h (efit m a b d) l g
      e_fit_fail : {N : Channels} {u s m t c n k l : ℕ} {E ls : List ℕ} {h i g : List Cell} {a b d : Expr} →
          Runs N u s E h a k i → look i k ≡ some (con t c n ls) → m < n → Runs N u s E i d l g → Runs N u s E h (efit m a b d) l g

    -- the premises of E-CALL and E-CTOR for their parts, left to right
    pub data RunsAll : Channels → ℕ → ℕ → List ℕ → List Cell → Exprs → List ℕ → List Cell → Type 0 where
      es_nil : {N : Channels} {u s : ℕ} {E : List ℕ} {h : List Cell} → RunsAll N u s E h enil [] h
      es_cons : {N : Channels} {u s l : ℕ} {E ls : List ℕ} {h i g : List Cell} {e : Expr} {es : Exprs} →
          Runs N u s E h e l i → RunsAll N u s E i es ls g → RunsAll N u s E h (econs e es) (l ∷ ls) g
