-- Where the rules meet a refusal: document 01, "20 to 23 where the rules meet them: a call needs its slots before its arguments and its stack
-- after them; a constructor's size comes before its cell".
-- Meets N u s E h e n: with the channels N, u calls left, s free slots, environment E and heap h, of cap cells, the parts of e run by the
-- rules, in their order, up to a premise of figure 4 that asks for a cell, slots, a call or a size and does not hold: refusal n.
use Rattle.std.specs.Prelude.{ℕ, ◌+◌, ◌≤◌, ◌<◌, List, [], ◌∷◌, ◌++◌, Bool, true, false, ◌≡◌, length}
use Rattle.std.proofs.Math.Option.{some}
use Rattle.std.proofs.Math.ListN.{get_elem? as look}
use Rattle.language.specs.Limits.{size_most}
use Rattle.language.specs.Refusals.{heap_spent, environment_spent, stack_spent, value_too_large}
use Rattle.language.specs.Syntax.{Field, other, Constructor, Size, ResultType, Op, Expr, ebool, eint, elet, eif, eop, ecall, econ, ecase, eadj, efit, Exprs, econs, look_expr, Function, File, constructors_of}
use Rattle.language.specs.Sizes.{sum}
use Rattle.language.specs.Heap.{Constant, kbool, Cell, leaf, con, truth, decides}
use Rattle.language.specs.Evaluator.{Channels, no_channels}
use Rattle.language.specs.Rules.{FieldSizes, Runs, RunsAll}

-- "a field above its k"
pub data FieldAbove (h : List Cell) : Constructor → List ℕ → Type 0 where
  above : {l t c k u j : ℕ} {fs : Constructor} {ls ms : List ℕ} → look h l ≡ some (con t c k ms) → j < k → FieldAbove h (other u j ∷ fs) (l ∷ ls)
  above_later : {l : ℕ} {f : Field} {fs : Constructor} {ls : List ℕ} → FieldAbove h fs ls → FieldAbove h (f ∷ fs) (l ∷ ls)

module _ (P : File) (cap : ℕ) where
  mutual
    pub data Meets : Channels → ℕ → ℕ → List ℕ → List Cell → Expr → ℕ → Type 0 where
      m_bool : {N : Channels} {u s : ℕ} {E : List ℕ} {h : List Cell} {b : Bool} → cap ≤ length h → Meets N u s E h (ebool b) heap_spent
      m_int : {N : Channels} {u s i : ℕ} {E : List ℕ} {h : List Cell} → cap ≤ length h → Meets N u s E h (eint i) heap_spent
      m_let_bound : {N : Channels} {u s n : ℕ} {E : List ℕ} {h : List Cell} {a b : Expr} → Meets N u s E h a n → Meets N u s E h (elet a b) n
      m_let_slot : {N : Channels} {u s k : ℕ} {E : List ℕ} {h i : List Cell} {a b : Expr} → Runs P cap N u s E h a k i → s < 1 → Meets N u s E h (elet a b) environment_spent
      m_let_body : {N : Channels} {u s r k n : ℕ} {E : List ℕ} {h i : List Cell} {a b : Expr} →
          Runs P cap N u s E h a k i → s ≡ 1 + r → Meets N u r (E ++ (k ∷ [])) i b n → Meets N u s E h (elet a b) n
      m_if : {N : Channels} {u s n : ℕ} {E : List ℕ} {h : List Cell} {a b d : Expr} → Meets N u s E h a n → Meets N u s E h (eif a b d) n
      m_if_then : {N : Channels} {u s k n : ℕ} {E : List ℕ} {h i : List Cell} {a b d : Expr} →
          Runs P cap N u s E h a k i → look i k ≡ some (leaf (kbool true)) → Meets N u s E i b n → Meets N u s E h (eif a b d) n
      m_if_else : {N : Channels} {u s k n : ℕ} {E : List ℕ} {h i : List Cell} {a b d : Expr} →
          Runs P cap N u s E h a k i → look i k ≡ some (leaf (kbool false)) → Meets N u s E i d n → Meets N u s E h (eif a b d) n
      m_op_left : {N : Channels} {u s n : ℕ} {E : List ℕ} {h : List Cell} {o : Op} {a b : Expr} → Meets N u s E h a n → Meets N u s E h (eop o a b) n
      m_op_decided : {N : Channels} {u s j : ℕ} {E : List ℕ} {h i : List Cell} {o : Op} {a b : Expr} {v : Bool} →
          Runs P cap N u s E h a j i → look i j ≡ some (leaf (kbool v)) → decides o v ≡ true → cap ≤ length i → Meets N u s E h (eop o a b) heap_spent
      m_op_right : {N : Channels} {u s j n : ℕ} {E : List ℕ} {h i : List Cell} {o : Op} {a b : Expr} {x : Constant} →
          Runs P cap N u s E h a j i → look i j ≡ some (leaf x) → decides o (truth x) ≡ false → Meets N u s E i b n → Meets N u s E h (eop o a b) n
      m_op_cell : {N : Channels} {u s j k : ℕ} {E : List ℕ} {h i f : List Cell} {o : Op} {a b : Expr} {x : Constant} →
          Runs P cap N u s E h a j i → look i j ≡ some (leaf x) → decides o (truth x) ≡ false → Runs P cap N u s E i b k f → cap ≤ length f → Meets N u s E h (eop o a b) heap_spent
      m_call_slots : {N : Channels} {u s f : ℕ} {E : List ℕ} {h : List Cell} {es : Exprs} {F : Function} →
          look P.functions f ≡ some F → s < length F.parameters → Meets N u s E h (ecall f es) environment_spent
      m_call_argument : {N : Channels} {u s r f n : ℕ} {E : List ℕ} {h : List Cell} {es : Exprs} {F : Function} →
          look P.functions f ≡ some F → s ≡ length F.parameters + r → MeetsIn N u r E h es n → Meets N u s E h (ecall f es) n
      m_call_stack : {N : Channels} {u s r f : ℕ} {E ls : List ℕ} {h i : List Cell} {es : Exprs} {F : Function} →
          look P.functions f ≡ some F → s ≡ length F.parameters + r → RunsAll P cap N u r E h es ls i → u < 1 → Meets N u s E h (ecall f es) stack_spent
      m_call_body : {N : Channels} {u v s r f n : ℕ} {E ls : List ℕ} {h i : List Cell} {es : Exprs} {F : Function} →
          look P.functions f ≡ some F → s ≡ length F.parameters + r → RunsAll P cap N u r E h es ls i → length ls ≡ length F.parameters → u ≡ 1 + v →
          Meets no_channels v r ls i F.body n → Meets N u s E h (ecall f es) n
      m_ctor_field : {N : Channels} {u s t c n : ℕ} {E : List ℕ} {h : List Cell} {es : Exprs} → MeetsIn N u s E h es n → Meets N u s E h (econ t c es) n
      m_ctor_above : {N : Channels} {u s t c : ℕ} {E ls : List ℕ} {h i : List Cell} {es : Exprs} {fs : Constructor} →
          RunsAll P cap N u s E h es ls i → look (constructors_of P t) c ≡ some fs → FieldAbove i fs ls → Meets N u s E h (econ t c es) value_too_large
      m_ctor_size : {N : Channels} {u s t c : ℕ} {E ls ks : List ℕ} {h i : List Cell} {es : Exprs} {fs : Constructor} →
          RunsAll P cap N u s E h es ls i → look (constructors_of P t) c ≡ some fs → FieldSizes i fs ls ks → size_most ≤ sum ks → Meets N u s E h (econ t c es) value_too_large
      m_ctor_cell : {N : Channels} {u s t c : ℕ} {E ls ks : List ℕ} {h i : List Cell} {es : Exprs} {fs : Constructor} →
          RunsAll P cap N u s E h es ls i → look (constructors_of P t) c ≡ some fs → FieldSizes i fs ls ks → sum ks < size_most → cap ≤ length i → Meets N u s E h (econ t c es) heap_spent
      m_case : {N : Channels} {u s t n : ℕ} {E : List ℕ} {h : List Cell} {e : Expr} {y : ResultType} {bs : Exprs} → Meets N u s E h e n → Meets N u s E h (ecase t e y bs) n
      m_case_slots : {N : Channels} {u s t c j k : ℕ} {E ls : List ℕ} {h i : List Cell} {e b : Expr} {y : ResultType} {bs : Exprs} {fs : Constructor} →
          Runs P cap N u s E h e k i → look i k ≡ some (con t c j ls) → look (constructors_of P t) c ≡ some fs → length ls ≡ length fs → look_expr bs c ≡ some b → s < length fs →
          Meets N u s E h (ecase t e y bs) environment_spent
      m_case_branch : {N : Channels} {u s r t c j k n : ℕ} {E ls : List ℕ} {h i : List Cell} {e b : Expr} {y : ResultType} {bs : Exprs} {fs : Constructor} →
          Runs P cap N u s E h e k i → look i k ≡ some (con t c j ls) → look (constructors_of P t) c ≡ some fs → length ls ≡ length fs → look_expr bs c ≡ some b → s ≡ length fs + r →
          Meets N u r (E ++ ls) i b n → Meets N u s E h (ecase t e y bs) n
      m_adj : {N : Channels} {u s n : ℕ} {E : List ℕ} {h : List Cell} {z : Size} {e : Expr} → Meets N u s E h e n → Meets N u s E h (eadj z e) n
      m_fit : {N : Channels} {u s m n : ℕ} {E : List ℕ} {h : List Cell} {a b d : Expr} → Meets N u s E h a n → Meets N u s E h (efit m a b d) n
      m_fit_slot : {N : Channels} {u s m t c j k : ℕ} {E ls : List ℕ} {h i : List Cell} {a b d : Expr} →
          Runs P cap N u s E h a k i → look i k ≡ some (con t c j ls) → j ≤ m → s < 1 → Meets N u s E h (efit m a b d) environment_spent
      m_fit_success : {N : Channels} {u s r m t c j k n : ℕ} {E ls : List ℕ} {h i : List Cell} {a b d : Expr} →
          Runs P cap N u s E h a k i → look i k ≡ some (con t c j ls) → j ≤ m → s ≡ 1 + r → Meets N u r (E ++ (k ∷ [])) i b n → Meets N u s E h (efit m a b d) n
      m_fit_fail : {N : Channels} {u s m t c j k n : ℕ} {E ls : List ℕ} {h i : List Cell} {a b d : Expr} →
          Runs P cap N u s E h a k i → look i k ≡ some (con t c j ls) → m < j → Meets N u s E i d n → Meets N u s E h (efit m a b d) n

    -- in one of several parts, those before it running
    pub data MeetsIn : Channels → ℕ → ℕ → List ℕ → List Cell → Exprs → ℕ → Type 0 where
      ms_first : {N : Channels} {u s n : ℕ} {E : List ℕ} {h : List Cell} {e : Expr} {es : Exprs} → Meets N u s E h e n → MeetsIn N u s E h (econs e es) n
      ms_later : {N : Channels} {u s l n : ℕ} {E : List ℕ} {h i : List Cell} {e : Expr} {es : Exprs} → Runs P cap N u s E h e l i → MeetsIn N u s E i es n → MeetsIn N u s E h (econs e es) n
