-- An expression that has parts is evaluated in two steps: its operands, one after the other in its own scope, and then what its form
-- makes of their cells. Equal to the definition, form by form. The operands of an operator are its two sides; of `06` and `07`, whose left
-- side may decide, that side alone.
use Rattle.std.specs.Prelude.{ℕ, ◌+◌, ◌-◌, Bool, true, false, ◌≡◌, get_or, ltb, leb}
use mathlib.Core.List.{List, [], ◌∷◌, ◌++◌}
use Rattle.std.proofs.Math.Path.{refl}
use Rattle.std.proofs.Common.{◌∙◌, le-leb}
use native.Mathlib.Omega.{arith}
use Rattle.language.specs.Limits.{size_most}
use Rattle.language.specs.Refusals.{no_refusal, environment_spent, value_too_large}
use Rattle.language.specs.Result.{both, choose}
use Rattle.language.specs.Syntax.{Size, ResultType, Op, oadd, osub, omul, oeq, olt, ole, oand, oor, Expr, ebool, eint, evar, enow, elast, elet, eif, eop, ecall, econ, ecase, eadj, efit, Exprs, enil, econs, File, fields_of}
use Rattle.language.specs.Format.{op_code}
use Rattle.language.specs.Heap.{kbool, Cell, leaf, con, truth, apply_op, decides, cell_at, constant_in, constructor_in, size_in, fields_in, own_sum, fields_within_of}
use Rattle.language.specs.Evaluator.{Out, value, refused, values, bind_out, bind_outs, first, rest, needs, alloc, Channels, Body, arity, eval, evals, eval_branch}
use Rattle.evaluation_steps.specs.Forms.{may_decide}

-- the parts that are evaluated first, and the slots that wait for them
unfoldable pub the_operands_of : Expr → Exprs
the_operands_of (ebool b) = enil
the_operands_of (eint n) = enil
the_operands_of (evar v) = enil
the_operands_of (enow c) = enil
the_operands_of (elast c) = enil
the_operands_of (elet a b) = econs a enil
the_operands_of (eif a b d) = econs a enil
the_operands_of (eop o a b) = choose (may_decide (op_code o)) (econs a enil) (econs a (econs b enil))
the_operands_of (ecall f es) = es
the_operands_of (econ t c es) = es
the_operands_of (ecase t e r bs) = econs e enil
the_operands_of (eadj k e) = econs e enil
the_operands_of (efit k a b d) = econs a enil

unfoldable pub reserved_for : File → Expr → ℕ
reserved_for P (ebool b) = 0
reserved_for P (eint n) = 0
reserved_for P (evar v) = 0
reserved_for P (enow c) = 0
reserved_for P (elast c) = 0
reserved_for P (elet a b) = 0
reserved_for P (eif a b d) = 0
reserved_for P (eop o a b) = 0
reserved_for P (ecall f es) = arity P f
reserved_for P (econ t c es) = 0
reserved_for P (ecase t e r bs) = 0
reserved_for P (eadj k e) = 0
reserved_for P (efit k a b d) = 0

-- ---- tests that hold, or not
pub choose-first : {A : Type 0} {o : A} (b : Bool) (x y : A) → o ≡ choose b x y → b ≡ true → o ≡ x
unfolding choose
choose-first b x y q e = rw e at q

pub choose-second : {A : Type 0} {o : A} (b : Bool) (x y : A) → o ≡ choose b x y → b ≡ false → o ≡ y
unfolding choose
choose-second b x y q e = rw e at q

pub needs-met : {p : Out} (b : Bool) (n : ℕ) (o : Out) → p ≡ needs b n o → b ≡ true → p ≡ o
unfolding needs
needs-met b n o q e = rw e at q

pub needs-unmet : {p : Out} (b : Bool) (n : ℕ) (o : Out) → p ≡ needs b n o → b ≡ false → p ≡ refused n
unfolding needs
needs-unmet b n o q e = rw e at q

-- an expression that has parts
pub data Compound : Expr → Type 0 where
  c_let : {a b : Expr} → Compound (elet a b)
  c_if : {a b d : Expr} → Compound (eif a b d)
  c_op : {o : Op} {a b : Expr} → Compound (eop o a b)
  c_call : {f : ℕ} {es : Exprs} → Compound (ecall f es)
  c_con : {t c : ℕ} {es : Exprs} → Compound (econ t c es)
  c_case : {t : ℕ} {e : Expr} {r : ResultType} {bs : Exprs} → Compound (ecase t e r bs)
  c_adj : {k : Size} {e : Expr} → Compound (eadj k e)
  c_fit : {k : ℕ} {a b d : Expr} → Compound (efit k a b d)

module _ (P : File) (B : Body) (cells : ℕ) (N : Channels) where
  -- what an operator makes of its left side's cell l, where the right side is evaluated only if that does not decide
  unfoldable pub right_side : Op → Expr → List ℕ → ℕ → ℕ → List Cell → Out
  right_side o b E s l h =
      choose (decides o (truth (constant_in (cell_at h l)))) (alloc cells h (leaf (kbool (truth (constant_in (cell_at h l))))))
      (bind_out (eval P B cells N b E s h) (λ j i. alloc cells i (leaf (apply_op o (constant_in (cell_at i l)) (constant_in (cell_at i j))))))

  -- what the form makes of the operands' cells ls
  unfoldable pub finished : Expr → List ℕ → ℕ → List ℕ → List Cell → Out
  finished (ebool b) E s ls h = refused no_refusal
  finished (eint n) E s ls h = refused no_refusal
  finished (evar v) E s ls h = refused no_refusal
  finished (enow c) E s ls h = refused no_refusal
  finished (elast c) E s ls h = refused no_refusal
  finished (elet a b) E s ls h = needs (ltb 0 s) environment_spent (eval P B cells N b (E ++ (get_or ls 0 0 ∷ [])) (s - 1) h)
  finished (eif a b d) E s ls h = choose (truth (constant_in (cell_at h (get_or ls 0 0)))) (eval P B cells N b E s h) (eval P B cells N d E s h)
  finished (eop o a b) E s ls h =
      choose (may_decide (op_code o)) (right_side o b E s (get_or ls 0 0) h) (alloc cells h (leaf (apply_op o (constant_in (cell_at h (get_or ls 0 0))) (constant_in (cell_at h (get_or ls 1 0))))))
  finished (ecall f es) E s ls h = B f ls (s - arity P f) h
  finished (econ t c es) E s ls h = needs (both (ltb (own_sum h (fields_of P t c) ls) size_most) (fields_within_of h (fields_of P t c) ls)) value_too_large (alloc cells h (con t c (1 + own_sum h (fields_of P t c) ls) ls))
  finished (ecase t e r bs) E s ls h = eval_branch P B cells N bs (constructor_in (cell_at h (get_or ls 0 0))) (fields_in (cell_at h (get_or ls 0 0))) E s h
  finished (eadj k e) E s ls h = value (get_or ls 0 0) h
  finished (efit k a b d) E s ls h =
      choose (leb (size_in (cell_at h (get_or ls 0 0))) k) (needs (ltb 0 s) environment_spent (eval P B cells N b (E ++ (get_or ls 0 0 ∷ [])) (s - 1) h)) (eval P B cells N d E s h)

  -- ---- one operand, and two
  one-operand : (x : Out) (k : List ℕ → List Cell → Out) → bind_out x (λ l g. k (l ∷ []) g) ≡ bind_outs (first x (λ l g. rest l (values [] g))) k
  unfolding bind_out bind_outs first rest
  one-operand (value l g) k = refl
  one-operand (refused n) k = refl

  two_operands : (x : Out) (y : List Cell → Out) (k : List ℕ → List Cell → Out) →
      bind_out x (λ l g. bind_out (y g) (λ j i. k (l ∷ j ∷ []) i)) ≡ bind_outs (first x (λ l g. rest l (first (y g) (λ j i. rest j (values [] i))))) k
  unfolding bind_out bind_outs first rest
  two_operands (refused n) y k = refl
  two_operands (value l g) y k = go (y g)
    where
      go : (z : Out) → bind_out z (λ j i. k (l ∷ j ∷ []) i) ≡ bind_outs (rest l (first z (λ j i. rest j (values [] i)))) k
      go (value j i) = refl
      go (refused n) = refl

  given : (x : Out) → x ≡ bind_out x (λ l g. value l g)
  unfolding bind_out
  given (value l g) = refl
  given (refused n) = refl

  -- nothing is reserved
  free : (s : ℕ) (o : Out) → o ≡ needs (leb 0 s) environment_spent o
  unfolding needs
  free s o = rw (le-leb 0 s (omega arith))

  module _ (E : List ℕ) (s : ℕ) (h : List Cell) where
    one-first : (a : Expr) (o : Out) (k : List ℕ → List Cell → Out) → o ≡ bind_out (eval P B cells N a E s h) (λ l g. k (l ∷ []) g) →
        o ≡ needs (leb 0 s) environment_spent (bind_outs (evals P B cells N (econs a enil) E (s - 0) h) k)
    unfolding evals
    one-first a o k e = let all : s - 0 ≡ s = omega arith in rw all (e ∙ one-operand (eval P B cells N a E s h) k ∙ free s _)

    two-first : (a b : Expr) (o : Out) (k : List ℕ → List Cell → Out) → o ≡ bind_out (eval P B cells N a E s h) (λ l g. bind_out (eval P B cells N b E s g) (λ j i. k (l ∷ j ∷ []) i)) →
        o ≡ needs (leb 0 s) environment_spent (bind_outs (evals P B cells N (econs a (econs b enil)) E (s - 0) h) k)
    unfolding evals
    two-first a b o k e = let all : s - 0 ≡ s = omega arith in rw all (e ∙ two_operands (eval P B cells N a E s h) (λ g. eval P B cells N b E s g) k ∙ free s _)

    -- an expression with operands is evaluated in two steps
    pub operands-first : (e : Expr) → Compound e → eval P B cells N e E s h ≡ needs (leb (reserved_for P e) s) environment_spent (bind_outs (evals P B cells N (the_operands_of e) E (s - reserved_for P e) h) (λ ls g. finished e E s ls g))
    unfolding eval the_operands_of reserved_for finished right_side decides choose
    operands-first (elet a b) c_let = one-first a _ _ refl
    operands-first (eif a b d) c_if = one-first a _ _ refl
    operands-first (eop oadd a b) c_op = two-first a b _ _ refl
    operands-first (eop osub a b) c_op = two-first a b _ _ refl
    operands-first (eop omul a b) c_op = two-first a b _ _ refl
    operands-first (eop oeq a b) c_op = two-first a b _ _ refl
    operands-first (eop olt a b) c_op = two-first a b _ _ refl
    operands-first (eop ole a b) c_op = two-first a b _ _ refl
    operands-first (eop oand a b) c_op = one-first a _ _ refl
    operands-first (eop oor a b) c_op = one-first a _ _ refl
    operands-first (ecall f es) c_call = refl
    operands-first (econ t c es) c_con = let all : s - 0 ≡ s = omega arith in rw all (free s _)
    operands-first (ecase t e r bs) c_case = one-first e _ _ refl
    operands-first (eadj k e) c_adj = one-first e _ _ (given (eval P B cells N e E s h))
    operands-first (efit k a b d) c_fit = one-first a _ _ refl
    operands-first (ebool _) x'' = elim x'' [ ]
    operands-first (eint _) x3 = elim x3 [ ]
    operands-first (evar _) x4 = elim x4 [ ]
    operands-first (enow _) x5 = elim x5 [ ]
    operands-first (elast _) x6 = elim x6 [ ]
