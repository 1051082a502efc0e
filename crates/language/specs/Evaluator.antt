-- The evaluator: figure 4 as a function, with refusals 20 to 23 in the order in which the rules meet them. Document 01, "By
-- place": "a call needs its slots before its arguments and its stack after them; a constructor's size comes before its cell". `06`, `07`
-- by document 02, R-2: where the left side decides, its value is written to a new cell, and the right side is not evaluated.
-- Letters as in the figure: E the environment, s free slots, h the heap, u calls left; cap is the board's cells.
use Rattle.std.specs.Prelude.{ℕ, zero, suc, ◌+◌, ◌-◌, List, [], ◌∷◌, ◌++◌, Bool, true, false, length, get_or, ltb, leb}
use Rattle.std.proofs.Math.Option.{Option, none, some}
use Rattle.std.proofs.Math.ListN.{get_elem? as look}
use Rattle.language.specs.Limits.{size_most}
use Rattle.language.specs.Refusals.{no_refusal, heap_spent, environment_spent, stack_spent, value_too_large}
use Rattle.language.specs.Result.{both, choose}
use Rattle.language.specs.Syntax.{Expr, ebool, eint, evar, enow, elast, elet, eif, eop, ecall, econ, ecase, eadj, efit, Exprs, enil, econs, Function, File, fields_of}
use Rattle.language.specs.Heap.{kbool, kint, Cell, leaf, con, truth, apply_op, decides, cell_at, constant_in, constructor_in, size_in, fields_in, own_sum, fields_within_of}

-- a location and a longer heap, or a refusal
pub data Out : Type 0 where
  value : ℕ → List Cell → Out
  refused : ℕ → Out

pub data Outs : Type 0 where
  values : List ℕ → List Cell → Outs
  refused_all_of : ℕ → Outs

unfoldable pub bind_out : Out → (ℕ → List Cell → Out) → Out
bind_out (value l h) k = k l h
bind_out (refused n) k = refused n

unfoldable pub bind_outs : Outs → (List ℕ → List Cell → Out) → Out
bind_outs (values ls h) k = k ls h
bind_outs (refused_all_of n) k = refused n

unfoldable pub first : Out → (ℕ → List Cell → Outs) → Outs
first (value l h) k = k l h
first (refused n) k = refused_all_of n

unfoldable pub rest : ℕ → Outs → Outs
rest l (values ls h) = values (l ∷ ls) h
rest l (refused_all_of n) = refused_all_of n

-- refused with n unless the test holds
unfoldable pub needs : Bool → ℕ → Out → Out
needs true n o = o
needs false n o = refused n

-- a new cell: 20
unfoldable pub alloc : ℕ → List Cell → Cell → Out
alloc cap h c = needs (ltb (length h) cap) heap_spent (value (length h) (h ++ (c ∷ [])))

-- the cells of the channels: as they stand now (`13`), and before the line (`14`)
pub record Channels : Type 0 where
  pub now : List ℕ
  pub last : List ℕ

abbrev pub no_channels : Channels
no_channels = record { now = []; last = [] }

-- what a call does: function, locations of its arguments, slots left, heap
abbrev pub Body : Type 0
Body = ℕ → List ℕ → ℕ → List Cell → Out

unfoldable pub parameter_count : Option Function → ℕ
parameter_count none = 0
parameter_count (some F) = length F.parameters

abbrev pub arity : File → ℕ → ℕ
arity P f = parameter_count (look P.functions f)

module _ (P : File) (B : Body) (cap : ℕ) (N : Channels) where
  unfoldable mutual
    pub eval : Expr → List ℕ → ℕ → List Cell → Out
    eval (ebool b) E s h = alloc cap h (leaf (kbool b))
    eval (eint n) E s h = alloc cap h (leaf (kint n))
    eval (evar v) E s h = value (get_or E v 0) h
    eval (enow c) E s h = value (get_or N.now c 0) h
    eval (elast c) E s h = value (get_or N.last c 0) h
    eval (elet a b) E s h = bind_out (eval a E s h) (λ l g. needs (ltb 0 s) environment_spent (eval b (E ++ (l ∷ [])) (s - 1) g))
    eval (eif a b d) E s h = bind_out (eval a E s h) (λ l g. let x : Out = eval b E s g in let y : Out = eval d E s g in choose (truth (constant_in (cell_at g l))) x y)
    eval (eop o a b) E s h = bind_out (eval a E s h) (λ l g. let v : Bool = truth (constant_in (cell_at g l)) in
        let x : Out = alloc cap g (leaf (kbool v)) in
        let y : Out = bind_out (eval b E s g) (λ j i. alloc cap i (leaf (apply_op o (constant_in (cell_at i l)) (constant_in (cell_at i j))))) in choose (decides o v) x y)
    eval (ecall f es) E s h = needs (leb (arity P f) s) environment_spent (bind_outs (evals es E (s - arity P f) h) (λ ls g. B f ls (s - arity P f) g))
    eval (econ t c es) E s h = bind_outs (evals es E s h) (λ ls g. let fs = fields_of P t c in
        needs (both (ltb (own_sum g fs ls) size_most) (fields_within_of g fs ls)) value_too_large (alloc cap g (con t c (1 + own_sum g fs ls) ls)))
    eval (ecase t e r bs) E s h = bind_out (eval e E s h) (λ l g. eval_branch bs (constructor_in (cell_at g l)) (fields_in (cell_at g l)) E s g)
    eval (eadj k e) E s h = eval e E s h
    eval (efit k a b d) E s h = bind_out (eval a E s h) (λ l g. let x : Out = needs (ltb 0 s) environment_spent (eval b (E ++ (l ∷ [])) (s - 1) g) in let y : Out = eval d E s g in choose (leb (size_in (cell_at g l)) k) x y)

    pub evals : Exprs → List ℕ → ℕ → List Cell → Outs
    evals enil E s h = values [] h
    evals (econs e es) E s h = first (eval e E s h) (λ l g. rest l (evals es E s g))

    -- the branch of constructor c, with its fields ls: "the m of E-CASE is the chosen branch's field count"
    pub eval_branch : Exprs → ℕ → List ℕ → List ℕ → ℕ → List Cell → Out
    eval_branch enil c ls E s h = refused no_refusal
    eval_branch (econs b bs) zero ls E s h = needs (leb (length ls) s) environment_spent (eval b (E ++ ls) (s - length ls) h)
    eval_branch (econs b bs) (suc c) ls E s h = eval_branch bs c ls E s h

unfoldable pub enter_body : Option Function → (Expr → Out) → Out
enter_body none k = refused no_refusal
enter_body (some F) k = k F.body

-- calls, with u left: 22
unfoldable pub run : File → ℕ → ℕ → Body
run P cap zero f ls s h = refused stack_spent
run P cap (suc u) f ls s h = enter_body (look P.functions f) (λ e. eval P (run P cap u) cap no_channels e ls s h)
