-- The evaluator agrees with the evaluation rules. For a file and an expression of right plain types it gives a value just when the rules
-- derive that value, which is of the expression's type; else it refuses with the one of 20 to 23 that the rules meet, and they derive none.
use Rattle.std.specs.Prelude.{ℕ, zero, suc, ◌+◌, ◌-◌, ◌<◌, Bool, ◌↔◌, ◌≡◌, ltb, leb}
use mathlib.Core.List.{List, [], ◌∷◌, ◌++◌}
use Rattle.std.proofs.Math.Bool.{true, false}
use Rattle.std.proofs.Math.Option.{some}
use Rattle.std.proofs.Math.Path.{refl, ap}
use Rattle.std.proofs.Common.{◌∙◌, subst, arith}
use Rattle.std.proofs.Math.ListN.{length, get_elem? as look}
use borrow.Author.Tests.{ltb-true, ltb-false, leb-true, leb-false}
use Rattle.language.specs.Limits.{size_most}
use Rattle.language.specs.Refusals.{environment_spent, stack_spent, value_too_large}
use Rattle.language.specs.Result.{both}
use Rattle.language.specs.Syntax.{Constructor, Plain, pbool, pint, pnamed, Size, ResultType, Op, Expr, ebool, eint, evar, enow, elast, elet, eif, eop, ecall, econ, ecase, eadj, efit, Exprs, enil, econs, look_expr, Function, File, constructors_of}
use Rattle.language.specs.PlainTypes.{plain_fields, plain_result, operand_type, op_type}
use Rattle.language.specs.Heap.{kbool, kint, Cell, con, constant_type, truth, decides, cell_at, constant_in, size_in, fields_in, own_sum, fields_within_of}
use Rattle.language.specs.Evaluator.{Out, value, refused, Channels, no_channels, eval, evals, eval_branch, enter_body, run}
use Rattle.language.specs.Rules.{Runs, RunsAll, e_bool, e_int, e_var, e_node, e_atlast, e_let, e_if_then, e_if_else, e_op, e_op_decided, e_call, e_ctor, e_case, e_adj, e_fit_success, e_fit_fail, es_nil, es_cons}
use Rattle.language.specs.Meets.{Meets, MeetsIn, m_bool, m_int, m_let_bound, m_let_slot, m_let_body, m_if, m_if_then, m_if_else, m_op_left, m_op_decided, m_op_right, m_op_cell, m_call_slots, m_call_argument, m_call_stack, m_call_body, m_ctor_field, m_ctor_above, m_ctor_size, m_ctor_cell, m_case, m_case_slots, m_case_branch, m_adj, m_fit, m_fit_slot, m_fit_success, m_fit_fail, ms_first, ms_later}
use Rattle.theory.specs.Lists.{look-get_d, none-is-not-some, both_left, both_right, both_first}
use Rattle.theory.specs.Decided.{decided-operand, decided-result}
use Rattle.theory.specs.RulesGive.{arity-is, runs-eval, runs-not-refused}
use Rattle.theory.specs.MeetsGive.{meets-eval, RunRefusal, meets-numbered}
use Rattle.language.specs.PlainTyping.{PlainTyping, p_bool, p_int, p_var, p_node, p_atlast, p_let, p_if, p_op, p_call, p_ctor, p_case, p_adj, p_fit, PlainTypings, ps_nil, ps_cons, PlainBranches, p_none, p_branch, WellPlain}
use Rattle.theory.specs.Heaps.{cell-at, Grown, look-grown, grown-refl, grown-one, grown-trans}
use Rattle.theory.specs.PlainValues.{PlainValue, PlainValues, vs_nil, vs_cons, value-grown, values-look, PlainScope, scope-grown, scope-append, scope-one, scope-body, bool-cell, operand-cell, values_length, con-cell, con-length, sizes-at, field-above, new-leaf, new-result, new-con}
use Rattle.theory.specs.Fates.{Fate, f_value, f_refused, Fates, fs_values, fate-value, fate-refused, fate-map, bind-fate, binds-fate, rest-fates, first-fates, needs-fate, slots-fate, choose-fate, alloc-fate}

-- ---- a value l in the heap g that the rules derive, of the type expected
pub record Ran (P : File) (cap : ℕ) (N : Channels) (u s : ℕ) (E : List ℕ) (h : List Cell) (e : Expr) (τ : Plain) (l : ℕ) (g : List Cell) : Type 0 where
  pub runs : Runs P cap N u s E h e l g
  pub grown : Grown h g
  pub has : PlainValue P g l τ

pub record RanAll (P : File) (cap : ℕ) (N : Channels) (u s : ℕ) (E : List ℕ) (h : List Cell) (es : Exprs) (τs : List Plain) (ls : List ℕ) (g : List Cell) : Type 0 where
  pub runs : RunsAll P cap N u s E h es ls g
  pub grown : Grown h g
  pub has : PlainValues P g ls τs

-- the branch of constructor c, with its fields ls
record RanBranch (P : File) (cap : ℕ) (N : Channels) (u s : ℕ) (E ls : List ℕ) (h : List Cell) (bs : Exprs) (c : ℕ) (τ : Plain) (l : ℕ) (g : List Cell) : Type 0 where
  branch : Expr
  is : look_expr bs c ≡ some branch
  room : s ≡ length ls + (s - length ls)
  ran : Ran P cap N u (s - length ls) (E ++ ls) h branch τ l g

-- a called body, with the arguments ls
record RanBody (P : File) (cap u s : ℕ) (F : Function) (ls : List ℕ) (h : List Cell) (l : ℕ) (g : List Cell) : Type 0 where
  left : ℕ
  is : u ≡ 1 + left
  ran : Ran P cap no_channels left s ls h F.body (plain_result F.result) l g

-- and where they are refused
data MeetsBranch (P : File) (cap : ℕ) (N : Channels) (u s : ℕ) (E ls : List ℕ) (h : List Cell) (bs : Exprs) (c : ℕ) : ℕ → Type 0 where
  branch_slots : {b : Expr} → look_expr bs c ≡ some b → s < length ls → MeetsBranch P cap N u s E ls h bs c environment_spent
  branch_meets : {b : Expr} {n : ℕ} → look_expr bs c ≡ some b → s ≡ length ls + (s - length ls) → Meets P cap N u (s - length ls) (E ++ ls) h b n → MeetsBranch P cap N u s E ls h bs c n

data MeetsBody (P : File) (cap u s : ℕ) (F : Function) (ls : List ℕ) (h : List Cell) : ℕ → Type 0 where
  body_stack : u < 1 → MeetsBody P cap u s F ls h stack_spent
  body_meets : {v n : ℕ} → u ≡ 1 + v → Meets P cap no_channels v s ls h F.body n → MeetsBody P cap u s F ls h n

-- the value of the part that runs last is the value of the whole
module _ {P : File} {cap : ℕ} {N M : Channels} {u v s r : ℕ} {E D : List ℕ} {h i : List Cell} {e b : Expr} {τ : Plain} (w : Grown h i) where
  ran-last : {l : ℕ} {g : List Cell} → Ran P cap M v r D i b τ l g → Runs P cap N u s E h e l g → Ran P cap N u s E h e τ l g
  ran-last y runs = record { runs = runs; grown = grown-trans w y.grown; has = y.has }

  last-fate : {o : Out} → Fate (Ran P cap M v r D i b τ) (Meets P cap M v r D i b) o → ((l : ℕ) (g : List Cell) → Runs P cap M v r D i b l g → Runs P cap N u s E h e l g) →
      ((n : ℕ) → Meets P cap M v r D i b n → Meets P cap N u s E h e n) → Fate (Ran P cap N u s E h e τ) (Meets P cap N u s E h e) o
  last-fate x rule meets = fate-map meets (λ l g y. ran-last y (rule l g y.runs)) x

-- ---- what is shown of an expression, of expressions, of branches, of calls, with u calls left
record Agrees (P : File) (cap : ℕ) (N : Channels) (C : List Plain) (u : ℕ) (Γ : List Plain) (e : Expr) (τ : Plain) : Type 0 where
  fate : (E : List ℕ) (s : ℕ) (h : List Cell) → PlainScope P N C h E Γ → Fate (Ran P cap N u s E h e τ) (Meets P cap N u s E h e) (eval P (run P cap u) cap N e E s h)

record AgreeAll (P : File) (cap : ℕ) (N : Channels) (C : List Plain) (u : ℕ) (Γ : List Plain) (es : Exprs) (τs : List Plain) : Type 0 where
  fates : (E : List ℕ) (s : ℕ) (h : List Cell) → PlainScope P N C h E Γ → Fates (RanAll P cap N u s E h es τs) (MeetsIn P cap N u s E h es) (evals P (run P cap u) cap N es E s h)

record AgreeBranches (P : File) (cap : ℕ) (N : Channels) (C : List Plain) (u : ℕ) (Γ : List Plain) (t : ℕ) (cs : List Constructor) (bs : Exprs) (τ : Plain) : Type 0 where
  fate : (c : ℕ) (fs : Constructor) → look cs c ≡ some fs → (ls E : List ℕ) (s : ℕ) (h : List Cell) → PlainValues P h ls (plain_fields t fs) → PlainScope P N C h E Γ →
      Fate (RanBranch P cap N u s E ls h bs c τ) (MeetsBranch P cap N u s E ls h bs c) (eval_branch P (run P cap u) cap N bs c ls E s h)

record AgreeCalls (P : File) (cap u : ℕ) : Type 0 where
  fate : (f : ℕ) (F : Function) → look P.functions f ≡ some F → (ls : List ℕ) (s : ℕ) (h : List Cell) → PlainValues P h ls F.parameters →
      Fate (RanBody P cap u s F ls h) (MeetsBody P cap u s F ls h) (run P cap u f ls s h)

-- ---- a call, a constructor and a case that are refused
module _ {P : File} {cap : ℕ} {N : Channels} {u : ℕ} where
  called : {f s r n : ℕ} {E ls : List ℕ} {h i : List Cell} {es : Exprs} {F : Function} → look P.functions f ≡ some F → s ≡ length F.parameters + r → RunsAll P cap N u r E h es ls i →
      length ls ≡ length F.parameters → MeetsBody P cap u r F ls i n → Meets P cap N u s E h (ecall f es) n
  called e z x long (body_stack none) = m_call_stack e z x none
  called e z x long (body_meets w m) = m_call_body e z x long w m

  too_large : {t c s : ℕ} {E ls : List ℕ} {h i : List Cell} {es : Exprs} {fs : Constructor} → RunsAll P cap N u s E h es ls i → look (constructors_of P t) c ≡ some fs →
      PlainValues P i ls (plain_fields t fs) → both (ltb (own_sum i fs ls) size_most) (fields_within_of i fs ls) ≡ false → Meets P cap N u s E h (econ t c es) value_too_large
  too_large {t} {c} {s} {E} {ls} {h} {i} {es} {fs} x e vs b = by-fields (fields_within_of i fs ls) refl
    where
      by-fields : (w : Bool) → fields_within_of i fs ls ≡ w → Meets P cap N u s E h (econ t c es) value_too_large
      by-fields false w = m_ctor_above x e (field-above t fs vs w)
      by-fields true w = let z = sizes-at t fs vs w in m_ctor_size x e z.are (rw z.total at (ltb-false (own_sum i fs ls) size_most (both_first b w)))

  chosen : {t c j k s n : ℕ} {E ls : List ℕ} {h i : List Cell} {e : Expr} {r : ResultType} {bs : Exprs} {fs : Constructor} → Runs P cap N u s E h e k i → look i k ≡ some (con t c j ls) →
      look (constructors_of P t) c ≡ some fs → length ls ≡ length fs → MeetsBranch P cap N u s E ls i bs c n → Meets P cap N u s E h (ecase t e r bs) n
  chosen x is known long (branch_slots b few) = m_case_slots x is known long b (omega arith)
  chosen {s} {ls} x is known long (branch_meets b z m) = m_case_branch x is known long b (z ∙ ap (λ n. n + (s - length ls)) long) m

-- ---- rule by rule
module _ {P : File} {cap : ℕ} {N : Channels} {C : List Plain} {u : ℕ} {Γ : List Plain} where
  bool-agrees : {b : Bool} → Agrees P cap N C u Γ (ebool b) pbool
  unfolding eval constant_type
  bool-agrees {b} = record { fate = λ E s h S. alloc-fate cap h _ m_bool (λ w. record { runs = e_bool w; grown = grown-one h _; has = new-leaf h (kbool b) }) }

  int-agrees : {n : ℕ} → Agrees P cap N C u Γ (eint n) pint
  unfolding eval constant_type
  int-agrees {n} = record { fate = λ E s h S. alloc-fate cap h _ m_int (λ w. record { runs = e_int w; grown = grown-one h _; has = new-leaf h (kint n) }) }

  var-agrees : (v : ℕ) {τ : Plain} → look Γ v ≡ some τ → Agrees P cap N C u Γ (evar v) τ
  unfolding eval
  var-agrees v e = record { fate = λ E s h S. let x = values-look S.variables v e in f_value (record { runs = e_var x.at; grown = grown-refl h; has = x.has }) }

  node-agrees : (c : ℕ) {τ : Plain} → look C c ≡ some τ → Agrees P cap N C u Γ (enow c) τ
  unfolding eval
  node-agrees c e = record { fate = λ E s h S. let x = values-look S.now c e in f_value (record { runs = e_node x.at; grown = grown-refl h; has = x.has }) }

  atlast-agrees : (c : ℕ) {τ : Plain} → look C c ≡ some τ → Agrees P cap N C u Γ (elast c) τ
  unfolding eval
  atlast-agrees c e = record { fate = λ E s h S. let x = values-look S.last c e in f_value (record { runs = e_atlast x.at; grown = grown-refl h; has = x.has }) }

  let-agrees : {a b : Expr} {σ τ : Plain} → Agrees P cap N C u Γ a σ → Agrees P cap N C u (Γ ++ (σ ∷ [])) b τ → Agrees P cap N C u Γ (elet a b) τ
  unfolding eval
  let-agrees p q = record {
    fate = λ E s h S. bind-fate (λ n. m_let_bound) (p.fate E s h S) (λ k i x. slots-fate 1 s (m_let_slot x.runs) (λ z.
        last-fate x.grown (q.fate (E ++ (k ∷ [])) (s - 1) i (scope-one x.grown S x.has)) (λ l g. e_let x.runs z) (λ n. m_let_body x.runs z)));
  }

  if-agrees : {a b d : Expr} {τ : Plain} → Agrees P cap N C u Γ a pbool → Agrees P cap N C u Γ b τ → Agrees P cap N C u Γ d τ → Agrees P cap N C u Γ (eif a b d) τ
  unfolding eval
  if-agrees p q r = record {
    fate = λ E s h S. bind-fate (λ n. m_if) (p.fate E s h S) (λ k i x. choose-fate (truth (constant_in (cell_at i k)))
        (λ t. let is = bool-cell true x.has t in last-fate x.grown (q.fate E s i (scope-grown x.grown S)) (λ l g. e_if_then x.runs is) (λ n. m_if_then x.runs is))
        (λ t. let is = bool-cell false x.has t in last-fate x.grown (r.fate E s i (scope-grown x.grown S)) (λ l g. e_if_else x.runs is) (λ n. m_if_else x.runs is)));
  }

  op-agrees : {o : Op} {a b : Expr} → Agrees P cap N C u Γ a (operand_type o) → Agrees P cap N C u Γ b (operand_type o) → Agrees P cap N C u Γ (eop o a b) (op_type o)
  unfolding eval constant_type constant_in
  op-agrees {o} p q = record {
    fate = λ E s h S. bind-fate (λ n. m_op_left) (p.fate E s h S) (λ j i x. choose-fate (decides o (truth (constant_in (cell_at i j))))
        (λ z. let is = bool-cell _ (subst (PlainValue P i j) (decided-operand o _ z) x.has) refl in alloc-fate cap i _ (m_op_decided x.runs is z) (λ w. record {
          runs = e_op_decided x.runs is z w;
          grown = grown-trans x.grown (grown-one i _);
          has = rw (decided-result o _ z) (new-leaf i _);
        }))
        (λ z. let a = operand-cell o x.has in bind-fate (λ n. m_op_right x.runs a.is z) (q.fate E s i (scope-grown x.grown S)) (λ k f y.
        let still = look-grown y.grown j a.is in let b = operand-cell o y.has in rw (cell-at f j still) (alloc-fate cap f _ (m_op_cell x.runs a.is z y.runs) (λ w. record {
          runs = e_op x.runs a.is z y.runs still b.is a.typed b.typed w;
          grown = grown-trans x.grown (grown-trans y.grown (grown-one f _));
          has = new-result f o _ _;
        })))));
  }

  call-agrees : (f : ℕ) {es : Exprs} {F : Function} → AgreeCalls P cap u → look P.functions f ≡ some F → AgreeAll P cap N C u Γ es F.parameters → Agrees P cap N C u Γ (ecall f es) (plain_result F.result)
  unfolding eval
  call-agrees f {F} calls e ps = record {
    fate = λ E s h S. rw (arity-is P f e) (slots-fate (length F.parameters) s (m_call_slots e) (λ z. binds-fate (λ n. m_call_argument e z) (ps.fates E (s - length F.parameters) h S) (λ ls i x.
        fate-map (λ n. called e z x.runs (values_length x.has)) (λ l g y. ran-last x.grown y.ran (e_call e z x.runs (values_length x.has) y.is y.ran.runs)) (calls.fate f F e ls (s - length F.parameters) i x.has))));
  }

  ctor-agrees : (t c : ℕ) {es : Exprs} {fs : Constructor} → look (constructors_of P t) c ≡ some fs → AgreeAll P cap N C u Γ es (plain_fields t fs) → Agrees P cap N C u Γ (econ t c es) (pnamed t)
  unfolding eval
  ctor-agrees t c {fs} e ps = record {
    fate = λ E s h S. binds-fate (λ n. m_ctor_field) (ps.fates E s h S) (λ ls i x. rw (look-get_d (constructors_of P t) c [] e)
        (needs-fate (both (ltb (own_sum i fs ls) size_most) (fields_within_of i fs ls)) value_too_large (λ b. too_large x.runs e x.has b) (λ b.
        let z = sizes-at t fs x.has (both_right _ _ b) in let less = rw z.total at (ltb-true (own_sum i fs ls) size_most (both_left _ _ b)) in
        rw z.total (alloc-fate cap i _ (m_ctor_cell x.runs e z.are less) (λ w. record {
          runs = e_ctor x.runs e z.are less w;
          grown = grown-trans x.grown (grown-one i _);
          has = new-con t c _ e x.has;
        })))));
  }

  case-agrees : {t : ℕ} {e : Expr} {r : ResultType} {bs : Exprs} {τ : Plain} → Agrees P cap N C u Γ e (pnamed t) → AgreeBranches P cap N C u Γ t (constructors_of P t) bs τ → Agrees P cap N C u Γ (ecase t e r bs) τ
  unfolding eval
  case-agrees p bs = record {
    fate = λ E s h S. bind-fate (λ n. m_case) (p.fate E s h S) (λ k i x. let v = con-cell x.has in
        fate-map (λ n. chosen x.runs v.is v.known (con-length v)) (λ l g y. ran-last x.grown y.ran (e_case x.runs v.is v.known (con-length v) y.is (y.room ∙ ap (λ n. n + (s - length (fields_in (cell_at i k)))) (con-length v)) y.ran.runs))
        (bs.fate _ v.fields v.known _ E s i v.parts (scope-grown x.grown S)));
  }

  adj-agrees : {k : Size} {e : Expr} {τ : Plain} → Agrees P cap N C u Γ e τ → Agrees P cap N C u Γ (eadj k e) τ
  unfolding eval
  adj-agrees p = record { fate = λ E s h S. last-fate (grown-refl h) (p.fate E s h S) (λ l g. e_adj) (λ n. m_adj) }

  fit-agrees : (m : ℕ) {t : ℕ} {a b d : Expr} {τ : Plain} → Agrees P cap N C u Γ a (pnamed t) → Agrees P cap N C u (Γ ++ (pnamed t ∷ [])) b τ → Agrees P cap N C u Γ d τ → Agrees P cap N C u Γ (efit m a b d) τ
  unfolding eval
  fit-agrees m p q r = record {
    fate = λ E s h S. bind-fate (λ n. m_fit) (p.fate E s h S) (λ k i x. let v = con-cell x.has in choose-fate (leb (size_in (cell_at i k)) m)
        (λ t. let small = leb-true (size_in (cell_at i k)) m t in slots-fate 1 s (m_fit_slot x.runs v.is small) (λ z.
        last-fate x.grown (q.fate (E ++ (k ∷ [])) (s - 1) i (scope-one x.grown S x.has)) (λ l g. e_fit_success x.runs v.is small z) (λ n. m_fit_success x.runs v.is small z)))
        (λ t. let large = leb-false (size_in (cell_at i k)) m t in
        last-fate x.grown (r.fate E s i (scope-grown x.grown S)) (λ l g. e_fit_fail x.runs v.is large) (λ n. m_fit_fail x.runs v.is large)));
  }

  nil-agrees : AgreeAll P cap N C u Γ enil []
  unfolding eval
  nil-agrees = record { fates = λ E s h S. fs_values (record { runs = es_nil; grown = grown-refl h; has = vs_nil }) }

  cons-agrees : {e : Expr} {es : Exprs} {τ : Plain} {τs : List Plain} → Agrees P cap N C u Γ e τ → AgreeAll P cap N C u Γ es τs → AgreeAll P cap N C u Γ (econs e es) (τ ∷ τs)
  unfolding eval
  cons-agrees p ps = record {
    fates = λ E s h S. first-fates (λ n. ms_first) (p.fate E s h S) (λ l i x. rest-fates (λ n. ms_later x.runs) l (λ ls g y. record {
      runs = es_cons x.runs y.runs;
      grown = grown-trans x.grown y.grown;
      has = vs_cons (value-grown y.grown x.has) y.has;
    }) (ps.fates E s i (scope-grown x.grown S)));
  }

  none-agree : {t : ℕ} {τ : Plain} → AgreeBranches P cap N C u Γ t [] enil τ
  none-agree = record { fate = λ c fs e ls E s h vs S. none-is-not-some e }

  branch-agrees : {t : ℕ} {fs : Constructor} {cs : List Constructor} {b : Expr} {bs : Exprs} {τ : Plain} →
      Agrees P cap N C u (Γ ++ plain_fields t fs) b τ → AgreeBranches P cap N C u Γ t cs bs τ → AgreeBranches P cap N C u Γ t (fs ∷ cs) (econs b bs) τ
  unfolding eval look_expr
  branch-agrees {t} {fs} {cs} {b} {bs} {τ} p ps = record { fate = choice }
    where
      later : {c s n : ℕ} {E ls : List ℕ} {h : List Cell} → MeetsBranch P cap N u s E ls h bs c n → MeetsBranch P cap N u s E ls h (econs b bs) (suc c) n
      later (branch_slots is few) = branch_slots is few
      later (branch_meets is z m) = branch_meets is z m

      choice : (c : ℕ) (gs : Constructor) → look (fs ∷ cs) c ≡ some gs → (ls E : List ℕ) (s : ℕ) (h : List Cell) → PlainValues P h ls (plain_fields t gs) → PlainScope P N C h E Γ →
          Fate (RanBranch P cap N u s E ls h (econs b bs) c τ) (MeetsBranch P cap N u s E ls h (econs b bs) c) (eval_branch P (run P cap u) cap N (econs b bs) c ls E s h)
      choice zero gs e ls E s h vs S = slots-fate (length ls) s (branch_slots refl) (λ z. fate-map (λ n. branch_meets refl z) (λ l g y. record { branch = b; is = refl; room = z; ran = y })
          (p.fate (E ++ ls) (s - length ls) h (scope-append S (let q : gs ≡ fs = cc in subst (λ x. PlainValues P h ls (plain_fields t x)) q vs))))
      choice (suc c) gs e ls E s h vs S = fate-map (λ n. later) (λ l g y. record { branch = y.branch; is = y.is; room = y.room; ran = y.ran }) (ps.fate c gs e ls E s h vs S)

-- ---- all expressions, and calls at every depth
module _ (P : File) (cap : ℕ) (N : Channels) (C : List Plain) (u : ℕ) (calls : AgreeCalls P cap u) where
  mutual
    typed-agrees : {Γ : List Plain} {e : Expr} {τ : Plain} → PlainTyping P C Γ e τ → Agrees P cap N C u Γ e τ
    typed-agrees p_bool = bool-agrees
    typed-agrees p_int = int-agrees
    typed-agrees (p_var {v} e) = var-agrees v e
    typed-agrees (p_node {c} e) = node-agrees c e
    typed-agrees (p_atlast {c} e) = atlast-agrees c e
    typed-agrees (p_let p q) = let-agrees (typed-agrees p) (typed-agrees q)
    typed-agrees (p_if p q r) = if-agrees (typed-agrees p) (typed-agrees q) (typed-agrees r)
    typed-agrees (p_op p q z) = rw z (op-agrees (typed-agrees p) (typed-agrees q))
    typed-agrees (p_call {f} e ps z) = rw z (call-agrees f calls e (all-agree ps))
    typed-agrees (p_ctor {t} {c} e ps) = ctor-agrees t c e (all-agree ps)
    typed-agrees (p_case p bs z) = case-agrees (typed-agrees p) (branches-agree bs)
    typed-agrees (p_adj p) = adj-agrees (typed-agrees p)
    typed-agrees (p_fit {k} p q r) = fit-agrees k (typed-agrees p) (typed-agrees q) (typed-agrees r)

    all-agree : {Γ : List Plain} {es : Exprs} {τs : List Plain} → PlainTypings P C Γ es τs → AgreeAll P cap N C u Γ es τs
    all-agree ps_nil = nil-agrees
    all-agree (ps_cons p ps) = cons-agrees (typed-agrees p) (all-agree ps)

    branches-agree : {Γ : List Plain} {t : ℕ} {cs : List Constructor} {bs : Exprs} {τ : Plain} → PlainBranches P C Γ t cs bs τ → AgreeBranches P cap N C u Γ t cs bs τ
    branches-agree p_none = none-agree
    branches-agree (p_branch p bs) = branch-agrees (typed-agrees p) (branches-agree bs)

calls-agree : (P : File) (cap : ℕ) → WellPlain P → (u : ℕ) → AgreeCalls P cap u
unfolding run enter_body
calls-agree P cap W zero = record { fate = λ f F e ls s h vs. f_refused (body_stack (omega arith)) }
calls-agree P cap W (suc u) = record {
  fate = λ f F e ls s h vs. rw e
      (fate-map (λ n. body_meets (omega arith)) (λ l g y. record { left = u; is = omega arith; ran = y }) ((typed-agrees P cap no_channels [] u (calls-agree P cap W u) (W.bodies f F e)).fate ls s h (scope-body vs)));
}

-- ---- the theorems, for a file and an expression of right plain types, an environment and channels of those types
module _ {P : File} {C Γ : List Plain} {e : Expr} {τ : Plain} (W : WellPlain P) (p : PlainTyping P C Γ e τ) (cap : ℕ) (N : Channels) (u s : ℕ) (E : List ℕ) (h : List Cell) (S : PlainScope P N C h E Γ) where
  -- a value that the rules derive, in a grown heap and of the expression's type, or the refusal that they meet
  pub eval-agrees : Fate (Ran P cap N u s E h e τ) (Meets P cap N u s E h e) (eval P (run P cap u) cap N e E s h)
  eval-agrees = (typed-agrees P cap N C u (calls-agree P cap W u) p).fate E s h S

  pub eval-runs : (l : ℕ) (g : List Cell) → eval P (run P cap u) cap N e E s h ≡ value l g → Ran P cap N u s E h e τ l g
  eval-runs l g z = fate-value eval-agrees z

  -- it gives a value just when the rules derive that value
  pub value-iff-runs : (l : ℕ) (g : List Cell) → (eval P (run P cap u) cap N e E s h ≡ value l g) ↔ Runs P cap N u s E h e l g
  value-iff-runs l g = ((λ z. (eval-runs l g z).runs), (λ r. runs-eval P cap r))

  -- it refuses just when the rules meet that refusal
  pub refused-iff-meets : (n : ℕ) → (eval P (run P cap u) cap N e E s h ≡ refused n) ↔ Meets P cap N u s E h e n
  refused-iff-meets n = ((λ z. fate-refused eval-agrees z), (λ m. meets-eval P cap m))

  -- with one of 20 to 23, and only where the rules derive nothing
  pub refused-runs-not : (n : ℕ) → eval P (run P cap u) cap N e E s h ≡ refused n → RunRefusal n × ((l : ℕ) (g : List Cell) → Runs P cap N u s E h e l g → ⊥)
  refused-runs-not n z = (meets-numbered (fate-refused eval-agrees z), λ l g r. runs-not-refused r z)
