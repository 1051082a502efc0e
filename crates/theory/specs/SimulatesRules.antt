-- The simulation, a lemma a rule of figure 5, for all rules but those of constructors and cases.
use Rattle.std.specs.Prelude.{ℕ, suc, ◌-◌, ◌≤◌, ◌<◌, List, [], ◌∷◌, ◌++◌, Bool, ◌≡◌, refl, length}
use Rattle.std.proofs.Math.Option.{some}
use Rattle.std.proofs.Common.{sym, ap, ◌∙◌, arith}
use Rattle.std.proofs.Math.Path.{subst}
use Rattle.std.proofs.Math.ListN.{get_elem? as look}
use Rattle.language.specs.Limits.{int_range}
use Rattle.language.specs.Syntax.{Plain, pbool, pint, pnamed, Ty, tbool, tint, tnamed, Size, Op, Expr, ebool, eint, evar, enow, elast, elet, eif, eop, ecall, eadj, efit, Exprs, enil, econs, Function, File}
use Rattle.language.specs.PlainTypes.{operand_type, op_type}
use Rattle.language.specs.Sizes.{parameter_types}
use Rattle.language.specs.Estimate.{Estimate, nothing, one_cell, after, either, with_slots, in_call}
use Rattle.language.specs.Typing.{base_type}
use Rattle.language.specs.Heap.{kbool, kint, leaf, apply_op, trees_at, tree_of, tree_at}
use Rattle.language.specs.Evaluator.{no_channels}
use Rattle.language.specs.Rules.{e_bool, e_int, e_var, e_node, e_atlast, e_let, e_if_then, e_if_else, e_op, e_op_decided, e_call, e_adj, e_fit_success, e_fit_fail, es_nil, es_cons}
use Rattle.language.specs.PlainMachine.{p_bool, p_int, p_var, p_node, p_atlast, p_let, p_if_then, p_if_else, p_op, p_op_decided, p_call, p_adj, ps_nil, ps_cons}
use Rattle.theory.specs.Lists.{look-new, look-map}
use Rattle.theory.specs.HeapValues.{h_bool, h_int, h_named, Env, env_nil, env_cons, has_grown, scoped-grown, scoped-one, scoped-body, env-look, env-length, has-less, has-larger}
use Rattle.theory.specs.Heaps.{look-grown}
use Rattle.theory.specs.Decided.{decided-result, decided-cases}
use Rattle.theory.specs.Growth.{grew_none, grew_trans}
use Rattle.theory.specs.ValuesFit.{tree-leaf, val-tree-size, cell-tree}
use Rattle.theory.specs.ValueCells.{base-constant, result-has, bool_cases, fit-cases, val-cell}
use Rattle.theory.specs.ScopeTrees.{scope-trees-count, tree-grown, derives-tree, fit-derives, no-fit-derives, derives-before, derives-all-before, derives-bound, scope-trees-look}
use Rattle.theory.specs.Simulated.{then, Simulates, SimulatesAll, held-ends, new-ends, last-ends}

parameters-length : (ps : List Plain) (ks : List ℕ) → length (parameter_types ps ks) ≡ length ps
unfolding parameter_types
parameters-length [] ks = refl
parameters-length (pbool ∷ ps) ks = ap suc (parameters-length ps ks)
parameters-length (pint ∷ ps) ks = ap suc (parameters-length ps ks)
parameters-length (pnamed t ∷ ps) [] = ap suc (parameters-length ps [])
parameters-length (pnamed t ∷ ps) (k ∷ ks) = ap suc (parameters-length ps ks)

module _ {P : File} {cap : ℕ} {C Γ : List Ty} where
  pub bool-simulates : {b : Bool} {x : Estimate} → x ≡ one_cell → Simulates P cap C Γ (ebool b) tbool x
  unfolding tree_of
  bool-simulates {b} q = rw q (record { ends = λ N u s E h S room. new-ends (grew_none h) (leaf (kbool b)) (omega arith) (omega arith) (h_bool (look-new h _)) e_bool p_bool })

  pub int-simulates : {n : ℕ} {x : Estimate} → n < int_range → x ≡ one_cell → Simulates P cap C Γ (eint n) tint x
  unfolding tree_of
  int-simulates {n} less q = rw q (record { ends = λ N u s E h S room. new-ends (grew_none h) (leaf (kint n)) (omega arith) (omega arith) (h_int (look-new h _) less) e_int p_int })

  pub var-simulates : (v : ℕ) {τ : Ty} {x : Estimate} → look Γ v ≡ some τ → x ≡ nothing → Simulates P cap C Γ (evar v) τ x
  var-simulates v e q = rw q (record {
    ends = λ N u s E h S room.
        let x = env-look S.variables v e in
        held-ends x.has (e_var x.at) (p_var (scope-trees-look h E v x.at));
  })

  pub node-simulates : (c : ℕ) {τ : Ty} {x : Estimate} → look C c ≡ some τ → x ≡ nothing → Simulates P cap C Γ (enow c) τ x
  node-simulates c e q = rw q (record {
    ends = λ N u s E h S room.
        let x = env-look S.now c e in
        held-ends x.has (e_node x.at) (p_node (look-map (tree_at h) N.now c x.at));
  })

  pub atlast-simulates : (c : ℕ) {τ : Ty} {x : Estimate} → look C c ≡ some τ → x ≡ nothing → Simulates P cap C Γ (elast c) τ x
  atlast-simulates c e q = rw q (record {
    ends = λ N u s E h S room.
        let x = env-look S.last c e in
        held-ends x.has (e_atlast x.at) (p_atlast (look-map (tree_at h) N.last c x.at));
  })

  pub let-simulates : {a b : Expr} {σ τ : Ty} {m n x : Estimate} → Simulates P cap C Γ a σ m → Simulates P cap C (Γ ++ (σ ∷ [])) b τ n → x ≡ after m (with_slots 1 n) → Simulates P cap C Γ (elet a b) τ x
  unfolding trees_at
  let-simulates p q eq = rw eq (record {
    ends = λ N u s E h S room.
        then (p.ends N u s E h S (omega arith)) (λ k i x.
        last-ends x.grew (q.ends N u (s - 1) (E ++ (k ∷ [])) i (scoped-one x.grew.grown S x.has) (omega arith)) (omega arith)
        (λ l g. e_let x.runs (omega arith))
        (λ z d. p_let x.derives (derives-bound x.grew.grown S (k ∷ []) d)));
  })

  pub if-simulates : {a b d : Expr} {τ : Ty} {l m n x : Estimate} → Simulates P cap C Γ a tbool l → Simulates P cap C Γ b τ m → Simulates P cap C Γ d τ n → x ≡ after l (either m n) → Simulates P cap C Γ (eif a b d) τ x
  if-simulates p q r eq = rw eq (record {
    ends = λ N u s E h S room.
        then (p.ends N u s E h S (omega arith)) (λ k i x. bool_cases x.has
        (λ e. last-ends x.grew (q.ends N u s E i (scoped-grown x.grew.grown S) (omega arith)) (omega arith)
        (λ l g. e_if_then x.runs e) (λ z d. p_if_then (derives-tree (tree-leaf i k e) x.derives) (derives-before x.grew.grown S d)))
        (λ e. last-ends x.grew (r.ends N u s E i (scoped-grown x.grew.grown S) (omega arith)) (omega arith)
        (λ l g. e_if_else x.runs e) (λ z d. p_if_else (derives-tree (tree-leaf i k e) x.derives) (derives-before x.grew.grown S d))));
  })

  pub op-simulates : (o : Op) {a b : Expr} {σ τ : Ty} {m n x : Estimate} → σ ≡ base_type (operand_type o) → Simulates P cap C Γ a σ m → Simulates P cap C Γ b σ n → τ ≡ base_type (op_type o) → x ≡ after (after m n) one_cell →
      Simulates P cap C Γ (eop o a b) τ x
  unfolding tree_of base_type
  op-simulates o operand p q result eq = rw (eq, result) (record {
    ends = λ N u s E h S room.
        then (p.ends N u s E h S (omega arith)) (λ j i x.
        let left = base-constant (operand_type o) (rw operand at x.has) in
        decided-cases o left.constant left.typed
        (λ v is d. let cell = subst (λ z. look i j ≡ some (leaf z)) is left.cell in
        new-ends x.grew (leaf (kbool v)) (omega arith) (omega arith) (rw (decided-result o v d) (h_bool (look-new i (leaf (kbool v)))))
        (e_op_decided x.runs cell d) (p_op_decided (derives-tree (tree-leaf i j cell) x.derives) d))
        (λ more. then (q.ends N u s E i (scoped-grown x.grew.grown S) (omega arith)) (λ k f y.
        let right = base-constant (operand_type o) (rw operand at y.has) in
        let new = apply_op o left.constant right.constant in
        new-ends (grew_trans x.grew y.grew) (leaf new) (omega arith) (omega arith) (result-has o left.constant right.constant (look-new f (leaf new)))
        (e_op x.runs left.cell more y.runs (look-grown y.grew.grown j left.cell) right.cell left.typed right.typed)
        (p_op (derives-tree (tree-leaf i j left.cell) x.derives) more
        (derives-before x.grew.grown S (derives-tree (tree-leaf f k right.cell) y.derives)) left.typed right.typed refl))));
  })

  pub call-simulates : (f : ℕ) {F : Function} (ks : List ℕ) {es : Exprs} {τs : List Ty} {τ : Ty} {m n x : Estimate} → SimulatesAll P cap C Γ es τs m → look P.functions f ≡ some F → parameter_types F.parameters ks ≡ τs →
      Simulates P cap [] (parameter_types F.parameters ks) F.body τ n → x ≡ with_slots (length F.parameters) (after m (in_call n)) → Simulates P cap C Γ (ecall f es) τ x
  call-simulates f {F} ks ps e types q eq = rw eq (record {
    ends = λ N u s E h S room.
        let r = s - length F.parameters in
        then (ps.ends N u r E h S (omega arith)) (λ ls i x.
        let args : Env P i ls (parameter_types F.parameters ks) = rw types x.has in
        last-ends x.grew (q.ends no_channels (u - 1) r ls i (scoped-body args) (omega arith)) (omega arith)
        (λ l g. e_call e (omega arith) x.runs (env-length args ∙ parameters-length F.parameters ks) (omega arith))
        (λ z. p_call e x.derives (scope-trees-count i ls ∙ env-length args ∙ parameters-length F.parameters ks)));
  })

  pub adj-simulates : {z : Size} {e : Expr} {t j k : ℕ} {m : Estimate} → Simulates P cap C Γ e (tnamed t j) m → j ≤ k → Simulates P cap C Γ (eadj z e) (tnamed t k) m
  adj-simulates p le = record {
    ends = λ N u s E h S room.
        then (p.ends N u s E h S room) (λ l g x. record { result = l; heap = g; is = record { runs = e_adj x.runs; grew = x.grew; has = has-larger le x.has; derives = p_adj x.derives } });
  }

  pub fit-simulates : {a b d : Expr} {t j k : ℕ} {τ : Ty} {l m n x : Estimate} → Simulates P cap C Γ a (tnamed t j) l → Simulates P cap C (Γ ++ (tnamed t k ∷ [])) b τ m → Simulates P cap C Γ d τ n →
      x ≡ after l (either (with_slots 1 m) n) → Simulates P cap C Γ (efit k a b d) τ x
  unfolding trees_at
  fit-simulates {k} p q r eq = rw eq (record {
    ends = λ N u s E h S room.
        then (p.ends N u s E h S (omega arith)) (λ l i x. fit-cases k x.has
        (λ n v le. last-ends x.grew (q.ends N u (s - 1) (E ++ (l ∷ [])) i (scoped-one x.grew.grown S (h_named v le)) (omega arith)) (omega arith)
        (λ j g. e_fit_success x.runs (val-cell v).is le (omega arith)) (λ z d. fit-derives (cell-tree x.has (val-cell v).is) x.derives (rw (val-tree-size v) le) (derives-bound x.grew.grown S (l ∷ []) d)))
        (λ n v less. last-ends x.grew (r.ends N u s E i (scoped-grown x.grew.grown S) (omega arith)) (omega arith)
        (λ j g. e_fit_fail x.runs (val-cell v).is less) (λ z d. no-fit-derives (cell-tree x.has (val-cell v).is) x.derives (rw (val-tree-size v) less) (derives-before x.grew.grown S d))));
  })

  -- ---- arguments and fields
  pub nil-simulates : {x : Estimate} → x ≡ nothing → SimulatesAll P cap C Γ enil [] x
  unfolding trees_at
  nil-simulates q = rw q (record { ends = λ N u s E h S room. record { result = []; heap = h; is = record { runs = es_nil; grew = grew_none h; has = env_nil; derives = ps_nil } } })

  pub cons-simulates : {e : Expr} {es : Exprs} {τ : Ty} {τs : List Ty} {m n x : Estimate} → Simulates P cap C Γ e τ m → SimulatesAll P cap C Γ es τs n → x ≡ after m n → SimulatesAll P cap C Γ (econs e es) (τ ∷ τs) x
  unfolding trees_at
  cons-simulates p ps eq = rw eq (record {
    ends = λ N u s E h S room.
        then (p.ends N u s E h S (omega arith)) (λ l i x.
        then (ps.ends N u s E i (scoped-grown x.grew.grown S) (omega arith)) (λ ls g y.
        record {
          result = l ∷ ls;
          heap = g;
          is = record {
            runs = es_cons x.runs y.runs;
            grew = grew_trans x.grew y.grew;
            has = env_cons (has_grown y.grew.grown x.has) y.has;
            derives = ps_cons (derives-tree (sym (tree-grown y.grew.grown l (has-less x.has))) x.derives) (derives-all-before x.grew.grown S y.derives);
          };
        }));
  })
