-- The simulation for constructors and cases: T-CTOR, T-CASE and T-BRANCH, which is read at every split.
use Prim.Native.Nat.{ℕ, zero, suc, ◌+◌, ◌-◌, ◌≤◌, ◌<◌}
use mathlib.Core.List.{List, [], ◌∷◌, ◌++◌, Memᴰ}
use Rattle.std.proofs.Math.Option.{some}
use Rattle.std.specs.Prelude.{◌≡◌, refl}
use Rattle.std.proofs.Common.{ap, ◌∙◌, subst, arith}
use Rattle.std.proofs.Math.ListN.{length, get_elem? as look}
use Rattle.language.specs.Limits.{size_most}
use Rattle.language.specs.Syntax.{Constructor, Ty, tnamed, ResultType, Expr, econ, ecase, Exprs, econs, look_expr, File, constructors_of, owns}
use Rattle.language.specs.Sizes.{sum, field_types}
use Rattle.language.specs.Splits.{splits}
use Rattle.language.specs.Estimate.{Estimate, one_cell, after, either, with_slots}
use Rattle.language.specs.Heap.{con, tree_of}
use Rattle.language.specs.Rules.{e_ctor, e_case}
use Rattle.language.specs.PlainMachine.{p_ctor, p_case}
use Rattle.theory.specs.Lists.{none-is-not-some}
use Rattle.theory.specs.HeapTrees.{tree-con}
use Rattle.theory.specs.SplitsCover.{Positive, positive-sum, Covered, cover}
use Rattle.theory.specs.HeapValues.{vals-low, scoped-grown, scoped-append}
use Rattle.theory.specs.FieldValues.{vals-length, vals-owns, vals-positive, vals-sizes, vals-env, env-vals}
use Rattle.theory.specs.ValuesFit.{vals-trees, fields-sizes}
use Rattle.theory.specs.ValueCells.{con-cases, new-con-has}
use Rattle.theory.specs.ScopeTrees.{scope-trees-count, derives-tree, derives-bound}
use Rattle.theory.specs.Simulated.{AtMost, then, Simulates, SimulatesAll, BranchFound, SimulatesBranches, new-ends, last-ends}

module _ {P : File} {cap : ℕ} {C Γ : List Ty} where
  pub ctor-simulates : (t c : ℕ) {fs : Constructor} (ks : List ℕ) {es : Exprs} {τs : List Ty} {k : ℕ} {m x : Estimate} → SimulatesAll P cap C Γ es τs m → look (constructors_of P t) c ≡ some fs → sum ks < size_most → field_types t fs ks ≡ τs →
      k ≡ 1 + sum ks → x ≡ after m one_cell → Simulates P cap C Γ (econ t c es) (tnamed t k) x
  unfolding tree_of
  ctor-simulates t c {fs} ks {k} ps e small types size eq = rw eq (record {
    ends = λ N u s E h S room.
        then (ps.ends N u s E h S (omega arith)) (λ ls i x.
        let r = env-vals t fs ks (rw types x.has) in
        new-ends x.grew (con t c (1 + sum r.sizes) ls) (omega arith) (omega arith) (new-con-has c k e r.are (omega arith))
        (e_ctor x.runs e (vals-sizes r.are) (omega arith))
        (p_ctor x.derives e (fields-sizes (vals-trees r.are)) (omega arith)));
  })

  -- ---- branches
  pub none-simulate : {t k : ℕ} {bs : Exprs} {τ : Ty} {x : Estimate} → SimulatesBranches P cap C Γ t k [] bs τ x
  none-simulate = record { found = λ c fs ks e. none-is-not-some e }

  -- a branch further on
  found-later : {t : ℕ} {fs : Constructor} {b : Expr} {bs : Exprs} {c : ℕ} {ks : List ℕ} {τ : Ty} {x y : Estimate} → AtMost x y → BranchFound P cap C Γ t fs bs c ks τ x → BranchFound P cap C Γ t fs (econs b bs) (suc c) ks τ y
  unfolding look_expr
  found-later le f = record { branch = f.branch; is = f.is; split = f.split; over = f.over; numbers = f.numbers; few = omega arith; simulates = f.simulates }

  -- a value whose size is at most the number of own-type fields has no such constructor
  pub skip-simulates : {t k : ℕ} {fs : Constructor} {cs : List Constructor} {b : Expr} {bs : Exprs} {τ : Ty} {x : Estimate} → k ≤ owns fs → SimulatesBranches P cap C Γ t k cs bs τ x → SimulatesBranches P cap C Γ t k (fs ∷ cs) (econs b bs) τ x
  skip-simulates {t} {k} {fs = gs} {cs} {b} {bs} {τ} {x} le q = record { found = found }
    where
      found : (c : ℕ) (fs : Constructor) (ks : List ℕ) → look (gs ∷ cs) c ≡ some fs → Positive ks → length ks ≡ owns fs → suc (sum ks) ≤ k → BranchFound P cap C Γ t fs (econs b bs) c ks τ x
      found zero fs ks e pos many few = absurd (let same : gs ≡ fs = cc in omega (arith, positive-sum pos, ap owns same))
      found (suc c) fs ks e pos many few = found-later (omega arith) (q.found c fs ks e pos many few)

  pub branch-simulates : {t k : ℕ} {fs : Constructor} {cs : List Constructor} {b : Expr} {bs : Exprs} {τ : Ty} {m n x : Estimate} →
      ((js : List ℕ) → Memᴰ js (splits (owns fs) (k - 1)) → Simulates P cap C (Γ ++ field_types t fs js) b τ m) → SimulatesBranches P cap C Γ t k cs bs τ n →
      x ≡ either (with_slots (length fs) m) n → SimulatesBranches P cap C Γ t k (fs ∷ cs) (econs b bs) τ x
  unfolding look_expr
  branch-simulates {t} {k} {fs = gs} {cs} {b} {bs} {τ} {m} {n} p q eq = rw eq (record { found = found })
    where
      first : (ks : List ℕ) → Positive ks → length ks ≡ owns gs → suc (sum ks) ≤ k → BranchFound P cap C Γ t gs (econs b bs) 0 ks τ (either (with_slots (length gs) m) n)
      first ks pos many few =
          let c : Covered (owns gs) (k - 1) ks = rw many at (cover ks (k - 1) pos (omega arith)) in
          record { branch = b; is = refl; split = c.split; over = c.over; numbers = m; few = omega arith; simulates = p c.split c.is }

      found : (c : ℕ) (fs : Constructor) (ks : List ℕ) → look (gs ∷ cs) c ≡ some fs → Positive ks → length ks ≡ owns fs → suc (sum ks) ≤ k →
          BranchFound P cap C Γ t fs (econs b bs) c ks τ (either (with_slots (length gs) m) n)
      found zero fs ks e pos many few =
          let same : gs ≡ fs = cc in
          subst (λ y. BranchFound P cap C Γ t y (econs b bs) 0 ks τ (either (with_slots (length gs) m) n)) same (first ks pos (rw same many) few)
      found (suc c) fs ks e pos many few = found-later (omega arith) (q.found c fs ks e pos many few)

  -- the branch of the subject's constructor
  pub case-simulates : {t k : ℕ} {e : Expr} {y : ResultType} {bs : Exprs} {τ : Ty} {m n x : Estimate} → Simulates P cap C Γ e (tnamed t k) m → SimulatesBranches P cap C Γ t k (constructors_of P t) bs τ n → x ≡ after m n → Simulates P cap C Γ (ecase t e y bs) τ x
  case-simulates p q eq = rw eq (record {
    ends = λ N u s E h S room.
        then (p.ends N u s E h S (omega arith)) (λ l i x. con-cases x.has (λ c j fs ls ks cell known vs le.
        let f = q.found c fs ks known (vals-positive vs) (vals-owns vs) le in
        last-ends x.grew (f.simulates.ends N u (s - length fs) (E ++ ls) i (scoped-append (scoped-grown x.grew.grown S) (vals-env vs f.over)) (omega arith)) (omega arith)
        (λ k g. e_case x.runs cell known (vals-length vs) f.is (omega arith))
        (λ z d. p_case (derives-tree (tree-con i l cell (vals-low vs)) x.derives) known (scope-trees-count i ls ∙ vals-length vs) f.is (derives-bound x.grew.grown S ls d))));
  })
