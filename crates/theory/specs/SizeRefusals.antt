-- Where plain types hold, the size checker refuses only with 10 to 14, in a frame of the file: its arms for 6 and 9 are never met. A
-- lemma a rule.
use Prim.Native.Nat.{ℕ, zero, suc, ◌-◌, ◌≤◌}
use Rattle.std.specs.Prelude.{List, [], ◌∷◌, ◌++◌, Bool, ◌≡◌}
use Rattle.std.proofs.Math.Option.{some}
use Rattle.std.proofs.Math.Path.{refl}
use Rattle.std.proofs.Common.{sym, ap, ◌∙◌, arith, eq-eqb}
use Rattle.std.proofs.Math.ListN.{get_elem? as look}
use Rattle.language.specs.Refusals.{bad_index, size_outside, too_many_instances}
use Rattle.language.specs.Result.{Result, from}
use Rattle.language.specs.Syntax.{Constructor, Plain, pbool, pint, pnamed, Ty, tnamed, Size, ResultType, Op, owns, Expr, ebool, eint, evar, enow, elast, elet, eif, eop, ecall, econ, ecase, eadj, efit, Exprs, enil, econs, Function, File, constructors_of}
use Rattle.language.specs.PlainTypes.{plain_result, plain_declared, operand_type, op_type}
use Rattle.language.specs.Sizes.{summed_measure, sizes_of, parameter_types, field_types, size_of_type}
use Rattle.language.specs.Splits.{splits}
use Rattle.language.specs.Typing.{Place, inside, channels_at, frame_at}
use Rattle.language.specs.Checker.{Instance, Sized, Sizeds, Counted, at_splits, Enter, sized, sizeds, sized_branches, find, enter_at}
use Rattle.theory.specs.Lists.{none-is-not-some, look-map}
use Rattle.theory.specs.Outcomes.{Outcome, accepted, refused, bind-outcome, need-outcome, from-outcome, choose-outcome, need-holds, from-holds}
use Rattle.theory.specs.FrameNumbers.{frame_total, FrameOf, function-frame}
use Rattle.theory.specs.CheckerSteps.{named-holds, at_split_of, found_or-outcome}
use Rattle.theory.specs.SameTests.{type-same, types_same}
use Rattle.language.specs.PlainTyping.{PlainTyping, p_bool, p_int, p_var, p_node, p_atlast, p_let, p_if, p_op, p_call, p_ctor, p_case, p_adj, p_fit, PlainTypings, ps_nil, ps_cons, PlainBranches, p_none, p_branch, WellPlain}
use Rattle.theory.specs.PlainSizes.{bool-plain, named-plain, operand-plain, base-plain, result-plain, plains_of_types, plains-joined, plain-named, parameters-plain, fields-plain, own-parameters, look-none-plain}

-- "sizes: 10 to 14"
pub record SizeRefusal (P : File) (n frame : ℕ) : Type 0 where
  pub least : size_outside ≤ n
  pub most : n ≤ too_many_instances
  pub from_first : 1 ≤ frame
  pub to_last : frame ≤ frame_total P

abbrev pub Anything : {A : Type 0} → A → Type 0
Anything a = Unit {0}

-- ---- what a part of the checker is shown to do from any list
module _ (P : File) (enter : Enter) where
  pub record Plainly (p : Place) (Γ : List Ty) (Δ : List ℕ) (e : Expr) (τ : Plain) : Type 0 where
    pub runs : (L : List Instance) → Outcome (λ (q : Sized). plain_declared q.type ≡ τ) (SizeRefusal P) (sized P enter e p Γ Δ L)

  pub record PlainlyAll (p : Place) (Γ : List Ty) (Δ : List ℕ) (es : Exprs) (τs : List Plain) : Type 0 where
    pub runs : (L : List Instance) → Outcome (λ (q : Sizeds). plains_of_types q.types ≡ τs) (SizeRefusal P) (sizeds P enter es p Γ Δ L)

  pub record PlainlyBranches (p : Place) (Γ : List Ty) (Δ : List ℕ) (t k : ℕ) (cs : List Constructor) (bs : Exprs) (τ : Ty) : Type 0 where
    pub runs : (L : List Instance) → Outcome Anything (SizeRefusal P) (sized_branches P enter bs cs p Γ Δ t k τ L)

  pub record EntersPlainly : Type 0 where
    pub enters : (frame g : ℕ) (F : Function) (ks : List ℕ) (τ : Ty) (L : List Instance) → look P.functions g ≡ some F → FrameOf P frame → Outcome Anything (SizeRefusal P) (enter frame g F ks τ L)

-- a variable or channel whose plain type is known
look-plainly : {B : Type 0} {R : B → Type 0} {N : ℕ → ℕ → Type 0} {τ : Plain} {G : List Plain} (Γ : List Ty) (v : ℕ) (frame : ℕ) (k : Ty → Result B) → plains_of_types Γ ≡ G → look G v ≡ some τ →
    ((σ : Ty) → plain_declared σ ≡ τ → Outcome R N (k σ)) → Outcome R N (from (look Γ v) bad_index frame k)
look-plainly {τ} Γ v frame k same e f = from-outcome (look Γ v) bad_index frame (λ n. none-is-not-some (sym (look-none-plain Γ v n) ∙ ap (λ l. look l v) same ∙ e))
    (λ σ s. f σ (let z : some (plain_declared σ) ≡ some τ = sym (look-map plain_declared Γ v s) ∙ ap (λ l. look l v) same ∙ e in cc))

splits-plainly : {N : ℕ → ℕ → Type 0} (f : List ℕ → List Instance → Result Counted) → ((ks : List ℕ) (L : List Instance) → Outcome Anything N (f ks L)) → (kss : List (List ℕ)) (L : List Instance) →
    Outcome Anything N (at_splits kss f L)
unfolding at_splits
splits-plainly f h [] L = accepted tt
splits-plainly f h (ks ∷ kss) L = bind-outcome (h ks L) (λ q _ _. bind-outcome (splits-plainly f h kss q.list) (λ r _ _. accepted tt))

pub sizes-only : {P : File} {n frame : ℕ} → FrameOf P frame → size_outside ≤ n → n ≤ too_many_instances → SizeRefusal P n frame
sizes-only f a b = record { least = a; most = b; from_first = f.least; to_last = f.most }

-- ---- the rules
module _ {P : File} {enter : Enter} {p : Place} {Γ : List Ty} {Δ : List ℕ} (here : FrameOf P (frame_at P p)) where
  bool-plainly : {b : Bool} → Plainly P enter p Γ Δ (ebool b) pbool
  unfolding sized plain_declared
  bool-plainly = record { runs = λ L. accepted refl }

  int-plainly : {i : ℕ} → Plainly P enter p Γ Δ (eint i) pint
  unfolding sized plain_declared
  int-plainly = record { runs = λ L. accepted refl }

  var-plainly : {v : ℕ} {τ : Plain} {G : List Plain} → plains_of_types Γ ≡ G → look G v ≡ some τ → Plainly P enter p Γ Δ (evar v) τ
  unfolding sized
  var-plainly {v} same e = record { runs = λ L. look-plainly Γ v _ _ same e (λ σ s. accepted s) }

  now-plainly : {c : ℕ} {τ : Plain} {C : List Plain} → plains_of_types (channels_at p) ≡ C → look C c ≡ some τ → Plainly P enter p Γ Δ (enow c) τ
  unfolding sized
  now-plainly {c} same e = record { runs = λ L. look-plainly (channels_at p) c _ _ same e (λ σ s. accepted s) }

  last-plainly : {c : ℕ} {τ : Plain} {C : List Plain} → plains_of_types (channels_at p) ≡ C → look C c ≡ some τ → Plainly P enter p Γ Δ (elast c) τ
  unfolding sized
  last-plainly {c} same e = record { runs = λ L. look-plainly (channels_at p) c _ _ same e (λ σ s. accepted s) }

  let-plainly : {a b : Expr} {ρ τ : Plain} → Plainly P enter p Γ Δ a ρ → ((σ : Ty) → plain_declared σ ≡ ρ → Plainly P enter p (Γ ++ (σ ∷ [])) Δ b τ) → Plainly P enter p Γ Δ (elet a b) τ
  unfolding sized
  let-plainly f g = record { runs = λ L. bind-outcome (f.runs L) (λ q _ x. bind-outcome ((g q.type x).runs q.list) (λ r _ y. accepted y)) }

  if-plainly : {a b d : Expr} {τ : Plain} → Plainly P enter p Γ Δ a pbool → Plainly P enter p Γ Δ b τ → Plainly P enter p Γ Δ d τ → Plainly P enter p Γ Δ (eif a b d) τ
  unfolding sized
  if-plainly f g h = record {
    runs = λ L. bind-outcome (f.runs L) (λ q _ x. need-holds _ _ (type-same (bool-plain q.type x)) (bind-outcome (g.runs q.list) (λ r _ y. bind-outcome (h.runs r.list) (λ s _ z.
        need-outcome _ _ _ (λ _. sizes-only here (omega arith) (omega arith)) (λ _. accepted y)))));
  }

  op-plainly : {o : Op} {a b : Expr} → Plainly P enter p Γ Δ a (operand_type o) → Plainly P enter p Γ Δ b (operand_type o) → Plainly P enter p Γ Δ (eop o a b) (op_type o)
  unfolding sized
  op-plainly {o} f g = record {
    runs = λ L. bind-outcome (f.runs L) (λ q _ x. need-holds _ _ (type-same (operand-plain o q.type x)) (bind-outcome (g.runs q.list) (λ r _ y.
        need-holds _ _ (type-same (operand-plain o r.type y)) (accepted (base-plain (op_type o))))));
  }

  call-plainly : {g : ℕ} {es : Exprs} {F : Function} → EntersPlainly P enter → look P.functions g ≡ some F → PlainlyAll P enter p Γ Δ es F.parameters →
      Plainly P enter p Γ Δ (ecall g es) (plain_result F.result)
  unfolding sized
  call-plainly {g} {F} en l f = record {
    runs = λ L. bind-outcome (f.runs L) (λ q _ x. from-holds _ _ _ l (let ks = sizes_of q.types in
        need-holds _ _ (types_same (ap (λ ps. parameter_types ps ks) (sym x) ∙ own-parameters q.types)) (need-outcome _ _ _ (λ _. sizes-only here (omega arith) (omega arith)) (λ _.
        need-outcome _ _ _ (λ _. sizes-only here (omega arith) (omega arith)) (λ _. from-outcome _ _ _ (λ _. sizes-only (function-frame P g l) (omega arith) (omega arith)) (λ τ fits.
        bind-outcome (en.enters _ g F ks τ q.list l here) (λ r _ _. accepted (result-plain ks F.result fits))))))));
  }

  ctor-plainly : {t i : ℕ} {es : Exprs} {fs : Constructor} {τs : List Plain} → look (constructors_of P t) i ≡ some fs → PlainlyAll P enter p Γ Δ es τs →
      Plainly P enter p Γ Δ (econ t i es) (pnamed t)
  unfolding sized plain_declared
  ctor-plainly l f = record {
    runs = λ L. bind-outcome (f.runs L) (λ q _ x. from-holds _ _ _ l (need-outcome _ _ _ (λ _. sizes-only here (omega arith) (omega arith)) (λ _.
        need-outcome _ _ _ (λ _. sizes-only here (omega arith) (omega arith)) (λ _. accepted refl))));
  }

  case-plainly : {t : ℕ} {e : Expr} {r : ResultType} {bs : Exprs} → Plainly P enter p Γ Δ e (pnamed t) →
      ((k : ℕ) (τ : Ty) → plain_declared τ ≡ plain_result r → PlainlyBranches P enter p Γ Δ t k (constructors_of P t) bs τ) → Plainly P enter p Γ Δ (ecase t e r bs) (plain_result r)
  unfolding sized
  case-plainly {t} {r} f g = record {
    runs = λ L. bind-outcome (f.runs L) (λ q _ x. named-holds _ _ (named-plain q.type x) (need-holds _ _ (eq-eqb t t refl)
        (from-outcome _ _ _ (λ _. sizes-only here (omega arith) (omega arith)) (λ τ fits. bind-outcome ((g (size_of_type q.type) τ (result-plain Δ r fits)).runs q.list) (λ s _ _. accepted (result-plain Δ r fits))))));
  }

  adj-plainly : {s : Size} {e : Expr} {t : ℕ} → Plainly P enter p Γ Δ e (pnamed t) → Plainly P enter p Γ Δ (eadj s e) (pnamed t)
  unfolding sized plain_declared
  adj-plainly f = record {
    runs = λ L. from-outcome _ _ _ (λ _. sizes-only here (omega arith) (omega arith)) (λ k _. bind-outcome (f.runs L) (λ q _ x. named-holds _ _ (named-plain q.type x)
        (need-outcome _ _ _ (λ _. sizes-only here (omega arith) (omega arith)) (λ _. accepted refl))));
  }

  fit-plainly : {k t : ℕ} {a b d : Expr} {τ : Plain} → Plainly P enter p Γ Δ a (pnamed t) → Plainly P enter p (Γ ++ (tnamed t k ∷ [])) Δ b τ → Plainly P enter p Γ Δ d τ →
      Plainly P enter p Γ Δ (efit k a b d) τ
  unfolding sized
  fit-plainly f g h = record {
    runs = λ L. bind-outcome (f.runs L) (λ q _ x. named-holds _ _ (named-plain q.type x) (bind-outcome (g.runs q.list) (λ r _ y. bind-outcome (h.runs r.list) (λ s _ z.
        need-outcome _ _ _ (λ _. sizes-only here (omega arith) (omega arith)) (λ _. accepted y)))));
  }

  none-plainly : PlainlyAll P enter p Γ Δ enil []
  unfolding sizeds
  none-plainly = record { runs = λ L. accepted refl }

  more-plainly : {e : Expr} {es : Exprs} {τ : Plain} {τs : List Plain} → Plainly P enter p Γ Δ e τ → PlainlyAll P enter p Γ Δ es τs → PlainlyAll P enter p Γ Δ (econs e es) (τ ∷ τs)
  unfolding sizeds
  more-plainly f g = record { runs = λ L. bind-outcome (f.runs L) (λ q _ x. bind-outcome (g.runs q.list) (λ r _ y. accepted (rw (x, y)))) }

  no-branch-plainly : {t k : ℕ} {τ : Ty} → PlainlyBranches P enter p Γ Δ t k [] enil τ
  unfolding sized_branches
  no-branch-plainly = record { runs = λ L. accepted tt }

  branch-plainly : {t k : ℕ} {fs : Constructor} {cs : List Constructor} {b : Expr} {bs : Exprs} {π : Plain} {τ : Ty} →
      ((ks : List ℕ) → Plainly P enter p (Γ ++ field_types t fs ks) (Δ ++ ks) b π) →
      PlainlyBranches P enter p Γ Δ t k cs bs τ → PlainlyBranches P enter p Γ Δ t k (fs ∷ cs) (econs b bs) τ
  unfolding sized_branches
  branch-plainly {t} {k} {fs} {b} {τ} f g = record {
    runs = λ L. choose-outcome _ (λ _. g.runs L)
        (λ _. bind-outcome (splits-plainly (at_split_of P enter p Γ Δ t fs b τ) (λ ks M. bind-outcome ((f ks).runs M) (λ q _ _. need-outcome _ _ _ (λ _. sizes-only here (omega arith) (omega arith)) (λ _. accepted tt))) (splits (owns fs) (k - 1)) L)
        (λ q _ _. bind-outcome (g.runs q.list) (λ r _ _. accepted tt)));
  }

-- ---- every plain typing
module _ {P : File} {enter : Enter} (en : EntersPlainly P enter) {C : List Plain} where
  mutual
    pub plainly : {G : List Plain} {e : Expr} {π : Plain} → PlainTyping P C G e π → (p : Place) (Γ : List Ty) (Δ : List ℕ) → plains_of_types (channels_at p) ≡ C → plains_of_types Γ ≡ G →
        FrameOf P (frame_at P p) → Plainly P enter p Γ Δ e π
    plainly p_bool p Γ Δ c g here = bool-plainly here
    plainly p_int p Γ Δ c g here = int-plainly here
    plainly (p_var l) p Γ Δ c g here = var-plainly here g l
    plainly (p_node l) p Γ Δ c g here = now-plainly here c l
    plainly (p_atlast l) p Γ Δ c g here = last-plainly here c l
    plainly (p_let a b) p Γ Δ c g here = let-plainly here (plainly a p Γ Δ c g here) (λ σ s. plainly b p (Γ ++ (σ ∷ [])) Δ c (plains-joined Γ (σ ∷ []) g (ap (λ π. π ∷ []) s)) here)
    plainly (p_if a b d) p Γ Δ c g here = if-plainly here (plainly a p Γ Δ c g here) (plainly b p Γ Δ c g here) (plainly d p Γ Δ c g here)
    plainly (p_op a b x) p Γ Δ c g here = rw x (op-plainly here (plainly a p Γ Δ c g here) (plainly b p Γ Δ c g here))
    plainly (p_call l es x) p Γ Δ c g here = rw x (call-plainly here en l (plainly-all es p Γ Δ c g here))
    plainly (p_ctor l es) p Γ Δ c g here = ctor-plainly here l (plainly-all es p Γ Δ c g here)
    plainly (p_case e bs x) p Γ Δ c g here = rw x (case-plainly here (plainly e p Γ Δ c g here) (λ k τ _. plainly-branches bs p Γ Δ k τ c g here))
    plainly (p_adj e) p Γ Δ c g here = adj-plainly here (plainly e p Γ Δ c g here)
    plainly (p_fit {k} {t} a b d) p Γ Δ c g here = fit-plainly here (plainly a p Γ Δ c g here) (plainly b p (Γ ++ (tnamed t k ∷ [])) Δ c (plains-joined Γ (tnamed t k ∷ []) g (ap (λ π. π ∷ []) (plain-named t k))) here) (plainly d p Γ Δ c g here)

    plainly-all : {G : List Plain} {es : Exprs} {πs : List Plain} → PlainTypings P C G es πs → (p : Place) (Γ : List Ty) (Δ : List ℕ) → plains_of_types (channels_at p) ≡ C →
        plains_of_types Γ ≡ G → FrameOf P (frame_at P p) → PlainlyAll P enter p Γ Δ es πs
    plainly-all ps_nil p Γ Δ c g here = none-plainly here
    plainly-all (ps_cons e es) p Γ Δ c g here = more-plainly here (plainly e p Γ Δ c g here) (plainly-all es p Γ Δ c g here)

    plainly-branches : {G : List Plain} {t : ℕ} {cs : List Constructor} {bs : Exprs} {π : Plain} → PlainBranches P C G t cs bs π → (p : Place) (Γ : List Ty) (Δ : List ℕ) (k : ℕ) (τ : Ty) →
        plains_of_types (channels_at p) ≡ C → plains_of_types Γ ≡ G → FrameOf P (frame_at P p) → PlainlyBranches P enter p Γ Δ t k cs bs τ
    plainly-branches p_none p Γ Δ k τ c g here = no-branch-plainly here
    plainly-branches (p_branch {t} {fs} b bs) p Γ Δ k τ c g here =
        branch-plainly here (λ ks. plainly b p (Γ ++ field_types t fs ks) (Δ ++ ks) c (plains-joined Γ (field_types t fs ks) g (fields-plain t fs ks)) here) (plainly-branches bs p Γ Δ k τ c g here)

-- ---- bodies
module _ {P : File} (most : ℕ) (W : WellPlain P) where
  pub enters-plainly : (left : ℕ) → EntersPlainly P (enter_at P most left)
  unfolding enter_at channels_at frame_at
  enters-plainly zero = record { enters = λ frame g F ks τ L l here. found_or-outcome (find L g ks) L (λ n e. tt) (λ new. refused (sizes-only here (omega arith) (omega arith))) }
  enters-plainly (suc left) = record {
    enters = λ frame g F ks τ L l here. found_or-outcome (find L g ks) L (λ n e. tt)
        (λ new. need-outcome _ _ _ (λ _. sizes-only here (omega arith) (omega arith)) (λ _.
        bind-outcome ((plainly (enters-plainly left) (W.bodies g F l) (inside g (summed_measure F.measure ks)) (parameter_types F.parameters ks) ks refl (parameters-plain F.parameters ks) (function-frame P g l)).runs _)
        (λ q _ x. need-outcome _ _ _ (λ _. sizes-only (function-frame P g l) (omega arith) (omega arith)) (λ _. accepted tt))));
  }
