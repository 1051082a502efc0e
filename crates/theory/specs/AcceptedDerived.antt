-- What the size checker accepts, figures 5 to 7 derive with the same type and numbers: expressions and bodies, a lemma a rule.
use Prim.Native.Nat.{ℕ, zero, suc, ◌-◌, ◌<◌}
use mathlib.Core.List.{List, [], ◌∷◌, ◌++◌}
use Rattle.std.specs.Prelude.{Bool, ◌≡◌, length}
use Rattle.std.proofs.Math.Option.{none, some}
use Rattle.std.proofs.Math.Path.{refl, ap}
use Rattle.std.proofs.Common.{sym, ◌∙◌, ltb-true, leb-true, leb-false, eqb-true}
use Rattle.std.proofs.Math.ListN.{get_elem? as look}
use Rattle.language.specs.Result.{Result}
use Rattle.language.specs.Syntax.{Constructor, Ty, Size, ResultType, Op, tnamed, owns, Expr, ebool, eint, evar, enow, elast, elet, eif, eop, ecall, econ, ecase, eadj, efit, Exprs, enil, econs, Function, File, constructors_of}
use Rattle.language.specs.Sizes.{type_at, summed_measure, sizes_of, parameter_types, field_types}
use Rattle.language.specs.Splits.{splits}
use Rattle.language.specs.Estimate.{Estimate, nothing}
use Rattle.language.specs.Typing.{Place, inside, Typing, Typings, Branches, AtSplits}
use Rattle.language.specs.Typing.{t_bool, t_int, t_var, t_node, t_atlast, t_let, t_if, t_op, t_call, t_ctor, t_case, t_adj, t_fit, ts_nil, ts_cons, t_none, t_skip, t_branch, s_none, s_cons}
use Rattle.language.specs.Checker.{Instance, Sized, Sizeds, Counted, at_splits, Enter, sized, sizeds, sized_branches, find, enter_at}
use Rattle.theory.specs.Lists.{none-is-not-some}
use Rattle.theory.specs.Outcomes.{Outcome, accepted, refused, Whatever, outcome-map, bind-outcome, need-outcome, from-outcome, choose-outcome}
use Rattle.theory.specs.CheckerSteps.{named-outcome, found_or-outcome, at_split_of, body_run}
use Rattle.theory.specs.SameTests.{same-type, same-types}
use Rattle.theory.specs.Calls.{Calls, CallsAll, Allowed, Ordered}
use Rattle.theory.specs.Instances.{entered, BodyTyping}
use Rattle.theory.specs.InstanceList.{AnyKey, Ready, Grown, Lasting, grown-not, ready-grown, grown-then, ready-called, found-is-finished, ready-entered, grown-left, left_is}

-- a finished instance: its numbers are those of a derivation of its body
pub record Done (P : File) (r : Instance) : Type 0 where
  pub text : Function
  pub result : Ty
  pub is : look P.functions r.function ≡ some text
  pub fits : type_at r.sizes text.result ≡ some result
  pub body : BodyTyping P r.function text r.sizes result r.numbers

-- that does not depend on the list
abbrev pub DoneIn : File → List Instance → Instance → Type 0
DoneIn P L r = Done P r

pub done-lasts : {P : File} → Lasting (DoneIn P)
done-lasts = record { lasts = λ L M keys r d. d }

same_body : {P : File} {F : Function} {τ : Ty} {n : Estimate} (g : ℕ) (ks : List ℕ) → Done P (entered g ks n) →
    look P.functions g ≡ some F → type_at ks F.result ≡ some τ → BodyTyping P g F ks τ n
same_body {F} {τ} g ks d l r =
    let p : d.text ≡ F = cc (d.is, l) in
    let q : d.result ≡ τ = cc (d.fits, r, p) in
    rw (p, q) at d.body

pub retype : {P : File} {p : Place} {Γ : List Ty} {Δ : List ℕ} {e : Expr} {σ τ : Ty} {n : Estimate} → σ ≡ τ → Typing P p Γ Δ e σ n → Typing P p Γ Δ e τ n
retype same d = rw same at d

-- ---- what a part of the checker is shown to do from any list that is ready
module _ (P : File) (most left : ℕ) where
  pub record Counts (T : Estimate → Type 0) (L : List Instance) (q : Counted) : Type 0 where
    pub typing : T q.numbers
    pub grown : Grown (DoneIn P) AnyKey most left L q.list

  pub record Types (T : Ty → Estimate → Type 0) (L : List Instance) (q : Sized) : Type 0 where
    pub typing : T q.type q.numbers
    pub grown : Grown (DoneIn P) AnyKey most left L q.list

  pub record TypesAll (T : List Ty → Estimate → Type 0) (L : List Instance) (q : Sizeds) : Type 0 where
    pub typing : T q.types q.numbers
    pub grown : Grown (DoneIn P) AnyKey most left L q.list

  abbrev pub ReadyAt : Place → List Instance → Type 0
  ReadyAt p L = Ready P (DoneIn P) AnyKey most left p L

  -- a run whose numbers satisfy T
  pub record CountsRun (p : Place) (T : Estimate → Type 0) (run : List Instance → Result Counted) : Type 0 where
    pub runs : (L : List Instance) → ReadyAt p L → Outcome (Counts T L) Whatever (run L)

module _ (P : File) (enter : Enter) (most left : ℕ) where
  pub record Derived (p : Place) (Γ : List Ty) (Δ : List ℕ) (e : Expr) : Type 0 where
    pub runs : (L : List Instance) → ReadyAt P most left p L → Outcome (Types P most left (Typing P p Γ Δ e) L) Whatever (sized P enter e p Γ Δ L)

  pub record DerivedAll (p : Place) (Γ : List Ty) (Δ : List ℕ) (es : Exprs) : Type 0 where
    pub runs : (L : List Instance) → ReadyAt P most left p L → Outcome (TypesAll P most left (Typings P p Γ Δ es) L) Whatever (sizeds P enter es p Γ Δ L)

  pub record DerivedBranches (p : Place) (Γ : List Ty) (Δ : List ℕ) (t k : ℕ) (cs : List Constructor) (bs : Exprs) (τ : Ty) : Type 0 where
    pub runs : (L : List Instance) → ReadyAt P most left p L → Outcome (Counts P most left (Branches P p Γ Δ t k cs bs τ) L) Whatever (sized_branches P enter bs cs p Γ Δ t k τ L)

  pub record EntersDerived : Type 0 where
    pub enters : (frame g : ℕ) (F : Function) (ks : List ℕ) (τ : Ty) → look P.functions g ≡ some F → type_at ks F.result ≡ some τ →
        CountsRun P most left (inside g (suc (summed_measure F.measure ks))) (BodyTyping P g F ks τ) (enter frame g F ks τ)

-- one branch at each of these splits
splits-derived : {P : File} {most left : ℕ} {p : Place} {Γ : List Ty} {Δ : List ℕ} {t : ℕ} {fs : Constructor} {b : Expr} {τ : Ty} (f : List ℕ → List Instance → Result Counted) (kss : List (List ℕ)) →
    ((ks : List ℕ) → CountsRun P most left p (Typing P p (Γ ++ field_types t fs ks) (Δ ++ ks) b τ) (f ks)) → CountsRun P most left p (AtSplits P p Γ Δ t fs kss b τ) (at_splits kss f)
unfolding at_splits
splits-derived f [] h = record { runs = λ L rd. accepted (record { typing = s_none refl; grown = grown-not rd.tidy }) }
splits-derived f (ks ∷ kss) h = record {
  runs = λ L rd. bind-outcome ((h ks).runs L rd) (λ q _ x. bind-outcome ((splits-derived f kss h).runs q.list (ready-grown x.grown rd)) (λ r _ y.
      accepted (record { typing = s_cons x.typing y.typing refl; grown = grown-then x.grown y.grown })));
}

-- ---- the rules
module _ {P : File} {enter : Enter} {most left : ℕ} {p : Place} {Γ : List Ty} {Δ : List ℕ} where
  bool-derived : {b : Bool} → Derived P enter most left p Γ Δ (ebool b)
  unfolding sized
  bool-derived = record { runs = λ L rd. accepted (record { typing = t_bool refl; grown = grown-not rd.tidy }) }

  int-derived : {i : ℕ} → Derived P enter most left p Γ Δ (eint i)
  unfolding sized
  int-derived = record { runs = λ L rd. accepted (record { typing = t_int refl; grown = grown-not rd.tidy }) }

  var-derived : {v : ℕ} → Derived P enter most left p Γ Δ (evar v)
  unfolding sized
  var-derived = record { runs = λ L rd. from-outcome _ _ _ (λ _. tt) (λ τ e. accepted (record { typing = t_var e refl; grown = grown-not rd.tidy })) }

  now-derived : {c : ℕ} → Derived P enter most left p Γ Δ (enow c)
  unfolding sized
  now-derived = record { runs = λ L rd. from-outcome _ _ _ (λ _. tt) (λ τ e. accepted (record { typing = t_node e refl; grown = grown-not rd.tidy })) }

  last-derived : {c : ℕ} → Derived P enter most left p Γ Δ (elast c)
  unfolding sized
  last-derived = record { runs = λ L rd. from-outcome _ _ _ (λ _. tt) (λ τ e. accepted (record { typing = t_atlast e refl; grown = grown-not rd.tidy })) }

  let-derived : {a b : Expr} → Derived P enter most left p Γ Δ a → ((σ : Ty) → Derived P enter most left p (Γ ++ (σ ∷ [])) Δ b) → Derived P enter most left p Γ Δ (elet a b)
  unfolding sized
  let-derived f g = record {
    runs = λ L rd. bind-outcome (f.runs L rd) (λ q _ x. bind-outcome ((g q.type).runs q.list (ready-grown x.grown rd)) (λ r _ y.
        accepted (record { typing = t_let x.typing y.typing refl; grown = grown-then x.grown y.grown })));
  }

  if-derived : {a b d : Expr} → Derived P enter most left p Γ Δ a → Derived P enter most left p Γ Δ b → Derived P enter most left p Γ Δ d → Derived P enter most left p Γ Δ (eif a b d)
  unfolding sized
  if-derived f g h = record {
    runs = λ L rd. bind-outcome (f.runs L rd) (λ q _ x. need-outcome _ _ _ (λ _. tt) (λ i.
        let rx = ready-grown x.grown rd in bind-outcome (g.runs q.list rx) (λ r _ y. bind-outcome (h.runs r.list (ready-grown y.grown rx)) (λ s _ z. need-outcome _ _ _ (λ _. tt) (λ j.
        accepted (record { typing = t_if (retype (same-type _ _ i) x.typing) y.typing (retype (same-type _ _ j) z.typing) refl; grown = grown-then x.grown (grown-then y.grown z.grown) }))))));
  }

  op-derived : {o : Op} {a b : Expr} → Derived P enter most left p Γ Δ a → Derived P enter most left p Γ Δ b → Derived P enter most left p Γ Δ (eop o a b)
  unfolding sized
  op-derived f g = record {
    runs = λ L rd. bind-outcome (f.runs L rd) (λ q _ x. need-outcome _ _ _ (λ _. tt) (λ i. bind-outcome (g.runs q.list (ready-grown x.grown rd)) (λ r _ y. need-outcome _ _ _ (λ _. tt) (λ j.
        accepted (record { typing = t_op refl (retype (same-type _ _ i) x.typing) (retype (same-type _ _ j) y.typing) refl refl; grown = grown-then x.grown y.grown })))));
  }

  call-derived : {g : ℕ} {es : Exprs} → EntersDerived P enter most left → Allowed p g → DerivedAll P enter most left p Γ Δ es → Derived P enter most left p Γ Δ (ecall g es)
  unfolding sized
  call-derived {g} en a f = record {
    runs = λ L rd. bind-outcome (f.runs L rd) (λ q _ x. from-outcome _ _ _ (λ _. tt) (λ F l. let ks = sizes_of q.types in
        need-outcome _ _ _ (λ _. tt) (λ i. need-outcome _ _ _ (λ _. tt) (λ c. need-outcome _ _ _ (λ _. tt) (λ less. from-outcome _ _ _ (λ _. tt) (λ τ fits.
        bind-outcome ((en.enters _ g F ks τ l fits).runs q.list (ready-called g (summed_measure F.measure ks) a less (ready-grown x.grown rd))) (λ r _ y.
        accepted (record { typing = t_call x.typing l refl (same-types _ _ i) c less fits y.typing refl; grown = grown-then x.grown y.grown }))))))));
  }

  ctor-derived : {t i : ℕ} {es : Exprs} → DerivedAll P enter most left p Γ Δ es → Derived P enter most left p Γ Δ (econ t i es)
  unfolding sized
  ctor-derived f = record {
    runs = λ L rd. bind-outcome (f.runs L rd) (λ q _ x. from-outcome _ _ _ (λ _. tt) (λ fs l. need-outcome _ _ _ (λ _. tt) (λ less. need-outcome _ _ _ (λ _. tt) (λ i.
        accepted (record { typing = t_ctor x.typing l refl (ltb-true _ _ less) (same-types _ _ i) refl refl; grown = x.grown })))));
  }

  case-derived : {t : ℕ} {e : Expr} {r : ResultType} {bs : Exprs} → Derived P enter most left p Γ Δ e →
      ((k : ℕ) (τ : Ty) → DerivedBranches P enter most left p Γ Δ t k (constructors_of P t) bs τ) →
      Derived P enter most left p Γ Δ (ecase t e r bs)
  unfolding sized
  case-derived f g = record {
    runs = λ L rd. bind-outcome (f.runs L rd) (λ q _ x. named-outcome _ _ tt (λ u k i. need-outcome _ _ _ (λ _. tt) (λ j. from-outcome _ _ _ (λ _. tt) (λ τ fits.
        bind-outcome ((g k τ).runs q.list (ready-grown x.grown rd)) (λ s _ y.
        accepted (record { typing = t_case (retype (i ∙ ap (λ v. tnamed v k) (eqb-true _ _ j)) x.typing) fits y.typing refl; grown = grown-then x.grown y.grown }))))));
  }

  adj-derived : {s : Size} {e : Expr} → Derived P enter most left p Γ Δ e → Derived P enter most left p Γ Δ (eadj s e)
  unfolding sized
  adj-derived f = record {
    runs = λ L rd. from-outcome _ _ _ (λ _. tt) (λ k i. bind-outcome (f.runs L rd) (λ q _ x. named-outcome _ _ tt (λ t j same. need-outcome _ _ _ (λ _. tt) (λ le.
        accepted (record { typing = t_adj i (retype same x.typing) (leb-true _ _ le); grown = x.grown })))));
  }

  fit-derived : {k : ℕ} {a b d : Expr} → Derived P enter most left p Γ Δ a → ((t : ℕ) → Derived P enter most left p (Γ ++ (tnamed t k ∷ [])) Δ b) → Derived P enter most left p Γ Δ d →
      Derived P enter most left p Γ Δ (efit k a b d)
  unfolding sized
  fit-derived f g h = record {
    runs = λ L rd. bind-outcome (f.runs L rd) (λ q _ x. named-outcome _ _ tt (λ t j i.
        let rx = ready-grown x.grown rd in bind-outcome ((g t).runs q.list rx) (λ r _ y. bind-outcome (h.runs r.list (ready-grown y.grown rx)) (λ s _ z. need-outcome _ _ _ (λ _. tt) (λ m.
        accepted (record { typing = t_fit (retype i x.typing) y.typing (retype (same-type _ _ m) z.typing) refl; grown = grown-then x.grown (grown-then y.grown z.grown) }))))));
  }

  -- ---- arguments, branches
  none-derived : DerivedAll P enter most left p Γ Δ enil
  unfolding sizeds
  none-derived = record { runs = λ L rd. accepted (record { typing = ts_nil refl; grown = grown-not rd.tidy }) }

  more-derived : {e : Expr} {es : Exprs} → Derived P enter most left p Γ Δ e → DerivedAll P enter most left p Γ Δ es → DerivedAll P enter most left p Γ Δ (econs e es)
  unfolding sizeds
  more-derived f g = record {
    runs = λ L rd. bind-outcome (f.runs L rd) (λ q _ x. bind-outcome (g.runs q.list (ready-grown x.grown rd)) (λ r _ y.
        accepted (record { typing = ts_cons x.typing y.typing refl; grown = grown-then x.grown y.grown })));
  }

  no-branch-derived : {t k : ℕ} {τ : Ty} → DerivedBranches P enter most left p Γ Δ t k [] enil τ
  unfolding sized_branches
  no-branch-derived = record { runs = λ L rd. accepted (record { typing = t_none refl; grown = grown-not rd.tidy }) }

  branch-derived : {t k : ℕ} {fs : Constructor} {cs : List Constructor} {b : Expr} {bs : Exprs} {τ : Ty} →
      ((ks : List ℕ) → Derived P enter most left p (Γ ++ field_types t fs ks) (Δ ++ ks) b) → DerivedBranches P enter most left p Γ Δ t k cs bs τ →
      DerivedBranches P enter most left p Γ Δ t k (fs ∷ cs) (econs b bs) τ
  unfolding sized_branches
  branch-derived {t} {k} {fs} {cs} {b} {bs} {τ} f g = record {
    runs = λ L rd. choose-outcome _
        (λ i. outcome-map (λ q x. record { typing = t_skip (leb-true k (owns fs) i) x.typing; grown = x.grown }) (g.runs L rd))
        (λ i. bind-outcome ((splits-derived {b = b} (at_split_of P enter p Γ Δ t fs b τ) (splits (owns fs) (k - 1)) at_split).runs L rd) (λ q _ x. bind-outcome (g.runs q.list (ready-grown x.grown rd)) (λ r _ y.
        accepted (record { typing = t_branch (leb-false k (owns fs) i) x.typing y.typing refl; grown = grown-then x.grown y.grown }))));
  }
    where
      at_split : (ks : List ℕ) → CountsRun P most left p (Typing P p (Γ ++ field_types t fs ks) (Δ ++ ks) b τ) (at_split_of P enter p Γ Δ t fs b τ ks)
      at_split ks = record { runs = λ M rm. bind-outcome ((f ks).runs M rm) (λ q _ x. need-outcome _ _ _ (λ _. tt) (λ j. accepted (record { typing = retype (same-type _ _ j) x.typing; grown = x.grown }))) }

-- ---- every expression
module _ (P : File) (enter : Enter) (most left : ℕ) (en : EntersDerived P enter most left) where
  mutual
    unfolding sized_branches

    pub derived : (e : Expr) (p : Place) (Γ : List Ty) (Δ : List ℕ) → Calls (Allowed p) e → Derived P enter most left p Γ Δ e
    derived (ebool b) p Γ Δ w = bool-derived
    derived (eint i) p Γ Δ w = int-derived
    derived (evar v) p Γ Δ w = var-derived
    derived (enow c) p Γ Δ w = now-derived
    derived (elast c) p Γ Δ w = last-derived
    derived (elet a b) p Γ Δ w = let-derived (derived a p Γ Δ w.0) (λ σ. derived b p (Γ ++ (σ ∷ [])) Δ w.1)
    derived (eif a b d) p Γ Δ w = if-derived (derived a p Γ Δ w.0) (derived b p Γ Δ w.1) (derived d p Γ Δ w.2)
    derived (eop o a b) p Γ Δ w = op-derived (derived a p Γ Δ w.0) (derived b p Γ Δ w.1)
    derived (ecall g es) p Γ Δ w = call-derived en w.0 (derived-all es p Γ Δ w.1)
    derived (econ t i es) p Γ Δ w = ctor-derived (derived-all es p Γ Δ w)
    derived (ecase t e r bs) p Γ Δ w = case-derived (derived e p Γ Δ w.0) (λ k τ. derived-branches bs (constructors_of P t) p Γ Δ t k τ w.1)
    derived (eadj s e) p Γ Δ w = adj-derived (derived e p Γ Δ w)
    derived (efit k a b d) p Γ Δ w = fit-derived (derived a p Γ Δ w.0) (λ t. derived b p (Γ ++ (tnamed t k ∷ [])) Δ w.1) (derived d p Γ Δ w.2)

    derived-all : (es : Exprs) (p : Place) (Γ : List Ty) (Δ : List ℕ) → CallsAll (Allowed p) es → DerivedAll P enter most left p Γ Δ es
    derived-all enil p Γ Δ w = none-derived
    derived-all (econs e es) p Γ Δ w = more-derived (derived e p Γ Δ w.0) (derived-all es p Γ Δ w.1)

    derived-branches : (bs : Exprs) (cs : List Constructor) (p : Place) (Γ : List Ty) (Δ : List ℕ) (t k : ℕ) (τ : Ty) → CallsAll (Allowed p) bs →
        DerivedBranches P enter most left p Γ Δ t k cs bs τ
    derived-branches enil [] p Γ Δ t k τ w = no-branch-derived
    derived-branches enil (fs ∷ cs) p Γ Δ t k τ w = record { runs = λ L rd. refused tt }
    derived-branches (econs b bs) [] p Γ Δ t k τ w = record { runs = λ L rd. refused tt }
    derived-branches (econs b bs) (fs ∷ cs) p Γ Δ t k τ w = branch-derived (λ ks. derived b p (Γ ++ field_types t fs ks) (Δ ++ ks) w.0) (derived-branches bs cs p Γ Δ t k τ w.1)

-- ---- bodies
body-derived : {P : File} {enter : Enter} {most left : ℕ} {F : Function} (g : ℕ) (ks : List ℕ) (L : List Instance) → Ordered P → EntersDerived P enter most left →
    look P.functions g ≡ some F → find L g ks ≡ none → length L < most → ReadyAt P most (suc left) (inside g (suc (summed_measure F.measure ks))) L →
    Outcome (Types P most left (BodyTyping P g F ks) (L ++ (entered g ks nothing ∷ []))) Whatever (body_run P enter g F ks L)
body-derived {P} {enter} {most} {left} {F} g ks L ordered en l new less rd =
    (derived P enter most left en F.body (inside g (summed_measure F.measure ks)) (parameter_types F.parameters ks) ks (ordered.calls g F l)).runs _ (ready-entered done-lasts g ks l new less tt rd)

module _ (P : File) (most : ℕ) (ordered : Ordered P) where
  pub enters-derived : (left : ℕ) → EntersDerived P (enter_at P most left) most left
  unfolding enter_at
  enters-derived zero = record {
    enters = λ frame g F ks τ l fits. record {
      runs = λ L rd. found_or-outcome (find L g ks) L
          (λ n e. record { typing = same_body g ks (found-is-finished g ks L l rd.known e) l fits; grown = grown-not rd.tidy }) (λ _. refused tt);
    };
  }
  enters-derived (suc left) = record {
    enters = λ frame g F ks τ l fits. record {
      runs = λ L rd. found_or-outcome (find L g ks) L
          (λ n e. record { typing = same_body g ks (found-is-finished g ks L l rd.known e) l fits; grown = grown-not rd.tidy })
          (λ new. need-outcome _ _ _ (λ _. tt) (λ less. bind-outcome (body-derived g ks L ordered (enters-derived left) l new (ltb-true _ _ less) rd)
          (λ q _ x. need-outcome _ _ _ (λ _. tt) (λ j. let d = retype (same-type _ _ j) x.typing in
          accepted (record { typing = d; grown = grown-left L _ _ refl x.grown done-lasts (record { text = F; result = τ; is = l; fits = fits; body = d }) })))));
    };
  }

-- "in order of entry": a body that is entered has its record next in the list, and those of the bodies inside it after that
pub record EnteredNext (g : ℕ) (ks : List ℕ) (L M : List Instance) : Type 0 where
  pub numbers : Estimate
  pub inner : List Instance
  pub is : M ≡ L ++ (entered g ks numbers ∷ inner)

pub entered-next : {P : File} {most left : ℕ} {F : Function} (frame g : ℕ) (ks : List ℕ) (τ : Ty) (L : List Instance) → Ordered P → look P.functions g ≡ some F → find L g ks ≡ none →
    ReadyAt P most (suc left) (inside g (suc (summed_measure F.measure ks))) L → Outcome (λ (q : Counted). EnteredNext g ks L q.list) Whatever (enter_at P most (suc left) frame g F ks τ L)
unfolding enter_at
entered-next {P} {most} {left} frame g ks τ L ordered l new rd = found_or-outcome (find L g ks) L (λ n e. none-is-not-some (sym new ∙ e))
    (λ _. need-outcome _ _ _ (λ _. tt) (λ less. bind-outcome (body-derived g ks L ordered (enters-derived P most ordered left) l new (ltb-true _ _ less) rd)
    (λ q _ x. need-outcome _ _ _ (λ _. tt) (λ _. accepted (record { numbers = q.numbers; inner = x.grown.more; is = left_is L (entered g ks nothing) (entered g ks q.numbers) refl x.grown })))))
