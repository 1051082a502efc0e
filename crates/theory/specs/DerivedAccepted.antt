-- What figures 5 to 7 derive, the size checker accepts with the same type and numbers, or the derivation needs more instances
-- than may be entered: expressions and bodies, a lemma a rule. The list then holds the derivation's instances, and no others.
use Rattle.std.specs.Prelude.{ℕ, suc, ◌+◌, ◌-◌, ◌≤◌, ◌<◌, Bool, true, ◌≡◌, refl, length}
use mathlib.Core.List.{List, [], ◌∷◌, ◌++◌, Memᴰ as In}
use Rattle.std.proofs.Math.Option.{some}
use Rattle.std.proofs.Math.Path.{sym, ap}
use Rattle.std.proofs.Common.{subst, ◌∙◌, lt-ltb, le-leb, eq-eqb}
use Rattle.std.proofs.Math.ListN.{get_elem? as look}
use Rattle.std.proofs.lemmas.Bool.{lt-leb}
use Rattle.language.specs.Limits.{size_most}
use Rattle.language.specs.Refusals.{too_many_instances}
use Rattle.language.specs.Result.{Result}
use Rattle.language.specs.Syntax.{Constructor, Ty, Size, ResultType, Op, tbool, tint, tnamed, owns, Expr, ebool, eint, evar, enow, elast, elet, eif, eop, ecall, econ, ecase, eadj, efit, Exprs, enil, econs, Function, File, constructors_of}
use Rattle.language.specs.PlainTypes.{operand_type, op_type}
use Rattle.language.specs.Sizes.{type_size, type_at, conditions_hold, sum, summed_measure, sizes_of, parameter_types, field_types, own_sizes}
use Rattle.language.specs.Splits.{splits}
use Rattle.language.specs.Estimate.{Estimate, nothing, one_cell, after, either, with_slots, in_call}
use Rattle.language.specs.Typing.{Place, inside, channels_at, falls, base_type, Typing, Typings, Branches, AtSplits}
use Rattle.language.specs.Typing.{t_bool, t_int, t_var, t_node, t_atlast, t_let, t_if, t_op, t_call, t_ctor, t_case, t_adj, t_fit, ts_nil, ts_cons, t_none, t_skip, t_branch, s_none, s_cons}
use Rattle.language.specs.Checker.{Instance, Sized, Sizeds, Counted, at_splits, Enter, sized, sizeds, sized_branches}
use Rattle.language.specs.Within.{All, all_nil}
use Rattle.theory.specs.Outcomes.{Outcome, accepted, bind-outcome, need-holds, from-holds, choose-first, choose-second}
use Rattle.theory.specs.CheckerSteps.{named-holds, at_split_of}
use Rattle.theory.specs.SameTests.{type-same, types_same}
use Rattle.theory.specs.Alls.{all_append, all_map, all_first, all_left, all_rest, all_right}
use Rattle.theory.specs.Different.{MoreThan}
use Rattle.theory.specs.Calls.{Calls, CallsAll, Allowed}
use Rattle.language.specs.Instances.{Key, key, instances_of, instances_of_all, instances_of_branches, instances_at_splits}
use Rattle.theory.specs.Instances.{keys_of, BodyTyping}
use Rattle.theory.specs.InstanceList.{Tidy, Ready, Grown, Lasting, grown-not, ready-grown, grown-then, grown-keys, ready-called}

-- all of these instances stand in the list
abbrev pub Stand : List Instance → List Key → Type 0
Stand L is = All (λ k. In k (keys_of L)) is

-- a finished instance: every derivation of its body has its numbers, and needs only instances that stand in the list
pub record Sole (P : File) (L : List Instance) (r : Instance) : Type 0 where
  pub numbers : (F : Function) (τ : Ty) (n : Estimate) → look P.functions r.function ≡ some F → type_at r.sizes F.result ≡ some τ → BodyTyping P r.function F r.sizes τ n →
      r.numbers ≡ n
  pub stand : (F : Function) (τ : Ty) (n : Estimate) → look P.functions r.function ≡ some F → type_at r.sizes F.result ≡ some τ →
      (d : BodyTyping P r.function F r.sizes τ n) → Stand L (instances_of d)

pub sole-lasts : {P : File} → Lasting (Sole P)
sole-lasts = record { lasts = λ L M keys r s. record { numbers = s.numbers; stand = λ F τ n l f d. all_map keys (s.stand F τ n l f d) } }

-- the only refusal: 14, with more different instances wanted than may be entered
pub record TooMany (K : Key → Type 0) (most n frame : ℕ) : Type 0 where
  pub is : n ≡ too_many_instances
  pub more : MoreThan most K

-- ---- what a part of the checker is shown to do from any list that is ready. K: the instances wanted, among which those of
-- the derivation are; is: the instances of the derivation
module _ (P : File) (K : Key → Type 0) (most left : ℕ) where
  pub record Listed (L : List Instance) (is : List Key) (M : List Instance) : Type 0 where
    pub grown : Grown (Sole P) K most left L M
    pub stand : Stand M is

  pub record Same (τ : Ty) (n : Estimate) (is : List Key) (L : List Instance) (q : Sized) : Type 0 where
    pub type : q.type ≡ τ
    pub numbers : q.numbers ≡ n
    pub listed : Listed L is q.list

  pub record SameAll (τs : List Ty) (n : Estimate) (is : List Key) (L : List Instance) (q : Sizeds) : Type 0 where
    pub types : q.types ≡ τs
    pub numbers : q.numbers ≡ n
    pub listed : Listed L is q.list

  pub record SameCount (n : Estimate) (is : List Key) (L : List Instance) (q : Counted) : Type 0 where
    pub numbers : q.numbers ≡ n
    pub listed : Listed L is q.list

  abbrev pub ReadyFor : Place → List Instance → Type 0
  ReadyFor p L = Ready P (Sole P) K most left p L

  pub record AgreesCount (p : Place) (n : Estimate) (is : List Key) (run : List Instance → Result Counted) : Type 0 where
    pub runs : (L : List Instance) → ReadyFor p L → Outcome (SameCount n is L) (TooMany K most) (run L)

module _ (P : File) (enter : Enter) (K : Key → Type 0) (most left : ℕ) where
  pub record Agrees (p : Place) (Γ : List Ty) (Δ : List ℕ) (e : Expr) (τ : Ty) (n : Estimate) (is : List Key) : Type 0 where
    pub runs : (L : List Instance) → ReadyFor P K most left p L → Outcome (Same P K most left τ n is L) (TooMany K most) (sized P enter e p Γ Δ L)

  pub record AgreesAll (p : Place) (Γ : List Ty) (Δ : List ℕ) (es : Exprs) (τs : List Ty) (n : Estimate) (is : List Key) : Type 0 where
    pub runs : (L : List Instance) → ReadyFor P K most left p L → Outcome (SameAll P K most left τs n is L) (TooMany K most) (sizeds P enter es p Γ Δ L)

  pub record AgreesBranches (p : Place) (Γ : List Ty) (Δ : List ℕ) (t k : ℕ) (cs : List Constructor) (bs : Exprs) (τ : Ty) (n : Estimate) (is : List Key) : Type 0 where
    pub runs : (L : List Instance) → ReadyFor P K most left p L → Outcome (SameCount P K most left n is L) (TooMany K most) (sized_branches P enter bs cs p Γ Δ t k τ L)

  pub record AgreesSplits (p : Place) (Γ : List Ty) (Δ : List ℕ) (t : ℕ) (fs : Constructor) (kss : List (List ℕ)) (b : Expr) (τ : Ty) (n : Estimate) (is : List Key) : Type 0 where
    pub runs : (L : List Instance) → ReadyFor P K most left p L → Outcome (SameCount P K most left n is L) (TooMany K most) (at_splits kss (at_split_of P enter p Γ Δ t fs b τ) L)

pub record EntersAgree (P : File) (enter : Enter) (most left : ℕ) : Type 1 where
  pub enters : (K : Key → Type 0) (frame g : ℕ) (F : Function) (ks : List ℕ) (τ : Ty) (n : Estimate) → look P.functions g ≡ some F → type_at ks F.result ≡ some τ →
      (d : BodyTyping P g F ks τ n) →
      K (key g ks) → All K (instances_of d) → AgreesCount P K most left (inside g (suc (summed_measure F.measure ks))) n (key g ks ∷ instances_of d) (enter frame g F ks τ)

module _ {P : File} {K : Key → Type 0} {most left : ℕ} where
  pub listed-not : {L : List Instance} → Tidy K most left L → Listed P K most left L [] L
  listed-not t = record { grown = grown-not t; stand = all_nil }

  pub listed_then : {is js : List Key} {L M N : List Instance} → Listed P K most left L is M → Listed P K most left M js N → Listed P K most left L (is ++ js) N
  listed_then f g = record { grown = grown-then f.grown g.grown; stand = all_append (all_map (grown-keys g.grown) f.stand) g.stand }

-- ---- the rules
module _ {P : File} {enter : Enter} {K : Key → Type 0} {most left : ℕ} {p : Place} {Γ : List Ty} {Δ : List ℕ} where
  bool-agrees : {b : Bool} → Agrees P enter K most left p Γ Δ (ebool b) tbool one_cell []
  unfolding sized
  bool-agrees = record { runs = λ L rd. accepted (record { type = refl; numbers = refl; listed = listed-not rd.tidy }) }

  int-agrees : {i : ℕ} → Agrees P enter K most left p Γ Δ (eint i) tint one_cell []
  unfolding sized
  int-agrees = record { runs = λ L rd. accepted (record { type = refl; numbers = refl; listed = listed-not rd.tidy }) }

  var-agrees : {v : ℕ} {τ : Ty} → look Γ v ≡ some τ → Agrees P enter K most left p Γ Δ (evar v) τ nothing []
  unfolding sized
  var-agrees e = record { runs = λ L rd. from-holds _ _ _ e (accepted (record { type = refl; numbers = refl; listed = listed-not rd.tidy })) }

  now-agrees : {c : ℕ} {τ : Ty} → look (channels_at p) c ≡ some τ → Agrees P enter K most left p Γ Δ (enow c) τ nothing []
  unfolding sized
  now-agrees e = record { runs = λ L rd. from-holds _ _ _ e (accepted (record { type = refl; numbers = refl; listed = listed-not rd.tidy })) }

  last-agrees : {c : ℕ} {τ : Ty} → look (channels_at p) c ≡ some τ → Agrees P enter K most left p Γ Δ (elast c) τ nothing []
  unfolding sized
  last-agrees e = record { runs = λ L rd. from-holds _ _ _ e (accepted (record { type = refl; numbers = refl; listed = listed-not rd.tidy })) }

  let-agrees : {a b : Expr} {σ τ : Ty} {m n : Estimate} {is js : List Key} → Agrees P enter K most left p Γ Δ a σ m is → Agrees P enter K most left p (Γ ++ (σ ∷ [])) Δ b τ n js →
      Agrees P enter K most left p Γ Δ (elet a b) τ (after m (with_slots 1 n)) (is ++ js)
  unfolding sized
  let-agrees f g = record {
    runs = λ L rd. bind-outcome (f.runs L rd) (λ q _ x. rw x.type (bind-outcome (g.runs q.list (ready-grown x.listed.grown rd)) (λ r _ y.
        accepted (record { type = y.type; numbers = rw (x.numbers, y.numbers); listed = listed_then x.listed y.listed }))));
  }

  if-agrees : {a b d : Expr} {τ : Ty} {l m n : Estimate} {is js ks : List Key} → Agrees P enter K most left p Γ Δ a tbool l is → Agrees P enter K most left p Γ Δ b τ m js →
      Agrees P enter K most left p Γ Δ d τ n ks →
      Agrees P enter K most left p Γ Δ (eif a b d) τ (after l (either m n)) (is ++ (js ++ ks))
  unfolding sized
  if-agrees f g h = record {
    runs = λ L rd. bind-outcome (f.runs L rd) (λ q _ x. need-holds _ _ (type-same x.type) (let rx = ready-grown x.listed.grown rd in
        bind-outcome (g.runs q.list rx) (λ r _ y. bind-outcome (h.runs r.list (ready-grown y.listed.grown rx)) (λ s _ z. need-holds _ _ (type-same (z.type ∙ sym y.type))
        (accepted (record { type = y.type; numbers = rw (x.numbers, y.numbers, z.numbers); listed = listed_then x.listed (listed_then y.listed z.listed) }))))));
  }

  op-agrees : {o : Op} {a b : Expr} {σ τ : Ty} {m n : Estimate} {is js : List Key} → σ ≡ base_type (operand_type o) → Agrees P enter K most left p Γ Δ a σ m is →
      Agrees P enter K most left p Γ Δ b σ n js → τ ≡ base_type (op_type o) →
      Agrees P enter K most left p Γ Δ (eop o a b) τ (after (after m n) one_cell) (is ++ js)
  unfolding sized
  op-agrees operand f g result = record {
    runs = λ L rd. bind-outcome (f.runs L rd) (λ q _ x. need-holds _ _ (type-same (x.type ∙ operand)) (bind-outcome (g.runs q.list (ready-grown x.listed.grown rd)) (λ r _ y. need-holds _ _ (type-same (y.type ∙ operand))
        (accepted (record { type = sym result; numbers = rw (x.numbers, y.numbers); listed = listed_then x.listed y.listed })))));
  }

  call-agrees : {g : ℕ} {es : Exprs} {F : Function} {τs : List Ty} {ks : List ℕ} {τ : Ty} {m n : Estimate} {is js : List Key} → AgreesAll P enter K most left p Γ Δ es τs m is → Allowed p g →
      look P.functions g ≡ some F → sizes_of τs ≡ ks → parameter_types F.parameters ks ≡ τs → conditions_hold ks F.conditions ≡ true → falls p g (summed_measure F.measure ks) ≡ true →
      type_at ks F.result ≡ some τ →
      ((frame : ℕ) → AgreesCount P K most left (inside g (suc (summed_measure F.measure ks))) n js (enter frame g F ks τ)) →
      Agrees P enter K most left p Γ Δ (ecall g es) τ (with_slots (length F.parameters) (after m (in_call n))) (is ++ js)
  unfolding sized
  call-agrees {g} {F} {ks} f a l s i c less fits en = record {
    runs = λ L rd. bind-outcome (f.runs L rd) (λ q _ x. from-holds _ _ _ l (let at : sizes_of q.types ≡ ks = ap sizes_of x.types ∙ s in rw at
        (need-holds _ _ (types_same (i ∙ sym x.types)) (need-holds _ _ c (need-holds _ _ less (from-holds _ _ _ fits
        (bind-outcome ((en _).runs q.list (ready-called g (summed_measure F.measure ks) a less (ready-grown x.listed.grown rd))) (λ r _ y.
        accepted (record { type = refl; numbers = rw (x.numbers, y.numbers); listed = listed_then x.listed y.listed })))))))));
  }

  ctor-agrees : {t i : ℕ} {es : Exprs} {τs : List Ty} {fs : Constructor} {ks : List ℕ} {m : Estimate} {is : List Key} → AgreesAll P enter K most left p Γ Δ es τs m is →
      look (constructors_of P t) i ≡ some fs → own_sizes fs τs ≡ ks → sum ks < size_most → field_types t fs ks ≡ τs →
      Agrees P enter K most left p Γ Δ (econ t i es) (tnamed t (1 + sum ks)) (after m one_cell) is
  unfolding sized
  ctor-agrees {fs} {ks} f l s less i = record {
    runs = λ L rd. bind-outcome (f.runs L rd) (λ q _ x. from-holds _ _ _ l (let at : own_sizes fs q.types ≡ ks = ap (own_sizes fs) x.types ∙ s in rw at
        (need-holds _ _ (lt-ltb (sum ks) size_most less) (need-holds _ _ (types_same (i ∙ sym x.types))
        (accepted (record { type = refl; numbers = rw x.numbers; listed = x.listed }))))));
  }

  case-agrees : {t k : ℕ} {e : Expr} {r : ResultType} {bs : Exprs} {τ : Ty} {m n : Estimate} {is js : List Key} → Agrees P enter K most left p Γ Δ e (tnamed t k) m is → type_at Δ r ≡ some τ →
      AgreesBranches P enter K most left p Γ Δ t k (constructors_of P t) bs τ n js → Agrees P enter K most left p Γ Δ (ecase t e r bs) τ (after m n) (is ++ js)
  unfolding sized
  case-agrees {t} f fits g = record {
    runs = λ L rd. bind-outcome (f.runs L rd) (λ q _ x. named-holds _ _ x.type (need-holds _ _ (eq-eqb t t refl) (from-holds _ _ _ fits
        (bind-outcome (g.runs q.list (ready-grown x.listed.grown rd)) (λ s _ y.
        accepted (record { type = refl; numbers = rw (x.numbers, y.numbers); listed = listed_then x.listed y.listed }))))));
  }

  adj-agrees : {s : Size} {e : Expr} {t j k : ℕ} {m : Estimate} {is : List Key} → type_size Δ s ≡ some k → Agrees P enter K most left p Γ Δ e (tnamed t j) m is → j ≤ k →
      Agrees P enter K most left p Γ Δ (eadj s e) (tnamed t k) m is
  unfolding sized
  adj-agrees {j} {k} fits f le = record {
    runs = λ L rd. from-holds _ _ _ fits (bind-outcome (f.runs L rd) (λ q _ x. named-holds _ _ x.type (need-holds _ _ (le-leb j k le)
        (accepted (record { type = refl; numbers = x.numbers; listed = x.listed })))));
  }

  fit-agrees : {k : ℕ} {a b d : Expr} {t j : ℕ} {τ : Ty} {l m n : Estimate} {is js ks : List Key} → Agrees P enter K most left p Γ Δ a (tnamed t j) l is →
      Agrees P enter K most left p (Γ ++ (tnamed t k ∷ [])) Δ b τ m js →
      Agrees P enter K most left p Γ Δ d τ n ks → Agrees P enter K most left p Γ Δ (efit k a b d) τ (after l (either (with_slots 1 m) n)) (is ++ (js ++ ks))
  unfolding sized
  fit-agrees f g h = record {
    runs = λ L rd. bind-outcome (f.runs L rd) (λ q _ x. named-holds _ _ x.type (let rx = ready-grown x.listed.grown rd in
        bind-outcome (g.runs q.list rx) (λ r _ y. bind-outcome (h.runs r.list (ready-grown y.listed.grown rx)) (λ s _ z. need-holds _ _ (type-same (z.type ∙ sym y.type))
        (accepted (record { type = y.type; numbers = rw (x.numbers, y.numbers, z.numbers); listed = listed_then x.listed (listed_then y.listed z.listed) }))))));
  }

  -- ---- arguments, branches, splits
  none-agrees : AgreesAll P enter K most left p Γ Δ enil [] nothing []
  unfolding sizeds
  none-agrees = record { runs = λ L rd. accepted (record { types = refl; numbers = refl; listed = listed-not rd.tidy }) }

  more-agrees : {e : Expr} {es : Exprs} {τ : Ty} {τs : List Ty} {m n : Estimate} {is js : List Key} → Agrees P enter K most left p Γ Δ e τ m is →
      AgreesAll P enter K most left p Γ Δ es τs n js →
      AgreesAll P enter K most left p Γ Δ (econs e es) (τ ∷ τs) (after m n) (is ++ js)
  unfolding sizeds
  more-agrees f g = record {
    runs = λ L rd. bind-outcome (f.runs L rd) (λ q _ x. bind-outcome (g.runs q.list (ready-grown x.listed.grown rd)) (λ r _ y.
        accepted (record { types = rw (x.type, y.types); numbers = rw (x.numbers, y.numbers); listed = listed_then x.listed y.listed })));
  }

  no-branch-agrees : {t k : ℕ} {τ : Ty} → AgreesBranches P enter K most left p Γ Δ t k [] enil τ nothing []
  unfolding sized_branches
  no-branch-agrees = record { runs = λ L rd. accepted (record { numbers = refl; listed = listed-not rd.tidy }) }

  skip-agrees : {t k : ℕ} {fs : Constructor} {cs : List Constructor} {b : Expr} {bs : Exprs} {τ : Ty} {n : Estimate} {is : List Key} → k ≤ owns fs →
      AgreesBranches P enter K most left p Γ Δ t k cs bs τ n is → AgreesBranches P enter K most left p Γ Δ t k (fs ∷ cs) (econs b bs) τ n is
  unfolding sized_branches
  skip-agrees {k} {fs} le g = record { runs = λ L rd. choose-first _ (le-leb k (owns fs) le) (g.runs L rd) }

  branch-agrees : {t k : ℕ} {fs : Constructor} {cs : List Constructor} {b : Expr} {bs : Exprs} {τ : Ty} {m n : Estimate} {is js : List Key} → owns fs < k →
      AgreesSplits P enter K most left p Γ Δ t fs (splits (owns fs) (k - 1)) b τ m is → AgreesBranches P enter K most left p Γ Δ t k cs bs τ n js →
      AgreesBranches P enter K most left p Γ Δ t k (fs ∷ cs) (econs b bs) τ (either (with_slots (length fs) m) n) (is ++ js)
  unfolding sized_branches
  branch-agrees {k} {fs} less f g = record {
    runs = λ L rd. choose-second _ (lt-leb k (owns fs) less) (bind-outcome (f.runs L rd) (λ q _ x. bind-outcome (g.runs q.list (ready-grown x.listed.grown rd)) (λ r _ y.
        accepted (record { numbers = rw (x.numbers, y.numbers); listed = listed_then x.listed y.listed }))));
  }

  no-split-agrees : {t : ℕ} {fs : Constructor} {b : Expr} {τ : Ty} → AgreesSplits P enter K most left p Γ Δ t fs [] b τ nothing []
  unfolding at_splits
  no-split-agrees = record { runs = λ L rd. accepted (record { numbers = refl; listed = listed-not rd.tidy }) }

  split-agrees : {t : ℕ} {fs : Constructor} {ks : List ℕ} {kss : List (List ℕ)} {b : Expr} {τ : Ty} {m n : Estimate} {is js : List Key} →
      Agrees P enter K most left p (Γ ++ field_types t fs ks) (Δ ++ ks) b τ m is →
      AgreesSplits P enter K most left p Γ Δ t fs kss b τ n js → AgreesSplits P enter K most left p Γ Δ t fs (ks ∷ kss) b τ (either m n) (is ++ js)
  unfolding at_splits
  split-agrees {m} {is} f g = record {
    runs = λ L rd. bind-outcome {Q = SameCount P K most left m is L} (bind-outcome (f.runs L rd) (λ q _ x. need-holds _ _ (type-same x.type) (accepted (record { numbers = x.numbers; listed = x.listed }))))
        (λ q _ x. bind-outcome (g.runs q.list (ready-grown x.listed.grown rd)) (λ r _ y.
        accepted (record { numbers = rw (x.numbers, y.numbers); listed = listed_then x.listed y.listed })));
  }

-- ---- every derivation
module _ {P : File} {enter : Enter} {most left : ℕ} (en : EntersAgree P enter most left) (K : Key → Type 0) where
  mutual
    unfolding instances_of

    pub agrees : {p : Place} {Γ : List Ty} {Δ : List ℕ} {e : Expr} {τ : Ty} {n : Estimate} (d : Typing P p Γ Δ e τ n) → Calls (Allowed p) e → All K (instances_of d) →
        Agrees P enter K most left p Γ Δ e τ n (instances_of d)
    agrees (t_bool x) w u = rw x bool-agrees
    agrees (t_int x) w u = rw x int-agrees
    agrees (t_var l x) w u = rw x (var-agrees l)
    agrees (t_node l x) w u = rw x (now-agrees l)
    agrees (t_atlast l x) w u = rw x (last-agrees l)
    agrees (t_let a b x) w u = rw x (let-agrees (agrees a w.0 (all_left (instances_of a) _ u)) (agrees b w.1 (all_right (instances_of a) _ u)))
    agrees (t_if a b d x) w u = rw x (if-agrees (agrees a w.0 (all_left (instances_of a) _ u)) (agrees b w.1 (all_left (instances_of b) _ (all_right (instances_of a) _ u))) (agrees d w.2 (all_right (instances_of b) _ (all_right (instances_of a) _ u))))
    agrees (t_op s a b r x) w u = rw x (op-agrees s (agrees a w.0 (all_left (instances_of a) _ u)) (agrees b w.1 (all_right (instances_of a) _ u)) r)
    agrees (t_call {g} {ks} {F} {τ} {n} es l s i c less fits d x) w u = rw x (call-agrees (agrees-all es w.1 (all_left (instances_of_all es) _ u)) w.0 l s i c less fits
        (λ frame. let v = all_right (instances_of_all es) _ u in en.enters K frame g F ks τ n l fits d (all_first v) (all_rest v)))
    agrees {p} {Γ} {Δ} (t_ctor {t} {i = j} {es = all} {ks} {m} {x = n} es l s less i k x) w u =
        subst (λ (q : ℕ). Agrees P enter K most left p Γ Δ (econ t j all) (tnamed t q) n (instances_of_all es)) (sym k)
        (subst (λ (q : Estimate). Agrees P enter K most left p Γ Δ (econ t j all) (tnamed t (1 + sum ks)) q (instances_of_all es)) (sym x)
        (ctor-agrees (agrees-all es w u) l s less i))
    agrees (t_case e fits bs x) w u = rw x (case-agrees (agrees e w.0 (all_left (instances_of e) _ u)) fits (agrees-branches bs w.1 (all_right (instances_of e) _ u)))
    agrees (t_adj fits e le) w u = adj-agrees fits (agrees e w u) le
    agrees (t_fit a b d x) w u = rw x (fit-agrees (agrees a w.0 (all_left (instances_of a) _ u)) (agrees b w.1 (all_left (instances_of b) _ (all_right (instances_of a) _ u))) (agrees d w.2 (all_right (instances_of b) _ (all_right (instances_of a) _ u))))

    agrees-all : {p : Place} {Γ : List Ty} {Δ : List ℕ} {es : Exprs} {τs : List Ty} {n : Estimate} (d : Typings P p Γ Δ es τs n) → CallsAll (Allowed p) es → All K (instances_of_all d) →
        AgreesAll P enter K most left p Γ Δ es τs n (instances_of_all d)
    agrees-all (ts_nil x) w u = rw x none-agrees
    agrees-all (ts_cons e es x) w u = rw x (more-agrees (agrees e w.0 (all_left (instances_of e) _ u)) (agrees-all es w.1 (all_right (instances_of e) _ u)))

    agrees-branches : {p : Place} {Γ : List Ty} {Δ : List ℕ} {t k : ℕ} {cs : List Constructor} {bs : Exprs} {τ : Ty} {n : Estimate} (d : Branches P p Γ Δ t k cs bs τ n) →
        CallsAll (Allowed p) bs → All K (instances_of_branches d) →
        AgreesBranches P enter K most left p Γ Δ t k cs bs τ n (instances_of_branches d)
    agrees-branches (t_none x) w u = rw x no-branch-agrees
    agrees-branches (t_skip le bs) w u = skip-agrees le (agrees-branches bs w.1 u)
    agrees-branches (t_branch less b bs x) w u = rw x (branch-agrees less (agrees-splits b w.0 (all_left (instances_at_splits b) _ u)) (agrees-branches bs w.1 (all_right (instances_at_splits b) _ u)))

    agrees-splits : {p : Place} {Γ : List Ty} {Δ : List ℕ} {t : ℕ} {fs : Constructor} {kss : List (List ℕ)} {b : Expr} {τ : Ty} {n : Estimate} (d : AtSplits P p Γ Δ t fs kss b τ n) →
        Calls (Allowed p) b → All K (instances_at_splits d) →
        AgreesSplits P enter K most left p Γ Δ t fs kss b τ n (instances_at_splits d)
    agrees-splits (s_none x) w u = rw x no-split-agrees
    agrees-splits (s_cons b bs x) w u = rw x (split-agrees (agrees b w (all_left (instances_of b) _ u)) (agrees-splits bs w (all_right (instances_of b) _ u)))
