-- The initial values and updates of a file: what the checker accepts is derived, and what is derived is accepted or needs too
-- many instances.
use Rattle.std.specs.Prelude.{ℕ, suc, ◌≡◌, refl, length}
use mathlib.Core.List.{List, [], ◌∷◌}
use Rattle.std.proofs.Common.{arith}
use Rattle.language.specs.Limits.{instances_most}
use Rattle.language.specs.Syntax.{Ty, Expr, Node, File, channel_frame, declared_types}
use Rattle.language.specs.Estimate.{Estimate}
use Rattle.language.specs.Typing.{outside, Typing, Initials, c_none, c_init, Updates, c_last, c_node}
use Rattle.language.specs.Checker.{Instance, SizedFile, enter_at, sized_channel, sized_initials, sized_updates}
use Rattle.language.specs.Within.{All}
use Rattle.theory.specs.Alls.{all_left, all_right}
use Rattle.theory.specs.Outcomes.{Outcome, accepted, Whatever, outcome-map, bind-outcome, need-outcome, need-holds}
use Rattle.theory.specs.SameTests.{same-type, type-same}
use Rattle.theory.specs.Calls.{Ordered, calls-anything}
use Rattle.language.specs.Instances.{Key, instances_of, instances_of_initials, instances_of_updates}
use Rattle.theory.specs.InstanceList.{Grown, grown-not, grown-then, Settled, ready-settled, settled-grown, AnyKey}
use Rattle.theory.specs.AcceptedDerived.{DoneIn, Counts, retype, derived, enters-derived}
use Rattle.theory.specs.DerivedAccepted.{Sole, TooMany, Listed, SameCount, listed-not, listed_then, agrees}
use Rattle.theory.specs.EnteredAgrees.{enters-agree}

-- ---- accepted, so derived
abbrev pub SettledDone : File → List Instance → Type 0
SettledDone P L = Settled (DoneIn P) AnyKey instances_most instances_most L

abbrev pub GrownDone : File → List Instance → List Instance → Type 0
GrownDone P L M = Grown (DoneIn P) AnyKey instances_most instances_most L M

pub record InitialsDerived (P : File) (c : ℕ) (es : List Expr) (τs : List Ty) (L M : List Instance) : Type 0 where
  pub typing : Initials P c es τs
  pub grown : GrownDone P L M

pub record UpdatesDerived (P : File) (c : ℕ) (ns : List Node) (L : List Instance) (q : SizedFile) : Type 0 where
  pub typing : Updates P c ns q.updates
  pub grown : GrownDone P L q.list

module _ (P : File) (ordered : Ordered P) where
  channel-derived : (c : ℕ) (C : List Ty) (e : Expr) (τ : Ty) (L : List Instance) → SettledDone P L →
      Outcome (Counts P instances_most instances_most (Typing P (outside (channel_frame P c) C) [] [] e τ) L) Whatever (sized_channel P c C e τ L)
  unfolding sized_channel
  channel-derived c C e τ L s = bind-outcome
      ((derived P (enter_at P instances_most instances_most) instances_most instances_most (enters-derived P instances_most ordered instances_most) e (outside (channel_frame P c) C) [] [] (calls-anything e)).runs L (ready-settled s))
      (λ q _ x. need-outcome _ _ _ (λ _. tt) (λ i. accepted (record { typing = retype (same-type _ _ i) x.typing; grown = x.grown })))

  pub initials-derived : (c : ℕ) (es : List Expr) (τs : List Ty) (L : List Instance) → length es ≡ length τs → SettledDone P L →
      Outcome (InitialsDerived P c es τs L) Whatever (sized_initials P c es τs L)
  unfolding sized_initials
  initials-derived c [] [] L same s = accepted (record { typing = c_none; grown = grown-not s.tidy })
  initials-derived c [] (τ ∷ τs) L same s = absurd (omega arith)
  initials-derived c (e ∷ es) [] L same s = absurd (omega arith)
  initials-derived c (e ∷ es) (τ ∷ τs) L same s = bind-outcome (channel-derived c [] e τ L s) (λ q _ x.
      outcome-map (λ M y. record { typing = c_init x.typing y.typing; grown = grown-then x.grown y.grown }) (initials-derived (suc c) es τs q.list (omega arith) (settled-grown x.grown s)))

  pub updates-derived : (c : ℕ) (ns : List Node) (L : List Instance) → SettledDone P L → Outcome (UpdatesDerived P c ns L) Whatever (sized_updates P c ns L)
  unfolding sized_updates
  updates-derived c [] L s = accepted (record { typing = c_last; grown = grown-not s.tidy })
  updates-derived c (n ∷ ns) L s = bind-outcome (channel-derived c (declared_types P) n.update n.declared L s) (λ q _ x. bind-outcome (updates-derived (suc c) ns q.list (settled-grown x.grown s)) (λ r _ y.
      accepted (record { typing = c_node x.typing y.typing; grown = grown-then x.grown y.grown })))

-- ---- derived, so accepted or too many
abbrev pub SettledSole : File → (Key → Type 0) → List Instance → Type 0
SettledSole P K L = Settled (Sole P) K instances_most instances_most L

abbrev pub ListedSole : File → (Key → Type 0) → List Instance → List Key → List Instance → Type 0
ListedSole P K L is M = Listed P K instances_most instances_most L is M

pub record UpdatesSame (P : File) (K : Key → Type 0) (xs : List Estimate) (is : List Key) (L : List Instance) (q : SizedFile) : Type 0 where
  pub numbers : q.updates ≡ xs
  pub listed : ListedSole P K L is q.list

module _ (P : File) (ordered : Ordered P) (K : Key → Type 0) where
  channel-agrees : (c : ℕ) {C : List Ty} {e : Expr} {τ : Ty} {n : Estimate} (d : Typing P (outside (channel_frame P c) C) [] [] e τ n) (L : List Instance) → All K (instances_of d) →
      SettledSole P K L →
      Outcome (SameCount P K instances_most instances_most n (instances_of d) L) (TooMany K instances_most) (sized_channel P c C e τ L)
  unfolding sized_channel
  channel-agrees c {e} d L u s = bind-outcome ((agrees (enters-agree P instances_most ordered instances_most) K d (calls-anything e) u).runs L (ready-settled s))
      (λ q _ x. need-holds _ _ (type-same x.type) (accepted (record { numbers = x.numbers; listed = x.listed })))

  pub initials-agree : {c : ℕ} {es : List Expr} {τs : List Ty} (d : Initials P c es τs) (L : List Instance) → All K (instances_of_initials d) → SettledSole P K L →
      Outcome (ListedSole P K L (instances_of_initials d)) (TooMany K instances_most) (sized_initials P c es τs L)
  unfolding sized_initials instances_of_initials
  initials-agree c_none L u s = accepted (listed-not s.tidy)
  initials-agree (c_init {c} e es) L u s = bind-outcome (channel-agrees c e L (all_left (instances_of e) _ u) s) (λ q _ x.
      outcome-map (λ M y. listed_then x.listed y) (initials-agree es q.list (all_right (instances_of e) _ u) (settled-grown x.listed.grown s)))

  pub updates-agree : {c : ℕ} {ns : List Node} {xs : List Estimate} (d : Updates P c ns xs) (L : List Instance) → All K (instances_of_updates d) → SettledSole P K L →
      Outcome (UpdatesSame P K xs (instances_of_updates d) L) (TooMany K instances_most) (sized_updates P c ns L)
  unfolding sized_updates instances_of_updates
  updates-agree c_last L u s = accepted (record { numbers = refl; listed = listed-not s.tidy })
  updates-agree (c_node {c} n ns) L u s = bind-outcome (channel-agrees c n L (all_left (instances_of n) _ u) s) (λ q _ x. bind-outcome (updates-agree ns q.list (all_right (instances_of n) _ u) (settled-grown x.listed.grown s)) (λ r _ y.
      accepted (record { numbers = rw (x.numbers, y.numbers); listed = listed_then x.listed y.listed })))
