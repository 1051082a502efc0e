-- In a file whose plain types hold the size checker refuses only with 10 to 14, at initial values and at updates, in a frame of the file.
use Rattle.std.specs.Prelude.{ℕ, suc, ◌+◌, ◌≤◌, ◌<◌, ◌≡◌, length}
use mathlib.Core.List.{List, [], ◌∷◌, ◌++◌, map}
use Rattle.std.proofs.Math.Option.{some}
use Rattle.std.proofs.Math.Path.{refl}
use Rattle.std.proofs.Common.{arith, length-append}
use Rattle.std.proofs.lemmas.List.{length-map}
use Rattle.std.proofs.Math.ListN.{get_elem? as look}
use Rattle.language.specs.Limits.{instances_most}
use Rattle.language.specs.Result.{Result, ok, no}
use Rattle.language.specs.Syntax.{Ty, Expr, Input, Node, File, channel_frame, declared_types, initial_values}
use Rattle.language.specs.PlainTypes.{plain_declared, plain_types}
use Rattle.language.specs.Typing.{outside, channels_at, frame_at}
use Rattle.language.specs.Checker.{Instance, sized_channel, sized_initials, sized_updates, sized_file}
use Rattle.theory.specs.Outcomes.{Outcome, accepted, when-refused, bind-outcome, need-outcome}
use Rattle.language.specs.PlainTyping.{PlainTyping, PlainInitial, PlainNode, WellPlain}
use Rattle.theory.specs.PlainTypesAgree.{well-plain}
use Rattle.theory.specs.PlainSizes.{plains_of_types}
use Rattle.theory.specs.FrameNumbers.{channel_total, channel-frame}
use Rattle.theory.specs.SizeRefusals.{SizeRefusal, Anything, sizes-only, plainly, enters-plainly}

-- initial values, each with the type of its channel
data PlainInitials (P : File) : List Expr → List Ty → Type 0 where
  initials_nil : PlainInitials P [] []
  initials_cons : {e : Expr} {es : List Expr} {τ : Ty} {τs : List Ty} → PlainInitial P τ e → PlainInitials P es τs → PlainInitials P (e ∷ es) (τ ∷ τs)

initials-append : {P : File} {es ds : List Expr} {σs τs : List Ty} → PlainInitials P es σs → PlainInitials P ds τs → PlainInitials P (es ++ ds) (σs ++ τs)
initials-append initials_nil y = y
initials-append (initials_cons i x) y = initials_cons i (initials-append x y)

input-initials : {P : File} (l : List Input) → ((i : ℕ) (I : Input) → look l i ≡ some I → PlainInitial P I.declared I.initial) →
    PlainInitials P (map (λ (i : Input). i.initial) l) (map (λ (i : Input). i.declared) l)
input-initials [] f = initials_nil
input-initials (I ∷ l) f = initials_cons (f 0 I refl) (input-initials l (λ i J e. f (suc i) J e))

node-initials : {P : File} (l : List Node) → ((n : ℕ) (M : Node) → look l n ≡ some M → PlainNode P M) → PlainInitials P (map (λ (n : Node). n.initial) l) (map (λ (n : Node). n.declared) l)
node-initials [] f = initials_nil
node-initials (M ∷ l) f = initials_cons (f 0 M refl).initial (node-initials l (λ n N e. f (suc n) N e))

module _ (P : File) (W : WellPlain P) where
  channel-plainly : (c : ℕ) (C : List Ty) (e : Expr) (τ : Ty) (L : List Instance) → c < channel_total P → PlainTyping P (plains_of_types C) [] e (plain_declared τ) →
      Outcome Anything (SizeRefusal P) (sized_channel P c C e τ L)
  unfolding sized_channel channels_at frame_at
  channel-plainly c C e τ L less t = bind-outcome ((plainly (enters-plainly instances_most W instances_most) t (outside (channel_frame P c) C) [] [] refl refl (channel-frame P c less)).runs L)
      (λ q _ x. need-outcome _ _ _ (λ _. sizes-only (channel-frame P c less) (omega arith) (omega arith)) (λ _. accepted tt))

  initials-plainly : (c : ℕ) {es : List Expr} {τs : List Ty} (L : List Instance) → c + length es ≤ channel_total P → PlainInitials P es τs → Outcome Anything (SizeRefusal P) (sized_initials P c es τs L)
  unfolding sized_initials
  initials-plainly c L le initials_nil = accepted tt
  initials-plainly c L le (initials_cons {e} {τ} i x) = bind-outcome (channel-plainly c [] e τ L (omega arith) i.typed) (λ q _ _. initials-plainly (suc c) q.list (omega arith) x)

  updates-plainly : (c : ℕ) (ns : List Node) (L : List Instance) → c + length ns ≤ channel_total P → ((n : ℕ) (M : Node) → look ns n ≡ some M → PlainNode P M) → Outcome Anything (SizeRefusal P) (sized_updates P c ns L)
  unfolding sized_updates
  updates-plainly c [] L le f = accepted tt
  updates-plainly c (M ∷ ns) L le f = bind-outcome (channel-plainly c (declared_types P) M.update M.declared L (omega arith) (f 0 M refl).update) (λ q _ _.
      bind-outcome (updates-plainly (suc c) ns q.list (omega arith) (λ n N e. f (suc n) N e)) (λ r _ _. accepted tt))

  initial-count : length (initial_values P) ≡ channel_total P
  initial-count = omega (arith, length-append (map (λ (i : Input). i.initial) P.inputs) (map (λ (n : Node). n.initial) P.nodes), length-map P.inputs (λ (i : Input). i.initial), length-map P.nodes (λ (n : Node). n.initial))

  file-plainly : Outcome Anything (SizeRefusal P) (sized_file P)
  unfolding sized_file
  file-plainly = bind-outcome (initials-plainly 0 [] (omega (arith, initial-count)) (initials-append (input-initials P.inputs W.inputs) (node-initials P.nodes W.nodes))) (λ L _ _. updates-plainly (length P.inputs) P.nodes L (omega arith) W.nodes)

pub well-plain-refusals : {P : File} {n frame : ℕ} → WellPlain P → sized_file P ≡ no n frame → SizeRefusal P n frame
well-plain-refusals {P} W is = when-refused (file-plainly P W) is

-- after the plain types the size checker never answers 6 or 9
pub after-plain-types : {A : Type 0} {a : A} {n frame : ℕ} (P : File) (r : Result A) → plain_types P r ≡ ok a → sized_file P ≡ no n frame → SizeRefusal P n frame
after-plain-types P r passed is = well-plain-refusals (well-plain P r passed) is
