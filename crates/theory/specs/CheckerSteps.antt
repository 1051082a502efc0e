-- Steps of the size checker: what an answer says goes through a named type, an instance that was found, a branch, a body.
use Rattle.std.specs.Prelude.{ℕ, List, [], ◌∷◌, ◌++◌, ◌≡◌}
use Rattle.std.proofs.Math.Option.{Option, none, some}
use Rattle.std.proofs.Math.Path.{refl}
use Rattle.language.specs.Refusals.{types_disagree, sizes_disagree}
use Rattle.language.specs.Result.{Result, ok, bind, need}
use Rattle.language.specs.Syntax.{Constructor, Ty, tbool, tint, tnamed, Expr, Function, File}
use Rattle.language.specs.Sizes.{summed_measure, parameter_types, field_types, same_type}
use Rattle.language.specs.Estimate.{Estimate, nothing}
use Rattle.language.specs.Typing.{Place, inside, frame_at}
use Rattle.language.specs.Checker.{Instance, Sized, Counted, Enter, named, sized, found_or}
use Rattle.theory.specs.Outcomes.{Outcome, accepted, refused}
use Rattle.theory.specs.Instances.{entered}

-- a value of a named type
module _ {B : Type 0} {R : B → Type 0} {N : ℕ → ℕ → Type 0} where
  pub named-outcome : (τ : Ty) (frame : ℕ) {k : ℕ → ℕ → Result B} → N types_disagree frame → ((t j : ℕ) → τ ≡ tnamed t j → Outcome R N (k t j)) → Outcome R N (named τ frame k)
  unfolding named
  named-outcome tbool frame x f = refused x
  named-outcome tint frame x f = refused x
  named-outcome (tnamed t j) frame x f = f t j refl

  pub named-holds : {τ : Ty} {t j : ℕ} (frame : ℕ) (k : ℕ → ℕ → Result B) → τ ≡ tnamed t j → Outcome R N (k t j) → Outcome R N (named τ frame k)
  unfolding named
  named-holds frame k e o = rw e o

-- an instance that was found, or its body
pub found_or-outcome : {Q : Counted → Type 0} {N : ℕ → ℕ → Type 0} (o : Option Estimate) (L : List Instance) {r : Result Counted} →
    ((n : Estimate) → o ≡ some n → Q (record { numbers = n; list = L })) → (o ≡ none → Outcome Q N r) → Outcome Q N (found_or o L r)
unfolding found_or
found_or-outcome (some n) L f g = accepted (f n refl)
found_or-outcome none L f g = g refl

-- a branch at one split, as the checker has it
abbrev pub at_split_of : File → Enter → Place → List Ty → List ℕ → ℕ → Constructor → Expr → Ty → List ℕ → List Instance → Result Counted
at_split_of P enter p Γ Δ t fs b τ ks M = bind (sized P enter b p (Γ ++ field_types t fs ks) (Δ ++ ks) M) (λ q. need (same_type q.type τ) sizes_disagree (frame_at P p) (ok (record { numbers = q.numbers; list = q.list })))

-- the body of function g at sizes ks, from the list with its record on
abbrev pub body_run : File → Enter → ℕ → Function → List ℕ → List Instance → Result Sized
body_run P enter g F ks L = sized P enter F.body (inside g (summed_measure F.measure ks)) (parameter_types F.parameters ks) ks (L ++ (entered g ks nothing ∷ []))
