-- Passes over a file, in the style of outcomes: the tests of the frames one after the other, the plain types, the order, and any pass by its
-- answer.
use Rattle.std.specs.Prelude.{ℕ, suc, ◌+◌, ◌≤◌, ◌<◌, Bool, true, ◌≡◌, refl, length}
use mathlib.Core.List.{List, [], ◌∷◌, ◌++◌, map}
use native.Mathlib.Omega.{arith}
use Rattle.std.proofs.Math.ListN.{length-append, length-map}
use Rattle.language.specs.Refusals.{types_disagree, self_reading}
use Rattle.language.specs.Result.{Result, ok, no, need_each}
use Rattle.language.specs.Syntax.{File, node_channel, channel_frame}
use Rattle.language.specs.Within.{all_nil, all_cons, Within}
use Rattle.language.specs.PlainTypes.{plain_function, plain_input, plain_node, plain_types}
use Rattle.language.specs.Order.{Acyclic, LowestSelfReader, orderly}
use Rattle.theory.specs.Tests.{AllTrue, each-passes}
use Rattle.theory.specs.Outcomes.{Outcome, accepted, refused, need-outcome}
use Rattle.language.specs.PlainTyping.{WellPlain}
use Rattle.theory.specs.PlainTypesAgree.{well-plain}
use Rattle.theory.specs.Orderly.{Refusal25, none_itself, lowest_itself, refusal-25}
use Rattle.theory.specs.FrameNumbers.{FrameOf}
use Rattle.theory.specs.SizeRefusals.{Anything}

module _ {B : Type 0} {R : B → Type 0} {N : ℕ → ℕ → Type 0} where
  each-outcome : (n frame : ℕ) (bs : List Bool) {r : Result B} → ((f : ℕ) → frame ≤ f → f < frame + length bs → N n f) → (AllTrue bs → Outcome R N r) → Outcome R N (need_each n frame bs r)
  unfolding need_each
  each-outcome n frame [] no-pass pass = pass all_nil
  each-outcome n frame (b ∷ bs) no-pass pass = need-outcome b n frame (λ e. no-pass frame (omega arith) (omega arith)) (λ e. each-outcome n (suc frame) bs (λ f low high. no-pass f (omega arith) (omega arith)) (λ es. pass (all_cons e es)))

  -- refusal 9 in a frame of the file, or the plain types hold
  pub plain-outcome : (P : File) {r : Result B} → ((f : ℕ) → FrameOf P f → N types_disagree f) → (WellPlain P → Outcome R N r) → Outcome R N (plain_types P r)
  unfolding plain_types
  plain-outcome P no-pass pass = each-outcome types_disagree _ _ (λ f low high. no-pass f (omega (
    arith,
    length-map P.functions (plain_function P),
    length-map P.inputs (plain_input P),
    length-map P.nodes (plain_node P),
    length-append (map (plain_function P) P.functions) (map (plain_input P) P.inputs ++ map (plain_node P) P.nodes),
    length-append (map (plain_input P) P.inputs) (map (plain_node P) P.nodes),
  ))) (λ es. pass (well-plain P (ok true) (each-passes types_disagree _ (ok true) es)))

  -- refusal 25 in the frame of the lowest node that reads itself, or none does
  pub orderly-outcome : {P : File} → Within P → {r : Result B} → ((i : ℕ) → LowestSelfReader P i → N self_reading (channel_frame P (node_channel P i))) → (Acyclic P → Outcome R N r) → Outcome R N (orderly P r)
  orderly-outcome {P} within {r} no-pass pass = by_order (refusal-25 within r)
    where
      by_order : Refusal25 P r → Outcome R N (orderly P r)
      by_order (none_itself acyclic e) = rw e (pass acyclic)
      by_order (lowest_itself {i} x e) = rw e (refused (no-pass i x))

pub outcome-of : {A : Type 0} {N : ℕ → ℕ → Type 0} (r : Result A) → ((n frame : ℕ) → r ≡ no n frame → N n frame) → Outcome Anything N r
outcome-of (ok a) f = accepted tt
outcome-of (no n frame) f = refused (f n frame refl)
