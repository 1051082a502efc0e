-- What holds of every number below i, turn by turn; the search for the lowest number that passes, and the definition's.
use Rattle.std.specs.Prelude.{ℕ, ◌+◌, ◌≤◌, ◌<◌, Bool, true, false, ◌≡◌, refl}
use Rattle.std.specs.Prelude.{Option as Maybe, Some, None}
use Rattle.std.proofs.Math.Option.{Option, none, some}
use Rattle.std.proofs.Common.{sym, ap, ◌∙◌, subst, arith}
use Rattle.language.specs.Order.{lowest}
use Rattle.theory.specs.Lists.{false-is-not-true}
use Rattle.theory.specs.Places.{below_or_not, equal_or_not}
use Rattle.theory.specs.OrderComplete.{Lowest, l_none, l_some, lowest-is}
use Rattle.node_order.specs.Lowest.{Below, LowestBelow, lowest_at, none_passes}

module _ {Q : ℕ → Type 0} where
  pub below_none : Below Q 0
  below_none = record { each = λ k less. absurd (omega (arith, less)) }

  pub below_more : {i : ℕ} → Below Q i → Q i → Below Q (i + 1)
  below_more {i} g q = record { each = λ k less. equal_or_not k i (λ same. subst Q (sym same) q) (λ other. g.each k (omega (arith, less, other))) }

  pub below-fewer : {i n : ℕ} → Below Q i → n ≤ i → Below Q n
  below-fewer g le = record { each = λ k less. g.each k (omega (arith, less, le)) }

-- ---- the lowest that passes: none below it does
module _ {f : ℕ → Bool} where
  pub lowest-here : {n i : ℕ} → Below (λ k. f k ≡ false) i → i < n → f i ≡ true → LowestBelow f n (Some i)
  lowest-here g less e = lowest_at less e g

  pub lowest-none : {n i : ℕ} → Below (λ k. f k ≡ false) i → n ≤ i → LowestBelow f n None
  lowest-none g le = none_passes (below-fewer g le)

  pub lowest-less : {n r : ℕ} → LowestBelow f n (Some r) → r < n
  lowest-less (lowest_at less at low) = less

  -- another test that is the same below n
  pub lowest-same : {n : ℕ} {r : Maybe ℕ} {g : ℕ → Bool} → ((i : ℕ) → i < n → f i ≡ g i) → LowestBelow f n r → LowestBelow g n r
  lowest-same same (lowest_at less at low) = lowest_at less (sym (same _ less) ∙ at) (record { each = λ k below. sym (same k (omega (arith, below, less))) ∙ low.each k below })
  lowest-same same (none_passes low) = none_passes (record { each = λ k less. sym (same k less) ∙ low.each k less })

  -- the definition's search finds the same
  pub lowest-found : {n r : ℕ} → LowestBelow f n (Some r) → lowest f n 0 ≡ some r
  lowest-found {n} {r} (lowest_at less passes lower) = by (lowest-is f n 0)
    where
      by : {o : Option ℕ} → Lowest f n 0 o → o ≡ some r
      by (l_none none_of) = false-is-not-true (sym (none_of r (omega arith) (omega (arith, less))) ∙ passes)
      by (l_some {j} le small at low) = below_or_not j r
          (λ before. false-is-not-true (sym (lower.each j before) ∙ at))
          (λ behind. equal_or_not j r (λ same. ap some same) (λ other. false-is-not-true (sym (low r (omega arith) (omega (arith, behind, other))) ∙ passes)))

  pub lowest-absent : {n : ℕ} → LowestBelow f n None → lowest f n 0 ≡ none
  lowest-absent {n} (none_passes lower) = by (lowest-is f n 0)
    where
      by : {o : Option ℕ} → Lowest f n 0 o → o ≡ none
      by (l_none none_of) = refl
      by (l_some {j} le' small at low) = false-is-not-true (sym (lower.each j (omega (arith, small))) ∙ at)
