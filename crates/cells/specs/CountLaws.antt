-- Numbers counted one after the other: given ones, sums, the larger of two.
use Rattle.std.specs.Prelude.{ℕ, ◌+◌, ◌≤◌, max, List, ◌≡◌}
use Rattle.std.proofs.Common.{ap, ◌∙◌, arith}
use Rattle.language.specs.Limits.{number_most}
use Rattle.language.specs.Syntax.{File}
use Rattle.language.specs.Estimate.{stop}
use Rattle.cells.specs.Counts.{Right, Counts}

module _ {index table : List ℕ} {asked : File → Type 0} where
  pub counts-given : {value : File → ℕ} {r : ℕ} → r ≤ number_most → ((P : File) → Right index table P → asked P → r ≡ stop (value P)) → Counts index table asked value r table
  counts-given small is = record { small = small; is = is; right = λ P h a. h }

  pub counts-as : {value value' : File → ℕ} {r : ℕ} {table' : List ℕ} → Counts index table asked value r table' → ((P : File) → Right index table P → asked P → value P ≡ value' P) → Counts index table asked value' r table'
  counts-as v same = record { small = v.small; is = λ P h a. v.is P h a ∙ ap stop (same P h a); right = v.right }

  -- asked of more than is needed
  pub counts_of : {asked' : File → Type 0} {value : File → ℕ} {r : ℕ} {table' : List ℕ} → Counts index table asked' value r table' → ((P : File) → Right index table P → asked P → asked' P) → Counts index table asked value r table'
  counts_of v needed = record { small = v.small; is = λ P h a. v.is P h (needed P h a); right = λ P h a. v.right P h (needed P h a) }

  module _ {asked' : File → Type 0} {value value' : File → ℕ} {a b : ℕ} {table₁ table₂ : List ℕ} (v : Counts index table asked value a table₁) (w : Counts index table₁ asked' value' b table₂)
      (needed : (P : File) → Right index table P → asked P → asked' P) where
    counts-right : (P : File) → Right index table P → asked P → Right index table₂ P
    counts-right P h q = w.right P (v.right P h q) (needed P h q)

    pub counts-sum : {r : ℕ} → r ≡ stop (a + b) → Counts index table asked (λ P. value P + value' P) r table₂
    counts-sum e = record { small = omega (arith, e); is = λ P h q. omega (arith, e, v.is P h q, w.is P (v.right P h q) (needed P h q)); right = counts-right }

    pub counts-max : {r : ℕ} → r ≡ stop (max b a) → Counts index table asked (λ P. max (value' P) (value P)) r table₂
    counts-max e = record { small = omega (arith, e); is = λ P h q. omega (arith, e, v.is P h q, w.is P (v.right P h q) (needed P h q)); right = counts-right }

  -- one more
  pub counts-one-more : {value : File → ℕ} {a r : ℕ} {table' : List ℕ} → Counts index table asked value a table' → r ≡ stop (1 + a) → Counts index table asked (λ P. 1 + value P) r table'
  counts-one-more v e = record { small = omega (arith, e); is = λ P h q. omega (arith, e, v.is P h q); right = v.right }
