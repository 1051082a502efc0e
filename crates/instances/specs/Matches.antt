-- What comparing a record promises, and what reading its numbers does.
use Rattle.std.specs.Prelude.{ℕ, ◌+◌, ◌<◌, List, [], Bool, true, false, ◌≡◌, length, get_or, eqb}
use Rattle.language.specs.Limits.{parameters_most}
use Rattle.language.specs.Result.{both}
use Rattle.language.specs.Sizes.{same_sizes}
use Rattle.language.specs.Estimate.{nothing}
use Rattle.language.specs.Checker.{Instance}
use Rattle.estimate.specs.declared.Estimate.{Estimate as Held}
use Rattle.estimate.specs.Stands.{Stands}
use Rattle.instances.specs.Listed.{Listed, SizesAre, SameArity}

-- the words from a place on are these sizes, or one of them is another
pub data Compared (words : List ℕ) (from : ℕ) (sizes : List ℕ) : Bool → Type 0 where
  all_same : ((j : ℕ) → j < parameters_most → get_or words (from + j) 0 ≡ get_or sizes j 0) → Compared words from sizes true
  one_other : (j : ℕ) → j < parameters_most → (get_or words (from + j) 0 ≡ get_or sizes j 0 → ⊥) → Compared words from sizes false

-- beyond a list of instances
abbrev pub no_instance : Instance
no_instance = record { function = 0; sizes = []; numbers = nothing }

abbrev pub at : List Instance → ℕ → Instance
at L i = get_or L i no_instance

-- the test that `find` makes at record i
pub record Matches (words : List ℕ) (i f : ℕ) (sizes : List ℕ) (r : Bool) : Type 0 where
  pub says : (L : List Instance) (ks : List ℕ) → Listed words L → i < length L → SizesAre sizes ks → SameArity f ks (at L i) → r ≡ both (eqb (at L i).function f) (same_sizes (at L i).sizes ks)

pub record Numbers (words : List ℕ) (i : ℕ) (r : Held) : Type 0 where
  pub says : (L : List Instance) → Listed words L → i < length L → Stands r (at L i).numbers
