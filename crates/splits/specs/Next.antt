-- The split after a split, in ascending dictionary order, for sizes up to the largest one; and the splits one after the other.
use Rattle.std.specs.Prelude.{ℕ, zero, suc, ◌-◌, List, [], ◌∷◌, ◌++◌, Bool, ◌≡◌, ltb, replicate}
use Rattle.std.proofs.Math.Option.{Option, none, some}
use Rattle.language.specs.Limits.{size_most}
use Rattle.language.specs.Result.{both, when}

-- the first split of n into r sizes: 1, 1, .., and what is left
unfoldable pub first_of : ℕ → ℕ → List ℕ
first_of zero n = []
first_of (suc r) n = replicate r 1 ++ ((n - r) ∷ [])

-- a size k can be one more at the cost of the size p behind it
unfoldable pub may_move : ℕ → ℕ → Bool
may_move k p = both (ltb 1 p) (ltb k size_most)

-- the last size made p
unfoldable pub last_as : ℕ → List ℕ → List ℕ
last_as p [] = []
last_as p (k ∷ []) = p ∷ []
last_as p (k ∷ j ∷ ks) = k ∷ last_as p (j ∷ ks)

-- k before sizes of which the next ones are known: if there are none, k is one more, the size behind it 1, and what is left comes last
unfoldable pub before : ℕ → List ℕ → Option (List ℕ) → Option (List ℕ)
before k ks (some js) = some (k ∷ js)
before k [] none = none
before k (p ∷ ks) none = when (may_move k p) (suc k ∷ last_as (p - 1) (1 ∷ ks))

unfoldable pub next : List ℕ → Option (List ℕ)
next [] = none
next (k ∷ ks) = before k ks (next ks)

-- these lists are the splits from ks on, each the next of the one before it, up to one that has no next
pub data Chain : List ℕ → List (List ℕ) → Type 0 where
  last : {ks : List ℕ} → next ks ≡ none → Chain ks (ks ∷ [])
  more : {ks js : List ℕ} {l : List (List ℕ)} → next ks ≡ some js → Chain js l → Chain ks (ks ∷ l)
