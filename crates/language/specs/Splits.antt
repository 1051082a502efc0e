-- "every split of m − 1 into positive sizes, in ascending dictionary order": the set A of figure 7.
use Rattle.std.specs.Prelude.{ℕ, zero, suc, ◌-◌, List, [], ◌∷◌, ◌++◌, map}

-- for p, p + 1, ..: p before each of the ways for what is left
unfoldable pub firsts : (ℕ → List (List ℕ)) → ℕ → ℕ → List (List ℕ)
firsts f p zero = []
firsts f p (suc q) = map (λ ps. p ∷ ps) (f (suc q)) ++ firsts f (suc p) q

-- the splits of n into r + 1 positive sizes
unfoldable pub splits_of : ℕ → ℕ → List (List ℕ)
splits_of zero n = (n ∷ []) ∷ []
splits_of (suc r) n = firsts (splits_of r) 1 (n - 1)

-- into r sizes; "without own-type fields it is checked once"
unfoldable pub splits : ℕ → ℕ → List (List ℕ)
splits zero n = [] ∷ []
splits (suc r) n = splits_of r n
