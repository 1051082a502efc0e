-- The cells of a type by recursion over type number and size alone: no table of smaller sizes is handed on, so that each number is
-- a function of what the code asks for.
use Rattle.std.specs.Prelude.{ℕ, zero, suc, ◌+◌, ◌-◌, max, List, [], ◌∷◌, ltb}
use Rattle.language.specs.Result.{choose}
use Rattle.language.specs.Syntax.{Field, fbool, fint, own, other, Constructor, File, owns}
use Rattle.language.specs.Cells.{max_to, other_cells, cells_named}

-- the most cells of r values of type t whose sizes sum to at most m
unfoldable pub most_own : File → ℕ → ℕ → ℕ → ℕ
most_own P t zero m = 0
most_own P t (suc r) m = max_to (λ p. cells_named P t p + most_own P t r (m - p)) (m - r)

-- the first of them of size p, r others behind it
abbrev pub split_cells : File → ℕ → ℕ → ℕ → ℕ → ℕ
split_cells P t r m p = cells_named P t p + most_own P t r (m - p)

-- the most cells of a value of type t and size at most k that a constructor makes, and that some of them makes
unfoldable pub made_cells : File → ℕ → ℕ → Constructor → ℕ
made_cells P t k fs = choose (ltb (owns fs) k) (1 + (other_cells (cells_named P) fs + most_own P t (owns fs) (k - 1))) 0

unfoldable pub most_made : File → ℕ → ℕ → List Constructor → ℕ
most_made P t k [] = 0
most_made P t k (fs ∷ cs) = max (made_cells P t k fs) (most_made P t k cs)

-- the cells of a field; none of one that is of the type itself
unfoldable pub field_cells : File → Field → ℕ
field_cells P fbool = 1
field_cells P fint = 1
field_cells P own = 0
field_cells P (other u k) = cells_named P u k
