-- The measure of the cycle of functions that pass over an expression: the levels left, each worth a weight, and the rank of the function
-- among those that call one another with the same levels left. These numbers are weights, chosen to fit each other; none is a limit.
use Rattle.std.specs.Prelude.{ℕ}

-- more than the largest rank
abbrev pub level_weight : ℕ
level_weight = 1024

abbrev pub behind_rank : ℕ
behind_rank = 800

-- of a function for one form
abbrev pub form_rank : ℕ
form_rank = 700

-- of the branches, to which those left are added, at most a byte's number
abbrev pub branches_rank : ℕ
branches_rank = 300

abbrev pub nested_rank : ℕ
nested_rank = 2

abbrev pub head_rank : ℕ
head_rank = 1
