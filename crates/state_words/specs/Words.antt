-- The words of a state by name, and what the functions that write them leave.
use Rattle.std.specs.Prelude.{ℕ, zero, suc, ◌+◌, ◌-◌, ◌*◌, ◌/◌, ◌%◌, List, [], ◌∷◌, ◌++◌, get_or, take, drop, replicate, leb}
use Rattle.language.specs.Limits.{byte_range, cell_words}
use Rattle.language.specs.Result.{choose}
use Rattle.language.specs.Layout.{tag_step, state_length}
use Rattle.index.specs.Tables.{constructor_words, type_words}

-- how many cells are used, and the cell of a channel
abbrev pub used_in : List ℕ → ℕ
used_in words = get_or words 0 0

abbrev pub channel_at : List ℕ → ℕ → ℕ
channel_at words c = get_or words (1 + c) 0

-- of a cell, which stands behind the state of the cells before it: its tag, its value and its fields
abbrev pub tag_at : List ℕ → ℕ → ℕ
tag_at words l = get_or words (state_length l) 0

abbrev pub value_at : List ℕ → ℕ → ℕ
value_at words l = get_or words (state_length l + 1) 0

abbrev pub field_at : List ℕ → ℕ → ℕ → ℕ
field_at words l j = get_or words (state_length l + 2 + j) 0

-- the first n numbers that a function gives: a row of words by their places
unfoldable pub row_of : (ℕ → ℕ) → ℕ → List ℕ
row_of f zero = []
row_of f (suc n) = row_of f n ++ (f n ∷ [])

-- the cells from one number up to another made zero
abbrev pub cleared : List ℕ → ℕ → ℕ → List ℕ
cleared words from to = take (state_length from) words ++ (replicate (cell_words * (to - from)) 0 ++ drop (state_length to) words)

-- how many fields the section of types tells of a tag's constructor
unfoldable pub field_count : List ℕ → ℕ → ℕ
field_count types tag = choose (leb tag_step tag) (get_or types (type_words * (tag / tag_step - 1) + 1 + constructor_words * (tag % tag_step)) 0 % byte_range) 0
