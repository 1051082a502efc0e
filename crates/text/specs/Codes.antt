-- Reads that the cursor makes and the language does not name: the place of a code in its table, and a named type as a word.
use Rattle.std.specs.Prelude.{ℕ, ◌+◌, ◌*◌, ◌-◌, Bool, ltb, leb}
use Rattle.language.specs.Result.{both}
use Rattle.language.specs.Layout.{tag_step}
use Rattle.language.specs.Parser.{Parser, ◌>>=◌, return, must, byte, index}
use Rattle.language.specs.ReadExpr.{bound}

-- the place of a code in a table of so many, counted from the first code: 5
unfoldable pub code_place : ℕ → ℕ → Parser ℕ
code_place first size = do
  b ← byte
  must (both (leb first b) (ltb (b - first) size)) 5 (return (b - first))

-- the same where no room may be left: 5 comes before 7
unfoldable pub place_in : Bool → ℕ → ℕ → Parser ℕ
place_in room first size = do
  i ← code_place first size
  must room 7 (return i)

-- a named type and its size, as one word
unfoldable pub named_word : ℕ → Parser ℕ
named_word types = do
  t ← index types
  k ← bound
  return (tag_step * (t + 1) + k)
