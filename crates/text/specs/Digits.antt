-- The bytes that a line's digits spell, whatever they are. Spaces before a pair are passed over: document 02, R-1.
use Rattle.std.specs.Prelude.{ℕ, suc, ◌+◌, ◌*◌, ◌/◌, ◌%◌, List, [], ◌∷◌, eqb}
use Rattle.language.specs.Codes.{space}
use Rattle.language.specs.Result.{choose}

-- the value of a hexadecimal digit, upper-case or lower-case; of any other character some number below 16
unfoldable pub digit_value_of : ℕ → ℕ
digit_value_of c = (c % 16 + 9 * (c / 64)) % 16

-- pair by pair; a character left over spells nothing
unfoldable mutual
  pub bytes_of : List ℕ → List ℕ
  bytes_of [] = []
  bytes_of (a ∷ l) = let further = bytes_of l in let pair = pair_bytes a l in choose (eqb a space) further pair

  -- the pair whose first character is a, and what stands behind it
  pub pair_bytes : ℕ → List ℕ → List ℕ
  pair_bytes a [] = []
  pair_bytes a (b ∷ l) = (digit_value_of a * 16 + digit_value_of b) ∷ bytes_of l

-- how many spaces stand before the next pair
unfoldable pub spaces : List ℕ → ℕ
spaces [] = 0
spaces (a ∷ l) = let further = suc (spaces l) in choose (eqb a space) further 0
