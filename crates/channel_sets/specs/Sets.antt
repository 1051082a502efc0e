-- Sets of channels as the bits of a word: channel c is in the set where bit c is 1.
use Rattle.std.specs.Prelude.{ℕ, ◌/◌, ◌%◌, ◌^◌, List, [], ◌∷◌, Bool, eqb}
use Rattle.std.specs.Int.Bits.{bit_or}

-- the bits of a word
abbrev pub word_bits : ℕ
word_bits = 32

unfoldable pub in_set : ℕ → ℕ → Bool
in_set set c = eqb (set / 2 ^ c % 2) 1

-- the set of some channels
unfoldable pub set_of : List ℕ → ℕ
set_of [] = 0
set_of (c ∷ cs) = bit_or (2 ^ c) (set_of cs)
