-- Which cells are reached from the channels, and sliding: "After an iteration the reached cells slide down in order of creation."
use Rattle.std.specs.Prelude.{ℕ, suc, List, [], ◌∷◌, ◌++◌, map, Bool, false, get_or, eqb}
use Rattle.language.specs.Result.{one_of, choose}
use Rattle.language.specs.Heap.{Cell, leaf, con, fields_in}

-- A heap, and the cell of each channel.
pub record State : Type 0 where
  pub heap : List Cell
  pub roots : List ℕ

unfoldable pub mem : ℕ → List ℕ → Bool
mem i [] = false
mem i (l ∷ ls) = one_of (eqb i l) (mem i ls)

-- the cells reached, i being the number of the first cell here: a cell names lower ones, so higher cells go first
unfoldable pub reached_from : List ℕ → ℕ → List Cell → List ℕ
reached_from R i [] = R
reached_from R i (c ∷ cs) = let S = reached_from R (suc i) cs in choose (mem i S) (fields_in c ++ S) S

unfoldable pub reached : State → List ℕ
reached s = reached_from s.roots 0 s.heap

-- the new number of each cell, n being the first one's: how many reached cells stand below it
unfoldable pub numbers_from : List ℕ → ℕ → ℕ → List Cell → List ℕ
numbers_from R i n [] = []
numbers_from R i n (c ∷ cs) = n ∷ numbers_from R (suc i) (choose (mem i R) (suc n) n) cs

abbrev pub renumber : List ℕ → ℕ → ℕ
renumber ns l = get_or ns l 0

unfoldable pub renumber_cell : List ℕ → Cell → Cell
renumber_cell ns (leaf x) = leaf x
renumber_cell ns (con t c k ls) = con t c k (map (renumber ns) ls)

-- the reached cells, each once, renumbered
unfoldable pub keep_from : List ℕ → List ℕ → ℕ → List Cell → List Cell
keep_from R ns i [] = []
keep_from R ns i (c ∷ cs) = choose (mem i R) (renumber_cell ns c ∷ keep_from R ns (suc i) cs) (keep_from R ns (suc i) cs)

unfoldable pub slide : State → State
slide s = let R = reached s in let ns = numbers_from R 0 0 s.heap in record { heap = keep_from R ns 0 s.heap; roots = map (renumber ns) s.roots }
