-- "Cells of a type at size k: the most cells, written as a tree, of a value of size at most k; one a constructor, one a Bool or
-- Int." By recursion over type number and size, through the most cells of r values whose sizes sum to at most m, so that no
-- list of splits is made. And the numbers that a file needs: document 01, "Estimation and memory".
use Rattle.std.specs.Prelude.{ℕ, zero, suc, ◌+◌, ◌-◌, max, List, [], ◌∷◌, ◌++◌, map, get_or, ltb}
use Rattle.language.specs.Result.{choose}
use Rattle.language.specs.Syntax.{Field, fbool, fint, own, other, Constructor, TypeDef, Ty, tbool, tint, tnamed, Input, File, owns, declared_types}
use Rattle.language.specs.Sizes.{sum}
use Rattle.language.specs.Estimate.{Estimate, nothing, after}

-- the largest of f 1 .. f n
unfoldable pub max_to : (ℕ → ℕ) → ℕ → ℕ
max_to f zero = 0
max_to f (suc n) = max (f (suc n)) (max_to f n)

-- the cells of the fields that are not of the type itself
unfoldable pub other_cells : (ℕ → ℕ → ℕ) → List Field → ℕ
other_cells F [] = 0
other_cells F (fbool ∷ fs) = 1 + other_cells F fs
other_cells F (fint ∷ fs) = 1 + other_cells F fs
other_cells F (own ∷ fs) = other_cells F fs
other_cells F (other u k ∷ fs) = F u k + other_cells F fs

-- the most cells of r values of the type whose sizes sum to at most m; the table holds the type's at sizes 1, 2, ..
unfoldable pub own_cells : List ℕ → ℕ → ℕ → ℕ
own_cells table zero m = 0
own_cells table (suc r) m = max_to (λ p. get_or table (p - 1) 0 + own_cells table r (m - p)) (m - r)

-- the most of a value of size at most k that some constructor makes
unfoldable pub next_cells : (ℕ → ℕ → ℕ) → List ℕ → List Constructor → ℕ → ℕ
next_cells F table [] k = 0
next_cells F table (fs ∷ cs) k = max (choose (ltb (owns fs) k) (1 + (other_cells F fs + own_cells table (owns fs) (k - 1))) 0) (next_cells F table cs k)

-- the cells of a type at sizes 1 to k; F: those of earlier types
unfoldable pub cells_table : (ℕ → ℕ → ℕ) → List Constructor → ℕ → List ℕ
cells_table F cs zero = []
cells_table F cs (suc k) = let table = cells_table F cs k in table ++ (next_cells F table cs (suc k) ∷ [])

unfoldable pub cells_at_of : (ℕ → ℕ → ℕ) → List Constructor → ℕ → ℕ
cells_at_of F cs k = get_or (cells_table F cs k) (k - 1) 0

-- a function of the size for each type, each from the earlier ones
abbrev pub cells_in : List (ℕ → ℕ) → ℕ → ℕ → ℕ
cells_in Fs t k = (get_or Fs t (λ j. 0)) k

unfoldable pub cells_from : List (ℕ → ℕ) → List TypeDef → List (ℕ → ℕ)
cells_from Fs [] = Fs
cells_from Fs (cs ∷ ts) = cells_from (Fs ++ (cells_at_of (cells_in Fs) cs ∷ [])) ts

-- the most cells of a value of type t and size at most k
unfoldable pub cells_named : File → ℕ → ℕ → ℕ
cells_named P t k = cells_in (cells_from [] P.types) t k

-- cells of a type
unfoldable pub cells_of : File → Ty → ℕ
cells_of P tbool = 1
cells_of P tint = 1
cells_of P (tnamed t k) = cells_named P t k

-- "cells of all channels", also demand 3's stated worst case of the cells kept
unfoldable pub channel_cells : File → ℕ
channel_cells P = sum (map (cells_of P) (declared_types P))

unfoldable pub input_cells : File → ℕ
input_cells P = sum (map (λ (i : Input). cells_of P i.declared) P.inputs)

-- the nodes' heap estimates summed; environment and stack "the largest over the nodes"
unfoldable pub updates_numbers : List Estimate → Estimate
updates_numbers [] = nothing
updates_numbers (x ∷ xs) = after x (updates_numbers xs)

-- "Heap needed = cells of all channels + cells of the inputs again + the nodes' heap estimates summed."
unfoldable pub numbers_needed : File → List Estimate → Estimate
numbers_needed P xs = let u = updates_numbers xs in record { env = u.env; heap = channel_cells P + input_cells P + u.heap; stack = u.stack }
