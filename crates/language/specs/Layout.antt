-- How a state lies in words, and which words are a valid state of a file: document 01, "Estimation and memory".
use Rattle.std.specs.Prelude.{ℕ, zero, suc, ◌+◌, ◌-◌, ◌*◌, ◌/◌, ◌%◌, List, [], ◌∷◌, ◌++◌, Bool, true, false, length, get_or, take, drop, replicate, ltb, leb, eqb}
use Rattle.std.proofs.Math.Option.{Option, none, some}
use Rattle.std.proofs.Math.ListN.{get_elem? as look}
use Rattle.language.specs.Limits.{fields_most, channels_most, header_words, cell_words, int_range}
use Rattle.language.specs.Result.{both, when, chain, choose}
use Rattle.language.specs.Syntax.{Field, fbool, fint, own, other, Ty, tbool, tint, tnamed, File, constructors_of, declared_types}
use Rattle.language.specs.Format.{bit, spell_all}
use Rattle.language.specs.Heap.{kbool, kint, Cell, leaf, con, cell_at, fields_in, own_sum}
use Rattle.language.specs.Values.{constant_fits, is_constructor, named_as}
use Rattle.language.specs.Slide.{State, mem, reached}

-- ---- the words of a state
-- "`1` Bool, `2` Int, or 256 × (t + 1) + c"
abbrev pub bool_tag : ℕ
bool_tag = 1

abbrev pub int_tag : ℕ
int_tag = 2

abbrev pub tag_step : ℕ
tag_step = 256

unfoldable pub cell_tag : Cell → ℕ
cell_tag (leaf (kbool b)) = bool_tag
cell_tag (leaf (kint n)) = int_tag
cell_tag (con t c k ls) = tag_step * (t + 1) + c

-- "the Bool (0 or 1), the Int's bits or the size"
unfoldable pub cell_value : Cell → ℕ
cell_value (leaf (kbool b)) = bit b
cell_value (leaf (kint n)) = n
cell_value (con t c k ls) = k

-- n words: the list, "unused 0"
unfoldable pub padded : ℕ → List ℕ → List ℕ
padded zero ls = []
padded (suc n) [] = 0 ∷ padded n []
padded (suc n) (l ∷ ls) = l ∷ padded n ls

unfoldable pub words_of : Cell → List ℕ
words_of c = cell_tag c ∷ cell_value c ∷ padded fields_most (fields_in c)

-- "25 and six for each cell the board lends"
abbrev pub state_length : ℕ → ℕ
state_length cells = header_words + cell_words * cells

-- the words of a state on a board of so many cells
unfoldable pub state_words : ℕ → State → List ℕ
state_words cells s = (length s.heap ∷ padded channels_most s.roots) ++ (spell_all words_of s.heap ++ replicate (cell_words * (cells - length s.heap)) 0)

-- ---- the state in words
unfoldable pub all_zero : List ℕ → Bool
all_zero [] = true
all_zero (w ∷ ws) = both (eqb w 0) (all_zero ws)

-- a constructor's cell: its fields, and the unused words 0
unfoldable pub constructor_of_words : ℕ → ℕ → ℕ → List ℕ → Option (List Field) → Option Cell
constructor_of_words t c k ls none = none
constructor_of_words t c k ls (some fs) = when (all_zero (drop (length fs) ls)) (con t c k (take (length fs) ls))

-- the cell that its words are, if they are one
unfoldable pub cell_of_words : File → ℕ → ℕ → List ℕ → Option Cell
cell_of_words P tag v ls =
    let isBool = when (both (leb v 1) (all_zero ls)) (leaf (kbool (eqb v 1))) in
    let isInt = when (both (ltb v int_range) (all_zero ls)) (leaf (kint v)) in
    let isCon = constructor_of_words (tag / tag_step - 1) (tag % tag_step) v ls (look (constructors_of P (tag / tag_step - 1)) (tag % tag_step)) in
    choose (eqb tag bool_tag) isBool (choose (eqb tag int_tag) isInt (choose (leb tag_step tag) isCon none))

unfoldable pub cells_of_words : File → ℕ → List ℕ → Option (List Cell)
cells_of_words P zero ws = some []
cells_of_words P (suc n) ws = chain (cell_of_words P (get_or ws 0 0) (get_or ws 1 0) (take fields_most (drop 2 ws))) (λ c. chain (cells_of_words P n (drop cell_words ws)) (λ cs. some (c ∷ cs)))

-- the state that the words are laid out as: "Word 0: cells used. Words 1 to 24: each channel's cell number, unused 0"; "all beyond
-- them are 0"
unfoldable pub state_of_words : File → ℕ → List ℕ → Option State
state_of_words P cells ws =
    let used = get_or ws 0 0 in
    let channels = length (declared_types P) in
    let clear = both (leb used cells) (both (all_zero (drop channels (take channels_most (drop 1 ws)))) (all_zero (take (cell_words * (cells - used)) (drop (state_length used) ws)))) in
    let state : Option State = chain (cells_of_words P used (drop header_words ws)) (λ h. some (record { heap = h; roots = take channels (drop 1 ws) })) in
    choose clear state none

-- ---- a state that is right for the file
-- a cell of a type, of at most its size
unfoldable pub cell_fits : Cell → Ty → Bool
cell_fits (leaf x) τ = constant_fits x τ
cell_fits (con t c k ls) τ = named_as t τ (λ m. leb k m)

-- a location below, whose cell is of the type
unfoldable pub location_fits : List Cell → ℕ → Ty → Bool
location_fits h l τ = both (ltb l (length h)) (cell_fits (cell_at h l) τ)

-- the fields of a constructor of type t and size k: "each lower than the cell itself", of their types, none above its k
unfoldable pub fields_right : List Cell → ℕ → ℕ → List Field → List ℕ → Bool
fields_right h t k [] [] = true
fields_right h t k [] (l ∷ ls) = false
fields_right h t k (f ∷ fs) [] = false
fields_right h t k (fbool ∷ fs) (l ∷ ls) = both (location_fits h l tbool) (fields_right h t k fs ls)
fields_right h t k (fint ∷ fs) (l ∷ ls) = both (location_fits h l tint) (fields_right h t k fs ls)
fields_right h t k (own ∷ fs) (l ∷ ls) = both (location_fits h l (tnamed t k)) (fields_right h t k fs ls)
fields_right h t k (other u j ∷ fs) (l ∷ ls) = both (location_fits h l (tnamed u j)) (fields_right h t k fs ls)

-- a cell over the cells below, a constructor of the file: "each size word is the true size"
unfoldable pub cell_right : File → List Cell → Cell → Bool
cell_right P h (leaf x) = true
cell_right P h (con t c k ls) = is_constructor (look (constructors_of P t) c) (λ fs. both (fields_right h t k fs ls) (eqb k (1 + own_sum h fs ls)))

unfoldable pub cells_right : File → List Cell → List Cell → Bool
cells_right P h [] = true
cells_right P h (c ∷ cs) = both (cell_right P h c) (cells_right P (h ++ (c ∷ [])) cs)

-- "Each channel's value has its declared type, no size in it is above its declaration or field k"
unfoldable pub roots_right : List Cell → List ℕ → List Ty → Bool
roots_right h [] [] = true
roots_right h [] (τ ∷ τs) = false
roots_right h (l ∷ ls) [] = false
roots_right h (l ∷ ls) (τ ∷ τs) = both (location_fits h l τ) (roots_right h ls τs)

-- "All used cells are reached from a channel": those below n
unfoldable pub all_reached : List ℕ → ℕ → Bool
all_reached R zero = true
all_reached R (suc n) = both (mem n R) (all_reached R n)

-- as every cell is reached, what is asked of each value is asked of each cell
unfoldable pub state_right : File → State → Bool
state_right P s = both (cells_right P [] s.heap) (both (roots_right s.heap s.roots (declared_types P)) (let R = reached s in all_reached R (length s.heap)))

-- the valid state of the file that the words hold, on a board of so many cells
unfoldable pub load_state : File → ℕ → List ℕ → Option State
load_state P cells ws = chain (state_of_words P cells ws) (λ s. when (state_right P s) s)
