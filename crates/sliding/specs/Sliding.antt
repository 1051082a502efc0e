-- Cells kept and moved, against the definition's slide; what the functions promise.
use Rattle.std.specs.Prelude.{ℕ, ◌+◌, ◌-◌, ◌*◌, ◌≤◌, ◌<◌, List, ◌∷◌, map, true, ◌≡◌, length, get_or, take, drop, set, replicate}
use Rattle.std.proofs.lemmas.List.Edits.{sets}
use Rattle.language.specs.Limits.{fields_most, channels_most, header_words, cell_words}
use Rattle.language.specs.Syntax.{File}
use Rattle.language.specs.Within.{All}
use Rattle.language.specs.Heap.{Cell, cell_at}
use Rattle.language.specs.Slide.{State, reached, slide}
use Rattle.language.specs.Layout.{padded, state_length, all_zero}
use Rattle.language.specs.Machine.{written}
use Rattle.theory.specs.CellWords.{Writable}
use Rattle.theory.specs.Ranks.{members_below, rank}
use Rattle.theory.specs.Reaches.{Reached, NamesLower, Linked}
use Rattle.theory.specs.Slides.{new_number, moved}
use Rattle.index.specs.Sections.{types_of}
use Rattle.index.specs.Indexed.{Indexed}
use Rattle.state_words.specs.Words.{channel_at, tag_at, value_at, field_at, row_of, field_count}
use Rattle.state_words.specs.Holds.{Holds}
use Rattle.marking.specs.Marks.{Marks, Marking}

-- a row of zeros filled with the first numbers that a function gives
pub record Filled (f : ℕ → ℕ) (j : ℕ) (row₀ row : List ℕ) : Type 0 where
  pub long : length row ≡ length row₀
  pub is : row₀ ≡ replicate fields_most 0 → row ≡ padded fields_most (row_of f j)

-- the words of a cell of n fields as it moves: marks are the new numbers
abbrev pub moved_words : List ℕ → List ℕ → ℕ → ℕ → List ℕ
moved_words words marks cell n = tag_at words cell ∷ value_at words cell ∷ padded fields_most (row_of (λ j. get_or marks (field_at words cell j) 0) n)

-- a cell passed
pub data Moved (index words marks : List ℕ) (cell next r : ℕ) (words' marks' : List ℕ) : Type 0 where
  stays_out : get_or marks cell 0 ≡ 0 → r ≡ next → words' ≡ words → marks' ≡ marks → Moved index words marks cell next r words' marks'
  moves_down : ((get_or marks cell 0 ≡ 0) → ⊥) → r ≡ next + 1 → words' ≡ sets words (state_length next) (moved_words words marks cell (field_count (types_of index) (tag_at words cell))) → marks' ≡ set marks cell next →
      Moved index words marks cell next r words' marks'

-- the reached ones of the first i cells lie at the bottom, and the marks are their new numbers
pub record Slid (s : State) (i next : ℕ) (words marks : List ℕ) : Type 0 where
  pub kept : next ≡ rank (reached s) i
  pub holds : Holds words next (map (λ l. moved s (cell_at s.heap l)) (members_below (reached s) i))
  pub numbers : (l : ℕ) → l < i → Reached s l → get_or marks l 0 ≡ new_number s l

-- the first i cells of those used were passed
pub record Sweeps (index words marks : List ℕ) (used i next : ℕ) (words' marks' : List ℕ) : Type 0 where
  pub low : next ≤ i
  pub wide : length words' ≡ length words
  pub long : length marks' ≡ length marks
  pub header : take header_words words' ≡ take header_words words
  pub high : drop (state_length i) words' ≡ drop (state_length i) words
  pub above : (l : ℕ) → i ≤ l → get_or marks' l 0 ≡ get_or marks l 0
  pub says : (s : State) → Marking index words used marks s.heap → NamesLower s.heap → Marks marks (reached s) → Slid s i next words' marks'

-- a state in words whose number of cells used is not yet written: unused words of channels are zero, and the cells above
pub record Unslid (index words : List ℕ) (channels used cells : ℕ) (h : List Cell) : Type 0 where
  pub text : List ℕ
  pub file : File
  pub indexed : Indexed text index file
  pub holds : Holds words used h
  pub writable : All (Writable file) h
  pub linked : Linked (record { heap = h; roots = row_of (channel_at words) channels })
  pub room : used ≤ cells
  pub lent : state_length cells ≤ length words
  pub unused : all_zero (drop channels (take channels_most (drop 1 words))) ≡ true
  pub beyond : all_zero (take (cell_words * (cells - used)) (drop (state_length used) words)) ≡ true

-- the words are those of the state slid; nothing is left of the marks
pub record KeepsReached (index : List ℕ) (channels used : ℕ) (words marks words' marks' : List ℕ) : Type 0 where
  pub none : marks' ≡ replicate (length marks) 0
  pub says : (cells : ℕ) (h : List Cell) → Unslid index words channels used cells h → marks ≡ replicate used 0 → words' ≡ written cells (slide (record { heap = h; roots = row_of (channel_at words) channels })) words

pub record Collects (index : List ℕ) (channels used : ℕ) (words scratch words' scratch' : List ℕ) : Type 0 where
  pub none : scratch ≡ replicate (length scratch) 0 → scratch' ≡ scratch
  pub says : (cells : ℕ) (h : List Cell) → Unslid index words channels used cells h → scratch ≡ replicate (length scratch) 0 → words' ≡ written cells (slide (record { heap = h; roots = row_of (channel_at words) channels })) words
