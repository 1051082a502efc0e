-- Words that hold a heap, and what the functions promise that read a cell of it. Holds is a notion of the proofs; document 01 has no
-- word for it.
use Rattle.std.specs.Prelude.{ℕ, ◌+◌, ◌≤◌, ◌<◌, List, ◌≡◌, length, get_or, take, drop}
use Rattle.std.proofs.lemmas.List.Edits.{sets}
use Rattle.language.specs.Limits.{fields_most, header_words, cell_words}
use Rattle.language.specs.Syntax.{File}
use Rattle.language.specs.Within.{All}
use Rattle.language.specs.Format.{spell_all}
use Rattle.language.specs.Heap.{Cell, cell_at, constructor_in, fields_in}
use Rattle.language.specs.Layout.{words_of, state_length}
use Rattle.theory.specs.CellWords.{Writable}
use Rattle.index.specs.Indexed.{Indexed}

-- the first cells of the words, as many as are used, are those of the heap
pub record Holds (words : List ℕ) (used : ℕ) (heap : List Cell) : Type 0 where
  pub count : used ≡ length heap
  pub room : state_length used ≤ length words
  pub is : drop header_words (take (state_length used) words) ≡ spell_all words_of heap

-- ---- the words of one cell written, all others as they were
pub record Written (words : List ℕ) (cell : ℕ) (row words' : List ℕ) : Type 0 where
  pub wide : length row ≡ cell_words
  pub room : state_length (cell + 1) ≤ length words
  pub is : words' ≡ sets words (state_length cell) row

-- ---- a cell read: the answer for every heap that the words hold, at any number, as the definitions read beyond the heap
pub record Reads {A : Type 0} (words : List ℕ) (used : ℕ) (asked : List Cell → A) (r : A) : Type 0 where
  pub says : (h : List Cell) → Holds words used h → r ≡ asked h

-- which constructor: of cells that words tell apart
pub record ReadsConstructor (words : List ℕ) (used cell r : ℕ) : Type 0 where
  pub says : (P : File) (h : List Cell) → Holds words used h → All (Writable P) h → r ≡ constructor_in (cell_at h cell)

-- how many fields: as the index tells of the file
pub record ReadsCount (index words : List ℕ) (used cell r : ℕ) : Type 0 where
  pub says : (text : List ℕ) (P : File) → Indexed text index P → (h : List Cell) → Holds words used h → All (Writable P) h → r ≡ length (fields_in (cell_at h cell))

pub record ReadsField (words : List ℕ) (used cell j r : ℕ) : Type 0 where
  pub says : (h : List Cell) → Holds words used h → j < fields_most → r ≡ get_or (fields_in (cell_at h cell)) j 0
