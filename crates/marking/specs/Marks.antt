-- Marks against the cells that the definition calls reached, and what the functions promise that make them.
use Rattle.std.specs.Prelude.{ℕ, ◌<◌, List, ◌≡◌, length, get_or, drop, replicate}
use Rattle.language.specs.Result.{choose}
use Rattle.language.specs.Syntax.{File}
use Rattle.language.specs.Within.{All}
use Rattle.language.specs.Format.{bit}
use Rattle.language.specs.Heap.{Cell}
use Rattle.language.specs.Slide.{mem, reached_from, reached}
use Rattle.theory.specs.CellWords.{Writable}
use Rattle.index.specs.Sections.{types_of}
use Rattle.index.specs.Indexed.{Indexed}
use Rattle.state_words.specs.Words.{channel_at, tag_at, field_at, row_of, field_count}
use Rattle.state_words.specs.Holds.{Holds}

-- the marks are those of a list of cell numbers
pub record Marks (marks R : List ℕ) : Type 0 where
  pub at : (l : ℕ) → l < length marks → get_or marks l 0 ≡ bit (mem l R)

-- the cells of a list were marked
pub record Touched (named marks marks' : List ℕ) : Type 0 where
  pub long : length marks' ≡ length marks
  pub at : (l : ℕ) → l < length marks → get_or marks' l 0 ≡ choose (mem l named) 1 (get_or marks l 0)

-- what a cell names was marked, if it is marked itself
pub data Visited (index words : List ℕ) (cell : ℕ) (marks marks' : List ℕ) : Type 0 where
  passed_by : get_or marks cell 0 ≡ 0 → marks' ≡ marks → Visited index words cell marks marks'
  named_marked : ((get_or marks cell 0 ≡ 0) → ⊥) → Touched (row_of (field_at words cell) (field_count (types_of index) (tag_at words cell))) marks marks' → Visited index words cell marks marks'

-- the words hold this heap, of cells of the file that the index tells; a mark for each cell
pub record Marking (index words : List ℕ) (used : ℕ) (marks : List ℕ) (h : List Cell) : Type 0 where
  pub text : List ℕ
  pub file : File
  pub indexed : Indexed text index file
  pub holds : Holds words used h
  pub writable : All (Writable file) h
  pub each : length marks ≡ used

-- the cells from i on were visited
pub record MarkedFrom (index words : List ℕ) (used : ℕ) (marks : List ℕ) (i : ℕ) (marks' : List ℕ) : Type 0 where
  pub long : length marks' ≡ length marks
  pub says : (h : List Cell) → Marking index words used marks h → (R : List ℕ) → Marks marks R → Marks marks' (reached_from R i (drop i h))

-- from no marks, the cells that the channels reach
pub record MarksReached (index words : List ℕ) (channels used : ℕ) (marks marks' : List ℕ) : Type 0 where
  pub long : length marks' ≡ length marks
  pub says : (h : List Cell) → Marking index words used marks h → marks ≡ replicate used 0 → Marks marks' (reached (record { heap = h; roots = row_of (channel_at words) channels }))
