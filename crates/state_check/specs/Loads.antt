-- The test of a lent state in its parts, beside the definition's, and what the functions promise that make it.
use Rattle.std.specs.Prelude.{ℕ, ◌-◌, ◌*◌, ◌≤◌, List, Bool, true, false, ◌≡◌, length, take, drop, replicate, leb}
use Rattle.std.proofs.Math.Option.{Option, none, some}
use Rattle.language.specs.Limits.{channels_most, cell_words}
use Rattle.language.specs.Result.{both}
use Rattle.language.specs.Syntax.{File, declared_types}
use Rattle.language.specs.Within.{All}
use Rattle.language.specs.Heap.{Cell}
use Rattle.language.specs.Slide.{State, reached}
use Rattle.language.specs.Layout.{state_length, all_zero, roots_right, all_reached, load_state}
use Rattle.theory.specs.CellWords.{Writable}
use Rattle.text_lines.specs.Lines.{is_some}
use Rattle.index.specs.Indexed.{Indexed}
use Rattle.state_words.specs.Words.{channel_at, row_of}
use Rattle.state_words.specs.Holds.{Holds}
use Rattle.marking.specs.Marks.{Marks, Marking}
use Rattle.cell_check.specs.Judged.{heap_to}

-- ---- what is asked of a heap of right cells, with these cells of the channels
abbrev pub state_of : List Cell → List ℕ → State
state_of h roots = record { heap = h; roots = roots }

unfoldable pub heap_right : File → List ℕ → Option (List Cell) → Bool
heap_right P roots none = false
heap_right P roots (some h) = both (roots_right h roots (declared_types P)) (all_reached (reached (state_of h roots)) (length h))

-- the words that are not used are zero, on a board of so many cells
abbrev pub laid_out : List ℕ → ℕ → ℕ → ℕ → Bool
laid_out words channels used cells = both (leb used cells) (both (all_zero (drop channels (take channels_most (drop 1 words)))) (all_zero (take (cell_words * (cells - used)) (drop (state_length used) words))))

-- ---- promises
pub record ChannelsJudged (index words : List ℕ) (channels used : ℕ) (r : Bool) : Type 0 where
  pub says : (text : List ℕ) (P : File) → Indexed text index P → channels ≡ length (declared_types P) → (h : List Cell) → Holds words used h → All (Writable P) h → r ≡ roots_right h (row_of (channel_at words) channels) (declared_types P)

pub record MarksJudged (marks : List ℕ) (used : ℕ) (r : Bool) : Type 0 where
  pub says : (R : List ℕ) → Marks marks R → length marks ≡ used → r ≡ all_reached R used

pub record ReachedJudged (index words : List ℕ) (channels used : ℕ) (marks : List ℕ) (r : Bool) (marks' : List ℕ) : Type 0 where
  pub none : marks' ≡ replicate (length marks) 0
  pub says : (h : List Cell) → Marking index words used marks h → marks ≡ replicate used 0 → r ≡ all_reached (reached (state_of h (row_of (channel_at words) channels))) used

pub record LaidJudged (words : List ℕ) (channels used cells : ℕ) (r : Bool) : Type 0 where
  pub room : r ≡ true → used ≤ cells
  pub says : channels ≤ channels_most → r ≡ laid_out words channels used cells

pub record RightJudged (index words : List ℕ) (types channels used : ℕ) (marks : List ℕ) (r : Bool) (marks' : List ℕ) : Type 0 where
  pub none : marks ≡ replicate (length marks) 0 → marks' ≡ marks
  pub says : (text : List ℕ) (P : File) → Indexed text index P → types ≡ length P.types → channels ≡ length (declared_types P) → state_length used ≤ length words → marks ≡ replicate used 0 →
      r ≡ heap_right P (row_of (channel_at words) channels) (heap_to P words used)

-- true exactly where the buffers are long enough and the definition gives a state
pub record StateJudged (index words : List ℕ) (cells : ℕ) (scratch : List ℕ) (r : Bool) (scratch' : List ℕ) : Type 0 where
  pub none : scratch ≡ replicate (length scratch) 0 → scratch' ≡ scratch
  pub says : (text : List ℕ) (P : File) → Indexed text index P → scratch ≡ replicate (length scratch) 0 → r ≡ both (both (leb (state_length cells) (length words)) (leb cells (length scratch))) (is_some (load_state P cells words))
