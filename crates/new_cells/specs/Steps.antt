-- What evaluating something over the words of a state leaves: whether the answer is the definition's and the words hold its heap, and,
-- on any words, what stays as it was.
use Rattle.std.specs.Prelude.{ℕ, ◌≤◌, List, ◌≡◌, length, take, drop, Result, Ok, Err}
use Rattle.language.specs.declared.refusals.Refusal.{Refusal}
use Rattle.language.specs.RefusalNumbers.{number_of}
use Rattle.language.specs.Limits.{cells_most}
use Rattle.language.specs.Refusals.{no_refusal}
use Rattle.language.specs.Syntax.{File}
use Rattle.language.specs.Within.{All}
use Rattle.language.specs.Heap.{Cell}
use Rattle.language.specs.Layout.{state_length}
use Rattle.language.specs.Evaluator.{Out, value, refused}
use Rattle.theory.specs.CellWords.{Writable}
use Rattle.state_words.specs.Holds.{Holds}
use Rattle.new_cells.specs.declared.Value.{Value}

-- a value, or why there is none
abbrev pub Evaluated : Type 0
Evaluated = Result Value Refusal

-- the words are no more than a board's, and so many cells are used
pub record Board (words : List ℕ) (used : ℕ) : Type 0 where
  pub fits : state_length used ≤ length words
  pub small : length words ≤ state_length cells_most

-- the heap h of a file's cells lies in the words of a board with so many cells
pub record Lies (P : File) (cells : ℕ) (words : List ℕ) (used : ℕ) (h : List Cell) : Type 0 where
  pub board : length words ≡ state_length cells
  pub held : Holds words used h
  pub writable : All (Writable P) h

-- the number that the definition gives a refusal: its own
pub data Numbered (n : Refusal) : ℕ → Type 0 where
  by_number : Numbered n (number_of n)

-- the answer is the definition's, and its heap lies in the words
pub data Agrees (P : File) (words' : List ℕ) : Evaluated → Out → Type 0 where
  is_value : {v : Value} {h : List Cell} → Holds words' v.used h → All (Writable P) h → Agrees P words' (Ok v) (value v.cell h)
  is_refused : {n : Refusal} {m : ℕ} → Numbered n m → Agrees P words' (Err n) (refused m)

-- a value uses no fewer cells, and nothing beyond those it uses is touched
pub data Grown (words words' : List ℕ) (used : ℕ) : Evaluated → Type 0 where
  has_grown : {v : Value} → used ≤ v.used → state_length v.used ≤ length words → drop (state_length v.used) words' ≡ drop (state_length v.used) words → Grown words words' used (Ok v)
  not_grown : {n : Refusal} → Grown words words' used (Err n)

-- on any words: the header and the used cells stay
pub record Kept (words words' : List ℕ) (used : ℕ) (r : Evaluated) : Type 0 where
  pub long : length words' ≡ length words
  pub low : take (state_length used) words' ≡ take (state_length used) words
  pub grown : Grown words words' used r

-- a step that asks for what is a function of the board's cells and the heap
pub record Gives (words : List ℕ) (used : ℕ) (asked : File → ℕ → List Cell → Out → Type 0) (r : Evaluated) (words' : List ℕ) : Type 0 where
  pub says : {P : File} {cells : ℕ} {h : List Cell} {o : Out} → Lies P cells words used h → asked P cells h o → Agrees P words' r o
  pub kept : Kept words words' used r
