-- Boards and answers of the code beside the machine's, and what the small functions promise that judge what is lent and what is needed.
use Rattle.std.specs.Prelude.{ℕ, ◌≤◌, List, Bool, true, ◌≡◌, length, replicate}
use Rattle.language.specs.Limits.{instances_most}
use Rattle.language.specs.Refusals.{no_refusal, no_frame}
use Rattle.language.specs.Estimate.{Estimate as Exact}
use Rattle.language.specs.Machine.{Board as MachineBoard, Answer as MachineAnswer, Record, empty_record, answer, judge, board_allowed, list_lent, lengths_lent}
use Rattle.std.specs.Prelude.{Result as Outcome, Ok, Err}
use Rattle.language.specs.declared.refusals.RefusalAt.{RefusalAt}
use Rattle.language.specs.RefusalNumbers.{number_of}
use Rattle.estimate.specs.declared.Estimate.{Estimate as Held}
use Rattle.language.specs.Result.{both}
use Rattle.answers.specs.declared.Board.{Board}
use Rattle.answers.specs.declared.Answer.{Answer}

-- ---- the code's values as the machine's
abbrev pub board_of : Board → MachineBoard
board_of b = record { cells = b.cells; slots = b.slots; calls = b.calls }

abbrev pub numbers_of : Held → Exact
numbers_of x = record { env = x.env; heap = x.heap; stack = x.stack }

abbrev pub said : Answer → MachineAnswer
said r = record { number = r.number; frame = r.frame; bounds = record { env = r.environment; heap = r.heap; stack = r.stack } }

-- so many records, whatever they hold
abbrev pub lent_records : ℕ → List Record
lent_records n = replicate n empty_record

-- ---- answers
abbrev pub refusal_of : ℕ → ℕ → Answer
refusal_of n frame = record { number = n; frame = frame; heap = 0; environment = 0; stack = 0 }

abbrev pub bounds_of : ℕ → Held → Answer
bounds_of n x = record { number = n; frame = no_frame; heap = x.heap; environment = x.env; stack = x.stack }

-- without bounds: a refusal, or 0 where all is well
unfoldable pub answer_of : {A : Type 0} → Outcome A RefusalAt → Answer
answer_of (Ok a) = refusal_of no_refusal no_frame
answer_of (Err e) = refusal_of (number_of e.refusal) e.frame

-- ---- what is lent
pub record Allows (b : Board) (r : Bool) : Type 0 where
  pub is : r ≡ board_allowed (board_of b)

pub record Lends (b : Board) (records : ℕ) (r : Bool) : Type 0 where
  pub is : r ≡ list_lent (board_of b) (lent_records records)

pub record LendsAll (b : Board) (state scratch slots : ℕ) (r : Bool) : Type 0 where
  pub is : r ≡ lengths_lent (board_of b) state scratch slots

pub record LendsList (b : Board) (records state scratch slots : ℕ) (r : Bool) : Type 0 where
  pub is : r ≡ both (list_lent (board_of b) (lent_records records)) (lengths_lent (board_of b) state scratch slots)

-- then the list has room for all instances
pub record Granted (given : Bool) (records : ℕ) : Type 0 where
  pub room : given ≡ true → instances_most ≤ records

-- ---- what the board has
pub record Judges (b : Board) (x : Held) (r : Answer) : Type 0 where
  pub is : said r ≡ answer (judge (board_of b) (numbers_of x))

-- ---- two rows cleared
pub record ClearsBoth (first second first' second' : List ℕ) : Type 0 where
  pub first_is : first' ≡ replicate (length first) 0
  pub second_is : second' ≡ replicate (length second) 0
