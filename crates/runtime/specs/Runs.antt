-- What the calls promise that run a rule file: the machine's answer, and every lent buffer as it leaves it.
use Rattle.std.specs.Prelude.{ℕ, ◌+◌, ◌≤◌, List, ◌≡◌, length, replicate}
use Rattle.language.specs.Limits.{cells_most}
use Rattle.language.specs.Refusals.{no_frame, not_lent, bad_input_line}
use Rattle.language.specs.Result.{Result, ok, no, from}
use Rattle.language.specs.Syntax.{File}
use Rattle.language.specs.Slide.{State}
use Rattle.language.specs.Layout.{state_length, load_state}
use Rattle.language.specs.Line.{line_trees}
use Rattle.language.specs.PlainTyping.{WellPlain}
use Rattle.language.specs.Machine.{Board as MachineBoard, Iterated, lengths_lent, written, iterate_state, iterate_file, iterate}
use Rattle.index.specs.Indexed.{Indexed}
use Rattle.ends.specs.Told.{TellsUpdates, TellsReadings}
use Rattle.heads.specs.Places.{channel_line_of}
use Rattle.std.specs.Prelude.{Result as Outcome, Ok, Err}
use Rattle.language.specs.declared.refusals.RefusalAt.{RefusalAt}
use Rattle.language.specs.RefusalNumbers.{number_of}
use Rattle.iteration.specs.Promises.{Updated}
use Rattle.evaluator.specs.ChannelValues.{board_lent}
use Rattle.answers.specs.declared.Board.{Board}
use Rattle.answers.specs.declared.Answer.{Answer}
use Rattle.answers.specs.Boards.{board_of, said}
use Rattle.checker.specs.Checks.{OrderedHeld}

-- ---- the promise of the public function
pub record Iterates (text : List ℕ) (b : Board) (state scratch slots line : List ℕ) (r : Answer) (state' scratch' slots' : List ℕ) : Type 0 where
  pub is : ◌≡◌ {A = Iterated} (record { answer = said r; state = state'; scratch = scratch'; slots = slots' }) (iterate text (board_of b) state scratch slots line)

-- ---- the parts
abbrev pub frame_at : List ℕ → ℕ → ℕ
frame_at index c = channel_line_of index c + 1

-- what a part answers: nothing, or a refusal and its frame; and what an iteration that names its channel gives of it
abbrev pub Answered : Type 0
Answered = Outcome (Unit {0}) RefusalAt

abbrev pub reached : List ℕ → Updated → Answered
reached index (Ok used) = Ok tt
reached index (Err e) = Err (record { refusal = e.refusal; frame = frame_at index e.channel })

pub record Cleared (scratch : List ℕ) : Type 0 where
  pub is : scratch ≡ replicate (length scratch) 0

-- a result of the machine, as a part's answer and the words of a state
pub data Told (cells : ℕ) (words : List ℕ) : Answered → List ℕ → Result State → Type 0 where
  told_done : {s : State} {words' : List ℕ} → words' ≡ written cells s words → Told cells words (Ok tt) words' (ok s)
  told_refused : {e : RefusalAt} {words' : List ℕ} → words' ≡ words → Told cells words (Err e) words' (no (number_of e.refusal) e.frame)

-- a file that was read, of right plain types, no node of which reads itself; the ends of its expressions and the readings of its nodes
pub record Walked (text index ends readings : List ℕ) : Type 0 where
  pub ordered : OrderedHeld text index
  pub ends_told : TellsUpdates text index ends
  pub readings_told : TellsReadings text index readings

-- of a file of right plain types, where enough is lent: 18, 19, then 20 to 23
abbrev pub on_state : File → MachineBoard → List ℕ → List ℕ → Result State
on_state P b words line = from (load_state P b.cells words) not_lent no_frame (λ s. from (line_trees P line) bad_input_line no_frame (λ vs. iterate_state P b s vs))

pub record Lent (text index ends readings : List ℕ) (cells : ℕ) (words scratch : List ℕ) : Type 0 where
  pub file : File
  pub indexed : Indexed text index file
  pub ends_told : TellsUpdates text index ends
  pub readings_told : TellsReadings text index readings
  pub board : length words ≡ state_length cells
  pub most : cells ≤ cells_most
  pub room : cells ≤ length scratch
  pub clean : Cleared scratch

pub record IteratesLent (text index line : List ℕ) (cells calls : ℕ) (words scratch slots : List ℕ) (r : Answered) (words' scratch' slots' : List ℕ) : Type 0 where
  pub says : {P : File} → Indexed text index P → WellPlain P → Told cells words r words' (on_state P (board_lent cells slots calls) words line)
  pub clean : scratch' ≡ scratch
  pub long : length slots' ≡ length slots

pub record IteratesRead (text line : List ℕ) (b : Board) (state scratch slots : List ℕ) (r : Answered) (state' scratch' slots' : List ℕ) : Type 0 where
  pub says : Told b.cells state r state' (iterate_file text (board_of b) (lengths_lent (board_of b) (length state) (length scratch) (length slots)) state line)
  pub clean : scratch' ≡ scratch
  pub long : length slots' ≡ length slots
