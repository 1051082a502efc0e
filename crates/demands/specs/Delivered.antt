-- The three demands of the delivered calls `check`, `start`, `iterate` and `write`: of whatever a call answered and left, as its promise
-- tells (`Checks`, `Starts`, `Iterates`, `Writes`). No hypothesis is on text, state or line, in the first two none on lengths either.
use Rattle.std.specs.Prelude.{ℕ, ◌≤◌, List, [], ◌∷◌, map, Bool, ◌↔◌, ◌≡◌, length, drop, replicate}
use Rattle.std.proofs.Math.Option.{some}
use Rattle.language.specs.Refusals.{no_refusal, not_lent, bad_input_line, heap_spent, value_too_large, self_reading}
use Rattle.language.specs.Result.{ok, both}
use Rattle.language.specs.Syntax.{File, initial_values}
use Rattle.language.specs.Reader.{read_file}
use Rattle.language.specs.Within.{All}
use Rattle.language.specs.Estimate.{Estimate}
use Rattle.language.specs.Heap.{Tree, vnil}
use Rattle.language.specs.Slide.{State}
use Rattle.language.specs.Layout.{state_length, load_state}
use Rattle.language.specs.Line.{line_trees}
use Rattle.language.specs.Machine.{accepted, refusal, answer, zeros, written, list_lent, buffers_lent}
use Rattle.language.specs.PlainMachine.{no_trees, Derives, Step, initial_tree, initial_trees}
use Rattle.language.specs.InitialValues.{FileBegins}
use Rattle.language.specs.Answers.{Refused, FileAnswer, IterateAnswers, WriteAnswers}
use Rattle.language.specs.Acceptance.{TextOf, CheckerDemand, SelfReading}
use Rattle.language.specs.Writing.{WriterDemand}
use Rattle.language.specs.Evaluation.{NotLent, LineWrong, FileIterates, FileMeets}
use Rattle.language.specs.Run.{channel_trees, Call, StartAllowed, CallAllowed, Holds, line_verdict}
use Rattle.instance_list.specs.declared.Instance.{Instance}
use Rattle.instance_list.specs.Records.{none, records_of}
use Rattle.answers.specs.declared.Board.{Board}
use Rattle.answers.specs.declared.Answer.{Answer}
use Rattle.answers.specs.Boards.{board_of, said}
use Rattle.checker.specs.Checks.{Checks}
use Rattle.startup.specs.Starts.{Starts}
use Rattle.runtime.specs.Runs.{Iterates}
use Rattle.writer.specs.Writes.{Writes}

-- ---- demand 1: every call ends with a result or one numbered refusal; what a refused call leaves
pub record CheckLeaves (text : List ℕ) (list : List Instance) (r : Answer) (list' : List Instance) : Type 0 where
  pub answers : FileAnswer text (said r)
  pub list_long : length list' ≡ length list
  pub refused_list : Refused (said r) → list' ≡ replicate (length list) none

pub record StartLeaves (text : List ℕ) (b : Board) (list : List Instance) (state scratch slots : List ℕ) (r : Answer) (list' : List Instance) (state' scratch' slots' : List ℕ) : Type 0 where
  pub answers : FileAnswer text (said r)
  pub list_long : length list' ≡ length list
  pub state_long : length state' ≡ length state
  pub refused_list : Refused (said r) → list' ≡ replicate (length list) none
  pub refused_state : Refused (said r) → state' ≡ state
  pub beyond : drop (state_length b.cells) state' ≡ drop (state_length b.cells) state
  pub scratch_clear : scratch' ≡ zeros scratch
  pub slots_clear : slots' ≡ zeros slots

pub record Delivered1 : Type 0 where
  pub checks : {text : List ℕ} {list list' : List Instance} {b : Board} {r : Answer} → Checks text b list r list' → CheckLeaves text list r list'
  pub starts : {text state scratch slots state' scratch' slots' : List ℕ} {list list' : List Instance} {b : Board} {r : Answer} → Starts text b list state scratch slots r list' state' scratch' slots' →
      StartLeaves text b list state scratch slots r list' state' scratch' slots'
  pub iterates : {text state scratch slots line state' scratch' slots' : List ℕ} {b : Board} {r : Answer} → Iterates text b state scratch slots line r state' scratch' slots' →
      IterateAnswers text (board_of b) state scratch slots (record { answer = said r; state = state'; scratch = scratch'; slots = slots' })
  pub writes : {text buffer buffer' : List ℕ} {r : Answer} → Writes text buffer r buffer' → WriteAnswers text buffer (record { answer = said r; buffer = buffer' })

-- ---- demand 2: what is accepted, with which numbers; which value is given, and where none is
-- a start that is answered 0 left the state to which the rules lead from the initial values
pub record LeftBegun (text : List ℕ) (b : Board) (state state' : List ℕ) : Type 0 where
  pub file : File
  pub is : TextOf file text
  pub begun : State
  pub begins : FileBegins file (board_of b) begun
  pub trees : channel_trees begun ≡ initial_trees file
  pub derives : All (λ e. Derives file no_trees vnil e (initial_tree e)) (initial_values file)
  pub writes : state' ≡ written b.cells begun state
  pub valid : load_state file b.cells state' ≡ some begun

-- an iteration that is answered 0 left the state to which the rules lead from the state and the line lent
pub record LeftIterated (text : List ℕ) (b : Board) (lent : Bool) (state line state' : List ℕ) : Type 0 where
  pub after : State
  pub iterates : FileIterates text (board_of b) lent state line after
  pub writes : state' ≡ written b.cells after state
  pub valid : load_state iterates.given.file b.cells state' ≡ some after
  pub steps : Step iterates.given.file (channel_trees iterates.given.before) line (channel_trees after)

-- an iteration's answer and what it left, by the rules
pub record IterateJudged (text : List ℕ) (b : Board) (lent : Bool) (state line : List ℕ) (r : Answer) (state' : List ℕ) : Type 0 where
  pub order : (frame : ℕ) → ((r.number ≡ self_reading) × (r.frame ≡ frame)) ↔ SelfReading text frame
  pub lending : (r.number ≡ not_lent) ↔ NotLent text (board_of b) lent state
  pub wrong : (r.number ≡ bad_input_line) ↔ LineWrong text (board_of b) lent state line
  pub leads : (r.number ≡ no_refusal) ↔ ((after : State) × FileIterates text (board_of b) lent state line after)
  pub done : r.number ≡ no_refusal → LeftIterated text b lent state line state'
  pub meets : (n frame : ℕ) → ((said r ≡ answer (refusal n frame)) × (heap_spent ≤ n) × (n ≤ value_too_large)) ↔ FileMeets text (board_of b) lent state line n frame

pub record Delivered2 : Type 0 where
  pub checks : {text : List ℕ} {list list' : List Instance} {b : Board} {r : Answer} → Checks text b list r list' → CheckerDemand text (list_lent (board_of b) (records_of list)) (board_of b) (said r)
  pub starts : {text state scratch slots state' scratch' slots' : List ℕ} {list list' : List Instance} {b : Board} {r : Answer} → Starts text b list state scratch slots r list' state' scratch' slots' →
      CheckerDemand text (both (list_lent (board_of b) (records_of list)) (buffers_lent (board_of b) state scratch slots)) (board_of b) (said r)
  pub begun : {text state scratch slots state' scratch' slots' : List ℕ} {list list' : List Instance} {b : Board} {r : Answer} → Starts text b list state scratch slots r list' state' scratch' slots' → r.number ≡ no_refusal → LeftBegun text b state state'
  pub iterates : {text state scratch slots line state' scratch' slots' : List ℕ} {b : Board} {r : Answer} → Iterates text b state scratch slots line r state' scratch' slots' →
      IterateJudged text b (buffers_lent (board_of b) state scratch slots) state line r state'
  pub writes : {text buffer buffer' : List ℕ} {r : Answer} → Writes text buffer r buffer' → WriterDemand text buffer (record { answer = said r; buffer = buffer' })

-- ---- demand 3: runs
-- the call for a line: what it lent, what it answered, and the state that it left
pub record LineCall : Type 0 where
  pub board : Board
  pub scratch : List ℕ
  pub slots : List ℕ
  pub line : List ℕ
  pub answer : Answer
  pub after : List ℕ

abbrev pub lent_by : LineCall → Call
lent_by c = record { board = board_of c.board; scratch = c.scratch; slots = c.slots; line = c.line }

-- calls of `iterate`, each on the words that the one before left, each lending enough: at least the numbers x, no more cells than the start
pub data Called (text : List ℕ) (x : Estimate) (cells : ℕ) : List ℕ → List LineCall → Type 0 where
  no_line : {ws : List ℕ} → Called text x cells ws []
  a_line : {ws scratch' slots' : List ℕ} {c : LineCall} {cs : List LineCall} → CallAllowed x cells ws (lent_by c) → Iterates text c.board ws c.scratch c.slots c.line c.answer c.after scratch' slots' →
      Called text x cells c.after cs → Called text x cells ws (c ∷ cs)

-- the start and the calls for the lines; r is its answer, ws the state that it left
pub record RunOf (text : List ℕ) (x : Estimate) (b : Board) (r : Answer) (ws : List ℕ) (cs : List LineCall) : Type 0 where
  pub list : List Instance
  pub state : List ℕ
  pub scratch : List ℕ
  pub slots : List ℕ
  pub list' : List Instance
  pub scratch' : List ℕ
  pub slots' : List ℕ
  pub allowed : StartAllowed x (record { board = board_of b; list = records_of list; state = state; scratch = scratch; slots = slots })
  pub starts : Starts text b list state scratch slots r list' ws scratch' slots'
  pub calls : Called text x b.cells ws cs

-- every answer is 0 or 19, and the channels hold what the plain machine holds, of their types and sizes, in no more cells than stated
pub data GoesOn (P : File) (cells : ℕ) : List ℕ → List Tree → List LineCall → Type 0 where
  at_end : {ws : List ℕ} {vs : List Tree} → Holds P cells ws vs → GoesOn P cells ws vs []
  goes_on : {ws : List ℕ} {vs us : List Tree} {c : LineCall} {cs : List LineCall} → Holds P cells ws vs → said c.answer ≡ answer (line_verdict (line_trees P c.line)) → Step P vs c.line us →
      GoesOn P cells c.after us cs → GoesOn P cells ws vs (c ∷ cs)

-- two runs: equal values after the start and after each line, and equal answers
pub data SameRuns (P : File) (m n : ℕ) : List ℕ → List ℕ → List LineCall → List LineCall → Type 0 where
  both_done : {v w : List ℕ} {r s : State} → load_state P m v ≡ some r → load_state P n w ≡ some s → channel_trees r ≡ channel_trees s → SameRuns P m n v w [] []
  both_on : {v w : List ℕ} {r s : State} {c d : LineCall} {cs ds : List LineCall} → load_state P m v ≡ some r → load_state P n w ≡ some s → channel_trees r ≡ channel_trees s →
      said c.answer ≡ said d.answer → SameRuns P m n c.after d.after cs ds → SameRuns P m n v w (c ∷ cs) (d ∷ ds)

abbrev pub lines_of : List LineCall → List (List ℕ)
lines_of cs = map (λ (c : LineCall). c.line) cs

-- the checker accepted the text, on some board, with the numbers x
pub record AcceptedWith (text : List ℕ) (x : Estimate) : Type 0 where
  pub board : Board
  pub list : List Instance
  pub list' : List Instance
  pub reply : Answer
  pub checks : Checks text board list reply list'
  pub accepts : said reply ≡ answer (accepted x)

pub record Delivered3 : Type 0 where
  pub every : (text : List ℕ) (P : File) (x : Estimate) → read_file text ≡ ok P → AcceptedWith text x → {b : Board} {r : Answer} {ws : List ℕ} {cs : List LineCall} → RunOf text x b r ws cs →
      (said r ≡ answer (accepted x)) × GoesOn P b.cells ws (initial_trees P) cs
  pub two : (text : List ℕ) (P : File) (x : Estimate) → read_file text ≡ ok P → AcceptedWith text x → {b d : Board} {r s : Answer} {v w : List ℕ} {cs ds : List LineCall} → RunOf text x b r v cs → RunOf text x d s w ds →
      lines_of cs ≡ lines_of ds → SameRuns P b.cells d.cells v w cs ds
