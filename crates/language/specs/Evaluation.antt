-- The evaluator by the rules, on the whole call: demand 2 of `start` and `iterate`. Document 01, "Estimation and memory", "By place".
use Rattle.std.specs.Prelude.{ℕ, ◌≤◌, List, map, Bool, true, ◌↔◌, ◌≡◌}
use Rattle.std.proofs.Math.Option.{none, some}
use Rattle.language.specs.Refusals.{no_refusal, not_lent, bad_input_line, heap_spent, value_too_large, self_reading}
use Rattle.language.specs.Syntax.{Input, File, initial_values}
use Rattle.language.specs.Within.{All, Within}
use Rattle.language.specs.PlainTyping.{WellPlain}
use Rattle.language.specs.Heap.{Tree, vnil}
use Rattle.language.specs.Slide.{State}
use Rattle.language.specs.Order.{Acyclic}
use Rattle.language.specs.Layout.{load_state}
use Rattle.language.specs.LineFormat.{input_text}
use Rattle.language.specs.Line.{trees_fit, line_trees}
use Rattle.language.specs.PlainMachine.{no_trees, Derives, Step, initial_tree, initial_trees}
use Rattle.language.specs.Machine.{Board, Record, answer, refusal, written, buffers_lent, start, iterate}
use Rattle.language.specs.InitialValues.{FileBegins}
use Rattle.language.specs.Iteration.{Iterates, IterationMeets}
use Rattle.language.specs.Run.{channel_trees}
use Rattle.language.specs.Acceptance.{TextOf, SelfReading}

-- values of the inputs' types, "no size above the declaration or a field's k"
abbrev pub InputsFit : File → List Tree → Type 0
InputsFit P vs = trees_fit P vs (map (λ (i : Input). i.declared) P.inputs) ≡ true

-- what an iteration runs on, where none of 1 to 9, 25, 18 and 19 is met: a file of right plain types, no node of which reads itself, enough
-- lent, a valid state, an allowed line
pub record Runnable (t : List ℕ) (b : Board) (lent : Bool) (ws line : List ℕ) : Type 0 where
  pub file : File
  pub is : TextOf file t
  pub plain : WellPlain file
  pub acyclic : Acyclic file
  pub enough : lent ≡ true
  pub before : State
  pub loads : load_state file b.cells ws ≡ some before
  pub inputs : List Tree
  pub spelled : line ≡ input_text inputs
  pub fit : InputsFit file inputs

-- 18: "board over its maximum, a buffer too short, or state not as above for this file"
pub record NotLent (t : List ℕ) (b : Board) (lent : Bool) (ws : List ℕ) : Type 0 where
  pub file : File
  pub is : TextOf file t
  pub plain : WellPlain file
  pub acyclic : Acyclic file
  pub invalid : lent ≡ true → load_state file b.cells ws ≡ none

-- 19: "input line wrong"
pub record LineWrong (t : List ℕ) (b : Board) (lent : Bool) (ws line : List ℕ) : Type 0 where
  pub file : File
  pub is : TextOf file t
  pub plain : WellPlain file
  pub acyclic : Acyclic file
  pub enough : lent ≡ true
  pub before : State
  pub loads : load_state file b.cells ws ≡ some before
  pub wrong : (vs : List Tree) → line ≡ input_text vs → InputsFit file vs → ⊥

-- on what is right the rules lead to a state, or meet a refusal
pub record FileIterates (t : List ℕ) (b : Board) (lent : Bool) (ws line : List ℕ) (after : State) : Type 0 where
  pub given : Runnable t b lent ws line
  pub iterates : Iterates given.file b given.before given.inputs after

pub record FileMeets (t : List ℕ) (b : Board) (lent : Bool) (ws line : List ℕ) (n frame : ℕ) : Type 0 where
  pub given : Runnable t b lent ws line
  pub meets : IterationMeets given.file b given.before given.inputs n frame

-- what a start that is answered 0 did: it wrote the state to which the rules lead, which is valid and holds the initial trees, and these
-- are what the plain machine's rules derive
pub record StartDone (t : List ℕ) (b : Board) (list : List Record) (state scratch slots : List ℕ) : Type 0 where
  pub file : File
  pub is : TextOf file t
  pub begun : State
  pub begins : FileBegins file b begun
  pub trees : channel_trees begun ≡ initial_trees file
  pub derives : All (λ e. Derives file no_trees vnil e (initial_tree e)) (initial_values file)
  pub writes : (start t b list state scratch slots).state ≡ written b.cells begun state
  pub valid : load_state file b.cells (start t b list state scratch slots).state ≡ some begun

-- what an iteration that is answered 0 did: it wrote the state to which the rules lead, which is valid, and whose trees are the plain
-- machine's next
pub record IterateDone (t : List ℕ) (b : Board) (state scratch slots line : List ℕ) : Type 0 where
  pub after : State
  pub iterates : FileIterates t b (buffers_lent b state scratch slots) state line after
  pub writes : (iterate t b state scratch slots line).state ≡ written b.cells after state
  pub valid : load_state iterates.given.file b.cells (iterate t b state scratch slots line).state ≡ some after
  pub steps : Step iterates.given.file (channel_trees iterates.given.before) line (channel_trees after)

-- demand 2 of the evaluator: no hypothesis on text, board, state, line or lengths
pub record EvaluatorDemand : Type 0 where
  pub line : (P : File) → Within P → (line : List ℕ) (vs : List Tree) → (line_trees P line ≡ some vs) ↔ ((line ≡ input_text vs) × InputsFit P vs)
  pub starts : (t : List ℕ) (b : Board) (list : List Record) (state scratch slots : List ℕ) → (start t b list state scratch slots).answer.number ≡ no_refusal → StartDone t b list state scratch slots
  pub order : (t : List ℕ) (b : Board) (state scratch slots line : List ℕ) (frame : ℕ) →
      (((iterate t b state scratch slots line).answer.number ≡ self_reading) × ((iterate t b state scratch slots line).answer.frame ≡ frame)) ↔ SelfReading t frame
  pub lending : (t : List ℕ) (b : Board) (state scratch slots line : List ℕ) → ((iterate t b state scratch slots line).answer.number ≡ not_lent) ↔ NotLent t b (buffers_lent b state scratch slots) state
  pub wrong : (t : List ℕ) (b : Board) (state scratch slots line : List ℕ) → ((iterate t b state scratch slots line).answer.number ≡ bad_input_line) ↔ LineWrong t b (buffers_lent b state scratch slots) state line
  pub done : (t : List ℕ) (b : Board) (state scratch slots line : List ℕ) → (iterate t b state scratch slots line).answer.number ≡ no_refusal → IterateDone t b state scratch slots line
  pub leads : (t : List ℕ) (b : Board) (state scratch slots line : List ℕ) →
      ((iterate t b state scratch slots line).answer.number ≡ no_refusal) ↔ ((after : State) × FileIterates t b (buffers_lent b state scratch slots) state line after)
  pub meets : (t : List ℕ) (b : Board) (state scratch slots line : List ℕ) (n frame : ℕ) →
      (((iterate t b state scratch slots line).answer ≡ answer (refusal n frame)) × (heap_spent ≤ n) × (n ≤ value_too_large)) ↔ FileMeets t b (buffers_lent b state scratch slots) state line n frame
