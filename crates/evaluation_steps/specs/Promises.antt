-- What the functions of the cycle promise. Each is asked for something of the definition's, on a heap that lies in the words and in an
-- environment that is the first slots; on any words and bytes it keeps what is below.
use Rattle.std.specs.Prelude.{ℕ, ◌+◌, ◌-◌, ◌≤◌, ◌<◌, List, ◌≡◌, length, get_or, take, Result, Ok, Err}
use Rattle.language.specs.declared.refusals.Refusal.{Refusal}
use Rattle.language.specs.Limits.{parameters_most, channels_most}
use Rattle.language.specs.Syntax.{Expr, Exprs, File}
use Rattle.language.specs.Format.{expr_bytes, exprs_bytes}
use Rattle.language.specs.Scope.{Scope}
use Rattle.language.specs.Within.{All, WithinExpr, WithinExprs}
use Rattle.language.specs.Heap.{Cell}
use Rattle.language.specs.Evaluator.{Out, Outs, values, refused_all_of, Channels, evals, run}
use Rattle.theory.specs.CellWords.{Writable}
use Rattle.text.specs.Places.{past}
use Rattle.encoding.specs.Spells.{Spells}
use Rattle.encoding.specs.FrameLines.{line_at}
use Rattle.encoding.specs.Known.{Known}
use Rattle.heads.specs.declared.Form.{Form}
use Rattle.heads.specs.declared.Form.TheVariants.{Call}
use Rattle.index.specs.Sections.{frames_of}
use Rattle.index.specs.Indexed.{frame_place, line_count, Indexed}
use Rattle.state_words.specs.Words.{channel_at, row_of}
use Rattle.state_words.specs.Holds.{Holds}
use Rattle.new_cells.specs.Steps.{Evaluated, Board, Numbered, Lies, Agrees, Kept}
use Rattle.ends.specs.Ended.{Ended, EndedAll, BodiesTold}
use Rattle.evaluation_steps.specs.declared.Context.{Context}
use Rattle.evaluation_steps.specs.declared.Program.{Program}
use Rattle.evaluation_steps.specs.declared.Values.{Values}

-- how many cells are used and where the line goes on, or why there is no value
abbrev pub EvaluatedAll : Type 0
EvaluatedAll = Result Values Refusal

-- what is said of a text, an index, ends and channels' cells, said of those of a program
abbrev pub of_program : {A : Type 1} → (List ℕ → List ℕ → List ℕ → List ℕ → A) → Program → A
of_program says program = says program.text.now program.index.now program.ends.now program.channels.now

-- ---- what a function may rest on, on any bytes
pub record Room (words slots : List ℕ) (p : Context) : Type 0 where
  pub board : Board words p.used
  pub top : p.top ≤ length slots

-- the slots of a call's arguments are free
abbrev pub Waits : Form → ℕ → ℕ → List ℕ → Type 0
Waits form top n slots = (f : ℕ) → form ≡ Call f → top + n ≤ length slots

-- the first slots stay
pub record Below (top : ℕ) (slots slots' : List ℕ) : Type 0 where
  pub low : take top slots' ≡ take top slots
  pub long : length slots' ≡ length slots

-- ---- the file, the scope S, the channels N and the heap h of an expression's place
pub record Stage (text index ends now words : List ℕ) (p : Context) (P : File) (cells : ℕ) (S : Scope) (N : Channels) (h : List Cell) : Type 0 where
  pub indexed : Indexed text index P
  pub told : BodiesTold text index ends P
  pub less : p.line < line_count P
  pub known : Known P S
  pub now_cells : (c : ℕ) → c < S.channels → get_or now c 0 ≡ get_or N.now c 0
  pub last_cells : (c : ℕ) → c < S.channels → channel_at words c ≡ get_or N.last c 0
  pub few : S.channels ≤ channels_most
  pub lies : Lies P cells words p.used h

-- an expression of a scope stands at a place of a line, its parts ended by the table; expressions in a row
pub record Stands (text index ends : List ℕ) (line : ℕ) (S : Scope) (at : ℕ) (e : Expr) : Type 0 where
  pub levels : ℕ
  pub within : WithinExpr levels S e
  pub spelled : Spells expr_bytes (line_at text line) at e
  pub ended : Ended ends (frame_place (frames_of index) line) (line_at text line) at e

pub record StandsAll (text index ends : List ℕ) (line : ℕ) (S : Scope) (at n : ℕ) (es : Exprs) : Type 0 where
  pub levels : ℕ
  pub within : WithinExprs levels S n es
  pub few : n ≤ parameters_most
  pub spelled : Spells exprs_bytes (line_at text line) at es
  pub ended : EndedAll ends (frame_place (frames_of index) line) (line_at text line) at es

-- ---- one value
abbrev pub Asked : Type 1
Asked = File → ℕ → Scope → Channels → List Cell → Out → Type 0

pub record Evals (text index ends now words slots : List ℕ) (p : Context) (X : Asked) (r : Evaluated) (words' slots' : List ℕ) : Type 0 where
  pub says : {P : File} {cells : ℕ} {S : Scope} {N : Channels} {h : List Cell} {o : Out} → Stage text index ends now words p P cells S N h → X P cells S N h o → Agrees P words' r o
  pub kept : Kept words words' p.used r
  pub below : Below p.top slots slots'

-- ---- several, their cells in the first words of a row
abbrev pub cells_in : List ℕ → ℕ → List ℕ
cells_in row n = row_of (λ j. get_or row j 0) n

pub data AgreesAll (P : File) (words' row : List ℕ) (n end : ℕ) : EvaluatedAll → Outs → Type 0 where
  are_values : {v : Values} {h : List Cell} {ls : List ℕ} → Holds words' v.used h → All (Writable P) h → cells_in row n ≡ ls → v.next.at ≡ end → AgreesAll P words' row n end (Ok v) (values ls h)
  are_refused : {k : Refusal} {m : ℕ} → Numbered k m → AgreesAll P words' row n end (Err k) (refused_all_of m)

-- as one value: how many cells are used is all that counts
abbrev pub as_value : EvaluatedAll → Evaluated
as_value (Ok v) = Ok (record { cell = 0; used = v.used })
as_value (Err k) = Err k

-- the cursor does not go back
pub data Onward (at : ℕ) : EvaluatedAll → Type 0 where
  goes_on : {v : Values} → at ≤ v.next.at → Onward at (Ok v)
  goes_out : {k : Refusal} → Onward at (Err k)

pub record EvalsAll (text index ends now words slots : List ℕ) (p : Context) (n : ℕ) (r : EvaluatedAll) (words' slots' row' : List ℕ) : Type 0 where
  pub says : {P : File} {cells : ℕ} {S : Scope} {N : Channels} {h : List Cell} {es : Exprs} → Stage text index ends now words p P cells S N h → StandsAll text index ends p.line S p.at.at n es →
      AgreesAll P words' row' n (past (line_at text p.line) p.at.at (length (exprs_bytes es))) r (evals P (run P cells p.calls) cells N es (take p.top slots) (length slots - p.top) h)
  pub kept : Kept words words' p.used (as_value r)
  pub below : Below p.top slots slots'
  pub onward : Onward p.at.at r
