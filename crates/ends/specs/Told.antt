-- What the functions promise that fill the table for a file and gather what its nodes read: of the expression of one line, of those of
-- several lines so far, of all.
use Rattle.std.specs.Prelude.{ℕ, ◌+◌, ◌≤◌, ◌<◌, List, ◌≡◌, length, get_or}
use Rattle.std.proofs.Math.Option.{some}
use Rattle.std.proofs.Math.ListN.{get_elem? as look}
use Rattle.language.specs.Limits.{text_most, nesting_most, nodes_most}
use Rattle.language.specs.Syntax.{Expr, File, node_at_of}
use Rattle.language.specs.Order.{readings}
use Rattle.language.specs.Format.{expr_bytes}
use Rattle.language.specs.Scope.{Scope}
use Rattle.language.specs.Within.{WithinExpr}
use Rattle.encoding.specs.Spells.{Spells}
use Rattle.encoding.specs.FrameLines.{line_start, line_at}
use Rattle.index.specs.declared.Counts.{Counts}
use Rattle.index.specs.Sections.{frames_of, types_of, functions_of, channels_of}
use Rattle.index.specs.Indexed.{body_at, initial_at, update_at, FrameIndexed, Indexed}
use Rattle.heads.specs.Skips.{Shapes}
use Rattle.ends.specs.declared.Part.{Part}
use Rattle.ends.specs.declared.Part.TheVariants.{Body, Initial, Update}
use Rattle.ends.specs.Gathered.{Gathers}
use Rattle.ends.specs.Ended.{LineEnded, UpdatesTold, InitialsTold}

-- an expression stands at a place of line i, in some scope within the limits
pub record Stands (text index : List ℕ) (i at : ℕ) (e : Expr) : Type 0 where
  pub frame : FrameIndexed text (frames_of index) i
  pub short : length text ≤ text_most
  pub scope : Scope
  pub shapes : Shapes (types_of index) (functions_of index) scope
  pub within : WithinExpr nesting_most scope e
  pub spelled : Spells expr_bytes (line_at text i) at e

-- the words before a line are as they were
pub record FrontKept (text : List ℕ) (line : ℕ) (ends ends' : List ℕ) : Type 0 where
  pub same : (i : ℕ) → i < line_start text line → get_or ends' i 0 ≡ get_or ends i 0

-- what stands at a place of line i was told, and what it reads was gathered
pub record LineTold (text index : List ℕ) (i at : ℕ) (e : Expr) (ends ends' : List ℕ) (word : ℕ) : Type 0 where
  pub told : LineEnded text index i at e ends'
  pub read : Gathers (readings e) word
  pub kept : FrontKept text i ends ends'

pub record LineEnds (text index : List ℕ) (i at : ℕ) (ends ends' : List ℕ) (word : ℕ) : Type 0 where
  pub says : (e : Expr) → Stands text index i at e → LineTold text index i at e ends ends' word

-- where a part of function or channel i starts in its line
unfoldable pub start_of : List ℕ → Part → ℕ → ℕ
start_of index Body f = body_at (functions_of index) f
start_of index Initial c = initial_at (channels_of index) c
start_of index Update c = update_at (channels_of index) c

-- expressions in lines that follow each other from `first` on, parts of functions or channels from number `from` on; the first n of them told
pub record LinesStand (text index : List ℕ) (part : Part) (first from : ℕ) (es : List Expr) : Type 0 where
  pub each : (k : ℕ) {e : Expr} → look es k ≡ some e → Stands text index (first + k) (start_of index part (from + k)) e

pub record LinesTold (text index : List ℕ) (part : Part) (first from : ℕ) (es : List Expr) (n : ℕ) (ends : List ℕ) : Type 0 where
  pub each : (k : ℕ) {e : Expr} → k < n → look es k ≡ some e → LineEnded text index (first + k) (start_of index part (from + k)) e ends

-- of n such expressions the first m
pub record TellsLines (text index : List ℕ) (part : Part) (first from n m : ℕ) (ends ends' : List ℕ) : Type 0 where
  pub says : (es : List Expr) → length es ≡ n → LinesStand text index part first from es → LinesTold text index part first from es m ends' × FrontKept text first ends ends'

-- ---- the updates, of which the first m were walked over
-- what the first m of some expressions read, in a table with a word for each node that a file may have
pub record LinesRead (es : List Expr) (m : ℕ) (sets : List ℕ) : Type 0 where
  pub each : (k : ℕ) {e : Expr} → k < m → k < nodes_most → look es k ≡ some e → Gathers (readings e) (get_or sets k 0)

-- the lines before those of the nodes
abbrev pub lines_before : Counts → ℕ
lines_before c = c.types + c.functions + c.inputs

pub record WalksUpdates (text index : List ℕ) (c : Counts) (m : ℕ) (ends ends' sets : List ℕ) : Type 0 where
  pub tells : TellsLines text index Update (lines_before c) c.inputs c.nodes m ends ends'
  pub reads : (es : List Expr) → length es ≡ c.nodes → LinesStand text index Update (lines_before c) c.inputs es → LinesRead es m sets

-- ---- a whole file
pub record TellsUpdates (text index ends : List ℕ) : Type 0 where
  pub says : (P : File) → Indexed text index P → UpdatesTold text index ends P

pub record TellsInitials (text index ends : List ℕ) : Type 0 where
  pub says : (P : File) → Indexed text index P → InitialsTold text index ends P

-- a word for each node: the channels that its update reads by `13`
pub record TellsReadings (text index sets : List ℕ) : Type 0 where
  pub says : (P : File) → Indexed text index P → (i : ℕ) → i < length P.nodes → Gathers (readings (node_at_of P i).update) (get_or sets i 0)
