-- What updating the nodes promises: for every file that the index tells, on a heap that lies in the words, with the channels' cells in a
-- row as they stand, and in the words as they stood before the line.
use Rattle.std.specs.Prelude.{ℕ, ◌+◌, ◌%◌, ◌<◌, List, [], ◌≡◌, length, get_or, ltb, leb, Result as Outcome, Ok, Err}
use Rattle.std.proofs.Math.Option.{some}
use Rattle.std.proofs.Math.ListN.{get_elem? as look}
use Rattle.language.specs.Refusals.{value_too_large}
use Rattle.language.specs.Result.{Result, ok, no, choose}
use Rattle.language.specs.Syntax.{Node, File, channel_frame}
use Rattle.language.specs.Sizes.{size_of_type}
use Rattle.language.specs.Within.{All}
use Rattle.language.specs.Heap.{Cell, cell_at, size_in}
use Rattle.language.specs.Slide.{State}
use Rattle.language.specs.Order.{order}
use Rattle.language.specs.Layout.{tag_step}
use Rattle.language.specs.Evaluator.{Out, value, bind_out, needs, eval, run}
use Rattle.language.specs.Machine.{Board, update_nodes}
use Rattle.theory.specs.FrameNumbers.{channel_total}
use Rattle.theory.specs.CellWords.{Writable}
use Rattle.index.specs.Indexed.{Indexed}
use Rattle.state_words.specs.Words.{channel_at}
use Rattle.state_words.specs.Holds.{Holds}
use Rattle.ends.specs.Ended.{UpdatesTold}
use Rattle.new_cells.specs.Steps.{Evaluated, Numbered, Lies, Agrees, Kept}
use Rattle.evaluator.specs.ChannelValues.{board_lent}
use Rattle.node_order.specs.Files.{Gathered}
use Rattle.iteration.specs.declared.nodes.RefusalIn.{RefusalIn}

-- the size in the word of a declared type
unfoldable pub size_in_word : ℕ → ℕ
size_in_word word = choose (ltb word tag_step) 0 (word % tag_step)

-- how many cells are used once all nodes are updated, or a refusal and the channel where it was met
abbrev pub Updated : Type 0
Updated = Outcome ℕ RefusalIn

-- the file, the heap, and the channels' cells: as they stand, and as they stood
pub record NodeStage (text index ends row words : List ℕ) (used : ℕ) (P : File) (cells : ℕ) (last now : List ℕ) (h : List Cell) : Type 0 where
  pub indexed : Indexed text index P
  pub told : UpdatesTold text index ends P
  pub standing : (k : ℕ) → k < channel_total P → get_or row k 0 ≡ get_or now k 0
  pub before : (k : ℕ) → k < channel_total P → channel_at words k ≡ get_or last k 0
  pub lies : Lies P cells words used h

-- a node's value, 23 where it is above the declared size
unfoldable pub node_value : File → Board → List ℕ → List ℕ → Node → List Cell → Out
node_value P b last now n h = bind_out (eval P (run P b.cells b.calls) b.cells (record { now = now; last = last }) n.update [] b.slots h)
    (λ l g. needs (leb (size_in (cell_at g l)) (size_of_type n.declared)) value_too_large (value l g))

pub record UpdatesNode (text index ends row : List ℕ) (c used calls : ℕ) (words slots : List ℕ) (r : Evaluated) (words' slots' : List ℕ) : Type 0 where
  pub says : {P : File} {cells : ℕ} {last now : List ℕ} {h : List Cell} (m : ℕ) (n : Node) → NodeStage text index ends row words used P cells last now h → c ≡ length P.inputs + m → look P.nodes m ≡ some n →
      Agrees P words' r (node_value P (board_lent cells slots calls) last now n h)
  pub kept : Kept words words' used r
  pub long : length slots' ≡ length slots

-- ---- all nodes
-- the channels' cells are the first of the row
pub record RowIs (row roots : List ℕ) (n : ℕ) : Type 0 where
  pub each : (k : ℕ) → k < n → get_or row k 0 ≡ get_or roots k 0
  pub long : length roots ≡ n

pub data AgreesNodes (P : File) (words' row' : List ℕ) : Updated → Result State → Type 0 where
  are_updated : {s : State} {used : ℕ} → Holds words' used s.heap → All (Writable P) s.heap → RowIs row' s.roots (channel_total P) → AgreesNodes P words' row' (Ok used) (ok s)
  not_updated : {e : RefusalIn} {m : ℕ} → Numbered e.refusal m → AgreesNodes P words' row' (Err e) (no m (channel_frame P e.channel))

abbrev pub as_value : Updated → Evaluated
as_value (Ok used) = Ok (record { cell = 0; used = used })
as_value (Err e) = Err e.refusal

pub record UpdatesNodes (text index ends readings : List ℕ) (used calls : ℕ) (row words slots : List ℕ) (r : Updated) (row' words' slots' : List ℕ) : Type 0 where
  pub says : {P : File} {cells : ℕ} {last now : List ℕ} {h : List Cell} → NodeStage text index ends row words used P cells last now h → Gathered P readings → length now ≡ channel_total P →
      AgreesNodes P words' row' r (update_nodes P (board_lent cells slots calls) last (order P) h now)
  pub kept : Kept words words' used (as_value r)
  pub long : length slots' ≡ length slots
