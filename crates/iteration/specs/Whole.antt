-- What a whole iteration promises: on a valid state and an allowed line of a file of right plain types, the definition's result; on any
-- words it keeps their number.
use Rattle.std.specs.Prelude.{ℕ, ◌≤◌, ◌<◌, List, [], ◌++◌, ◌≡◌, length, get_or, drop, replicate, Ok, Err}
use Rattle.std.proofs.Math.Option.{some}
use Rattle.std.proofs.lemmas.List.Edits.{sets}
use Rattle.language.specs.Limits.{channels_most, cells_most}
use Rattle.language.specs.RefusalNumbers.{number_of}
use Rattle.language.specs.Result.{Result, ok, no, bind}
use Rattle.language.specs.Syntax.{File, channel_frame}
use Rattle.language.specs.Heap.{Tree}
use Rattle.language.specs.Slide.{State}
use Rattle.language.specs.Order.{order}
use Rattle.language.specs.Layout.{state_length, load_state}
use Rattle.language.specs.Line.{line_trees}
use Rattle.language.specs.PlainTyping.{WellPlain}
use Rattle.language.specs.Machine.{written, put_inputs, update_nodes, iterate_state}
use Rattle.index.specs.Indexed.{Indexed}
use Rattle.state_words.specs.Words.{used_in, channel_at, row_of}
use Rattle.new_cells.specs.Steps.{Kept}
use Rattle.ends.specs.Ended.{UpdatesTold}
use Rattle.evaluator.specs.ChannelValues.{board_lent}
use Rattle.node_order.specs.Files.{FewChannels, Gathered}
use Rattle.iteration.specs.declared.nodes.RefusalIn.{RefusalIn}
use Rattle.iteration.specs.Promises.{Updated, AgreesNodes, as_value}

-- ---- what may be rested on: a board's words, with so many cells used, and few channels
pub record Begun (index words : List ℕ) (cells : ℕ) : Type 0 where
  pub board : length words ≡ state_length cells
  pub most : cells ≤ cells_most
  pub used : used_in words ≤ cells
  pub few : FewChannels index

-- ---- the channels' cells
pub record ChannelsTaken (words row' : List ℕ) : Type 0 where
  pub each : (k : ℕ) → k < channels_most → get_or row' k 0 ≡ channel_at words k

pub record ChannelsPut (row : List ℕ) (n : ℕ) (words words' : List ℕ) : Type 0 where
  pub is : words' ≡ sets words 1 (row_of (λ k. get_or row k 0) n)

-- ---- a valid state and an allowed line of a file that the index tells, the ends of its expressions and the readings of its nodes
pub record Given (text index ends readings line : List ℕ) (cells : ℕ) (words : List ℕ) (P : File) (s : State) (vs : List Tree) : Type 0 where
  pub indexed : Indexed text index P
  pub told : UpdatesTold text index ends P
  pub gathered : Gathered P readings
  pub plain : WellPlain P
  pub loaded : load_state P cells words ≡ some s
  pub allowed : line_trees P line ≡ some vs

pub record FeedsAndUpdates (text index ends readings line : List ℕ) (cells calls : ℕ) (row words slots : List ℕ) (r : Updated) (row' words' slots' : List ℕ) : Type 0 where
  pub says : {P : File} {s : State} {vs : List Tree} → Given text index ends readings line cells words P s vs → ChannelsTaken words row →
      AgreesNodes P words' row' r (bind (put_inputs P cells 0 vs s.heap []) (λ q. update_nodes P (board_lent cells slots calls) s.roots (order P) q.heap (q.roots ++ drop (length P.inputs) s.roots)))
  pub kept : Kept words words' (used_in words) (as_value r)
  pub long : length slots' ≡ length slots

pub data AgreesIteration (P : File) (cells : ℕ) (words words' : List ℕ) : Updated → Result State → Type 0 where
  is_done : {after : State} {used : ℕ} → words' ≡ written cells after words → AgreesIteration P cells words words' (Ok used) (ok after)
  is_refused : {e : RefusalIn} → words' ≡ words → AgreesIteration P cells words words' (Err e) (no (number_of e.refusal) (channel_frame P e.channel))

pub record IteratesState (text index ends readings line : List ℕ) (cells calls : ℕ) (words scratch slots : List ℕ) (r : Updated) (words' scratch' slots' : List ℕ) : Type 0 where
  pub says : {P : File} {s : State} {vs : List Tree} → Given text index ends readings line cells words P s vs → scratch ≡ replicate (length scratch) 0 → AgreesIteration P cells words words' r (iterate_state P (board_lent cells slots calls) s vs)
  pub clean : scratch ≡ replicate (length scratch) 0 → scratch' ≡ scratch
  pub long : length slots' ≡ length slots
