-- Readings of a file's nodes, the frame of the lowest that reads itself, and which nodes are done, as a set of channels.
use Rattle.std.specs.Prelude.{ℕ, ◌+◌, ◌^◌, ◌≤◌, ◌<◌, List, true, Option, Some, None, ◌≡◌, length, get_or}
use Rattle.language.specs.Limits.{channels_most}
use Rattle.language.specs.Syntax.{File, node_at_of, node_channel, channel_frame}
use Rattle.language.specs.Slide.{mem}
use Rattle.language.specs.Order.{readings, Acyclic, LowestSelfReader}
use Rattle.index.specs.Sections.{counts_in}
use Rattle.index.specs.Indexed.{Indexed}
use Rattle.channel_sets.specs.Sets.{word_bits, in_set, set_of}

-- the row has of each node the channels that its update reads by `13`
pub record Gathered (P : File) (row : List ℕ) : Type 0 where
  pub each : (i : ℕ) → i < length P.nodes → get_or row i 0 ≡ set_of (readings (node_at_of P i).update)

-- the index tells of no more channels than a file may have
pub record FewChannels (index : List ℕ) : Type 0 where
  pub few : (counts_in index).inputs + (counts_in index).nodes ≤ channels_most

-- the frame of the lowest node that reads itself, where one does
pub data OrderFrame (P : File) : Option ℕ → Type 0 where
  no-frame : Acyclic P → OrderFrame P None
  frame_of : {i frame : ℕ} → LowestSelfReader P i → frame ≡ channel_frame P (node_channel P i) → OrderFrame P (Some frame)

pub record JudgesOrder (index row : List ℕ) (r : Option ℕ) : Type 0 where
  pub says : {text : List ℕ} {P : File} → Indexed text index P → Gathered P row → OrderFrame P r

-- the set has the inputs and the nodes done
pub record DoneIs (inputs nodes : ℕ) (done : List ℕ) (set : ℕ) : Type 0 where
  pub small : set < 2 ^ word_bits
  pub at_input : (c : ℕ) → c < inputs → in_set set c ≡ true
  pub at_node : (j : ℕ) → j < nodes → in_set set (inputs + j) ≡ mem j done
