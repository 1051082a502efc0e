-- What the reader has when so many frames are read: a file so far, in the index; and what reading one frame more promises.
use Rattle.std.specs.Prelude.{Ok, Err}
use Rattle.language.specs.declared.refusals.Refusal.{Refusal}
use Rattle.language.specs.RefusalNumbers.{number_of}
use Rattle.std.specs.Prelude.{ℕ, ◌+◌, ◌≤◌, ◌<◌, List, [], ◌∷◌, ◌++◌, ◌≡◌, length}
use Rattle.language.specs.Limits.{text_most, types_most, functions_most, inputs_most, nodes_most, parameters_most}
use Rattle.language.specs.Result.{Result, ok, no}
use Rattle.language.specs.Syntax.{Function, Input, Node, File}
use Rattle.language.specs.Within.{All}
use Rattle.language.specs.Parser.{got}
use Rattle.language.specs.Reader.{function, input, node, type_kind, read_kind, read_frame}
use Rattle.text.specs.Bytes.{Step, bytes_of, bytes_from, forget, Passes}
use Rattle.index.specs.Lined.{functions_in, inputs_in, nodes_in}
use Rattle.index.specs.Tables.{type_table, function_table, channel_table}
use Rattle.index.specs.Sections.{types_from, functions_from, channels_from, type_table_words, function_table_words, channel_table_words, frames_of, types_of, functions_of, channels_of}
use Rattle.index.specs.SectionLaws.{Outside}
use Rattle.index.specs.Indexed.{Counted}
use Rattle.index.specs.TypeTable.{FewParts}
use Rattle.index.specs.declared.Counts.{Counts}
use Rattle.reader.specs.Frames.{Frame, kind_end}

-- how many frames there are
abbrev pub total : Counts → ℕ
total n = n.types + n.functions + n.inputs + n.nodes

-- the file so far, whose frames have these lines, its counts, and its sections of the index
pub record Held (lines : ℕ → List ℕ) (index : List ℕ) (n : Counts) (P : File) : Type 0 where
  pub types_are : types_of index ≡ type_table P.types
  pub functions_are : functions_of index ≡ function_table (functions_in lines P)
  pub channels_are : channels_of index ≡ channel_table (inputs_in lines P) (nodes_in lines P)
  pub counted : Counted n P
  pub few_types : length P.types ≤ types_most
  pub few_functions : length P.functions ≤ functions_most
  pub few_inputs : length P.inputs ≤ inputs_most
  pub few_nodes : length P.nodes ≤ nodes_most
  pub parts : All FewParts P.types
  pub parameters : All (λ (F : Function). length F.parameters ≤ parameters_most) P.functions

-- no frame of a later kind than a type
pub record NoLater (P : File) : Type 0 where
  pub functions : P.functions ≡ []
  pub inputs : P.inputs ≡ []
  pub nodes : P.nodes ≡ []

-- not too many frames of any kind
pub record Few (n : Counts) : Type 0 where
  pub types : n.types ≤ types_most
  pub functions : n.functions ≤ functions_most
  pub inputs : n.inputs ≤ inputs_most
  pub nodes : n.nodes ≤ nodes_most

-- a line of a text that is not too long, and not too many frames before it
pub record Fits (line : List ℕ) (n : Counts) : Type 0 where
  pub short : length line ≤ text_most
  pub few : Few n

-- the word of a place that a text can have
pub record PlaceWord (at word : ℕ) : Type 0 where
  pub says : at ≤ text_most → word ≡ at

-- what stands behind the kind of a function's frame, of an input's, of a node's: the parser's answer, and its entry in the index
pub record ReadsFunction (line index : List ℕ) (n : Counts) (r : Step) (index' : List ℕ) : Type 0 where
  pub says : (lines : ℕ → List ℕ) (P : File) → Held lines index n P → n.functions < functions_most → Passes line (kind_end line) r (forget (function P (bytes_from line (kind_end line))))
  pub enters : (lines : ℕ → List ℕ) (P : File) → Held lines index n P → n.functions < functions_most → (F : Function) (rest : List ℕ) →
      function P (bytes_from line (kind_end line)) ≡ got F rest → (functions_of index' ≡ function_table (functions_in lines P ++ (record { line = line; part = F } ∷ []))) × (length F.parameters ≤ parameters_most)
  pub outside : Outside functions_from function_table_words index index'

pub record ReadsInput (line index : List ℕ) (n : Counts) (r : Step) (index' : List ℕ) : Type 0 where
  pub says : (lines : ℕ → List ℕ) (P : File) → Held lines index n P → P.nodes ≡ [] → n.inputs < inputs_most → Passes line (kind_end line) r (forget (input P (bytes_from line (kind_end line))))
  pub enters : (lines : ℕ → List ℕ) (P : File) → Held lines index n P → P.nodes ≡ [] → n.inputs < inputs_most → (i : Input) (rest : List ℕ) →
      input P (bytes_from line (kind_end line)) ≡ got i rest → channels_of index' ≡ channel_table (inputs_in lines P ++ (record { line = line; part = i } ∷ [])) []
  pub outside : Outside channels_from channel_table_words index index'

pub record ReadsNode (line index : List ℕ) (n : Counts) (all : ℕ) (r : Step) (index' : List ℕ) : Type 0 where
  pub says : (lines : ℕ → List ℕ) (P : File) → Held lines index n P → n.nodes < nodes_most → Passes line (kind_end line) r (forget (node all P (bytes_from line (kind_end line))))
  pub enters : (lines : ℕ → List ℕ) (P : File) → Held lines index n P → n.nodes < nodes_most → (m : Node) (rest : List ℕ) →
      node all P (bytes_from line (kind_end line)) ≡ got m rest → channels_of index' ≡ channel_table (inputs_in lines P) (nodes_in lines P ++ (record { line = line; part = m } ∷ []))
  pub outside : Outside channels_from channel_table_words index index'

-- a frame: the file with it, in the index, or the refusal (its sections of the index are then free)
pub data FrameRead (lines : ℕ → List ℕ) (r : Frame) (index : List ℕ) : Result File → Type 0 where
  taken : {n : Counts} {Q : File} → r ≡ Ok n → Held lines index n Q → FrameRead lines r index (ok Q)
  refused : {m : Refusal} {frame : ℕ} → r ≡ Err m → FrameRead lines r index (no (number_of m) frame)

pub record ReadsFrame (line index : List ℕ) (n : Counts) (all : ℕ) (r : Frame) (index' : List ℕ) : Type 0 where
  pub says : (lines : ℕ → List ℕ) (P : File) → Held lines index n P → line ≡ lines (total n) → (frame : ℕ) → FrameRead lines r index' (read_frame all frame P (bytes_of line))
  pub frames : frames_of index' ≡ frames_of index

-- a type's frame behind its kind
pub record TypeTaken (line index : List ℕ) (n : Counts) (r : Frame) (index' : List ℕ) : Type 0 where
  pub says : (lines : ℕ → List ℕ) (P : File) → Held lines index n P → NoLater P → (frame : ℕ) → n.types < types_most → FrameRead lines r index' (read_kind 0 frame P (bytes_from line (kind_end line)) type_kind)
  pub outside : Outside types_from type_table_words index index'
