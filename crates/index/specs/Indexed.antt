-- What later passes use of a text that was read: its file, the line of each frame, and what the tables say of each type, function
-- and channel. Indexed is a notion of the proofs; document 01 has no word for it.
use Rattle.std.specs.Prelude.{ℕ, ◌+◌, ◌*◌, ◌≤◌, ◌<◌, List, [], map, ◌≡◌, length, get_or, take, drop}
use Rattle.std.proofs.Math.Option.{some}
use Rattle.std.proofs.Math.ListN.{get_elem? as look}
use Rattle.language.specs.Limits.{text_most}
use Rattle.language.specs.Result.{ok}
use Rattle.language.specs.Syntax.{TypeDef, constructors_of, Ty, Expr, Function, Input, Node, File}
use Rattle.language.specs.Format.{spell_all, result_bytes, condition_bytes, expr_bytes}
use Rattle.language.specs.Reader.{read_file}
use Rattle.language.specs.Within.{Within}
use Rattle.text.specs.Bytes.{field_word, declared_word}
use Rattle.text.specs.Places.{past, byte_at}
use Rattle.index.specs.Tables.{frame_words, constructor_words, type_words, function_words, channel_words}
use Rattle.index.specs.Enters.{TellsType, TellsParameters}
use Rattle.index.specs.FunctionTable.{head_words}
use Rattle.encoding.specs.Spells.{Spells, themselves}
use Rattle.encoding.specs.FrameParts.{TypeSpelled}
use Rattle.encoding.specs.FrameLines.{line_start, line_at}
use Rattle.index.specs.declared.Counts.{Counts}
use Rattle.index.specs.Sections.{counts_in, frames_of, types_of, functions_of, channels_of}

-- ---- the words of an entry, by name
-- of frame i: where it starts in the text, how long it is, and that part of the text
abbrev pub frame_place : List ℕ → ℕ → ℕ
frame_place frames i = get_or frames (frame_words * i) 0

abbrev pub frame_length : List ℕ → ℕ → ℕ
frame_length frames i = get_or frames (frame_words * i + 1) 0

unfoldable pub frame_part : List ℕ → List ℕ → ℕ → List ℕ
frame_part text frames i = take (frame_length frames i) (drop (frame_place frames i) text)

-- of type t: the word of field j of constructor c
abbrev pub field_at : List ℕ → ℕ → ℕ → ℕ → ℕ
field_at types t c j = get_or types (type_words * t + 3 + constructor_words * c + j) 0

-- of function f: where its parts start in its line
abbrev pub result_at : List ℕ → ℕ → ℕ
result_at functions f = get_or functions (function_words * f + head_words) 0

abbrev pub conditions_at : List ℕ → ℕ → ℕ
conditions_at functions f = get_or functions (function_words * f + head_words + 1) 0

abbrev pub measure_at : List ℕ → ℕ → ℕ
measure_at functions f = get_or functions (function_words * f + head_words + 2) 0

abbrev pub body_at : List ℕ → ℕ → ℕ
body_at functions f = get_or functions (function_words * f + head_words + 3) 0

-- of channel c: its declared type, and where initial value and update start in its line
abbrev pub declared_at : List ℕ → ℕ → ℕ
declared_at channels c = get_or channels (channel_words * c) 0

abbrev pub initial_at : List ℕ → ℕ → ℕ
initial_at channels c = get_or channels (channel_words * c + 1) 0

abbrev pub update_at : List ℕ → ℕ → ℕ
update_at channels c = get_or channels (channel_words * c + 2) 0

-- ---- lines are counted from 0, a type's by its number: those of a function and of a channel, and how many there are
abbrev pub function_line : File → ℕ → ℕ
function_line P f = length P.types + f

abbrev pub channel_line : File → ℕ → ℕ
channel_line P c = length P.types + length P.functions + c

abbrev pub line_count : File → ℕ
line_count P = length P.types + length P.functions + length P.inputs + length P.nodes

-- ---- what is said of a frame, a type, a function, a channel, a node
pub record FrameIndexed (text frames : List ℕ) (i : ℕ) : Type 0 where
  pub starts : frame_place frames i ≡ line_start text i
  pub within : frame_place frames i + frame_length frames i ≤ length text
  pub line : frame_part text frames i ≡ line_at text i

pub record TypeIndexed (line types : List ℕ) (t : ℕ) (d : TypeDef) : Type 0 where
  pub tells : TellsType types t d
  pub fields : (c : ℕ) → c < length d → (j : ℕ) → j < length (get_or d c []) → field_at types t c j ≡ get_or (map field_word (get_or d c [])) j 0
  pub spelled : TypeSpelled line d

pub record FunctionIndexed (line functions : List ℕ) (f : ℕ) (F : Function) : Type 0 where
  pub tells : TellsParameters functions f F.parameters
  pub result : Spells result_bytes line (result_at functions f) F.result
  pub condition_count : byte_at line (conditions_at functions f) ≡ length F.conditions
  pub conditions : Spells (spell_all condition_bytes) line (past line (conditions_at functions f) 1) F.conditions
  pub measure_count : byte_at line (measure_at functions f) ≡ length F.measure
  pub measure : Spells themselves line (past line (measure_at functions f) 1) F.measure
  pub body : Spells expr_bytes line (body_at functions f) F.body

pub record ChannelIndexed (line channels : List ℕ) (c : ℕ) (τ : Ty) (e : Expr) : Type 0 where
  pub declared : declared_at channels c ≡ declared_word τ
  pub initial : Spells expr_bytes line (initial_at channels c) e

pub record NodeIndexed (line channels : List ℕ) (c : ℕ) (n : Node) : Type 0 where
  pub channel : ChannelIndexed line channels c n.declared n.initial
  pub update : Spells expr_bytes line (update_at channels c) n.update

-- the counts are the file's
pub record Counted (n : Counts) (P : File) : Type 0 where
  pub type_count : length P.types ≡ n.types
  pub function_count : length P.functions ≡ n.functions
  pub input_count : length P.inputs ≡ n.inputs
  pub node_count : length P.nodes ≡ n.nodes

-- ---- the text read, and its index
pub record Indexed (text index : List ℕ) (P : File) : Type 0 where
  pub read : read_file text ≡ ok P
  pub short : length text ≤ text_most
  pub within : Within P
  pub counted : Counted (counts_in index) P
  pub each_frame : (i : ℕ) → i < line_count P → FrameIndexed text (frames_of index) i
  pub each_type : (t : ℕ) → t < length P.types → TypeIndexed (line_at text t) (types_of index) t (constructors_of P t)
  pub each_function : (f : ℕ) {F : Function} → look P.functions f ≡ some F → FunctionIndexed (line_at text (function_line P f)) (functions_of index) f F
  pub each_input : (c : ℕ) {i : Input} → look P.inputs c ≡ some i → ChannelIndexed (line_at text (channel_line P c)) (channels_of index) c i.declared i.initial
  pub each_node : (m : ℕ) {n : Node} → look P.nodes m ≡ some n → NodeIndexed (line_at text (channel_line P (length P.inputs + m))) (channels_of index) (length P.inputs + m) n
