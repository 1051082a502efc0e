-- The index that the reader leaves for later passes: four tables of words, as functions of the text and its file. An entry has a fixed
-- number of words; what is not there is 0.
use Rattle.std.specs.Prelude.{ℕ, ◌+◌, ◌*◌, List, [], ◌∷◌, ◌++◌, map, length}
use Rattle.language.specs.Limits.{types_most, functions_most, inputs_most, nodes_most, channels_most, constructors_most, fields_most, parameters_most}
use Rattle.language.specs.Syntax.{Constructor, TypeDef, owns, Function, Input, Node}
use Rattle.language.specs.Format.{spell_all}
use Rattle.language.specs.Layout.{padded}
use Rattle.text.specs.Bytes.{plain_word, declared_word, field_word}
use Rattle.encoding.specs.FrameLines.{FrameLine, frame_lines_of}
use Rattle.encoding.specs.FrameParts.{result_place, conditions_place, measure_place, body_place, initial_place, update_place}
use Rattle.index.specs.Lined.{Lined}

-- ---- types: the number of constructors, and for each its fields, its own-type fields, and each field's word
abbrev pub constructor_words : ℕ
constructor_words = 2 + fields_most

abbrev pub type_words : ℕ
type_words = 1 + constructors_most * constructor_words

unfoldable pub constructor_entry : Constructor → List ℕ
constructor_entry fs = length fs ∷ owns fs ∷ padded fields_most (map field_word fs)

unfoldable pub type_entry : TypeDef → List ℕ
type_entry cs = length cs ∷ padded (constructors_most * constructor_words) (spell_all constructor_entry cs)

unfoldable pub type_table : List TypeDef → List ℕ
type_table ds = padded (types_most * type_words) (spell_all type_entry ds)

-- ---- functions: the parameters, and the places of result, conditions, measure and body in the line
abbrev pub function_words : ℕ
function_words = 1 + parameters_most + 4

unfoldable pub function_entry : Lined Function → List ℕ
function_entry x = (length x.part.parameters ∷ padded parameters_most (map plain_word x.part.parameters))
    ++ (result_place x.line x.part ∷ conditions_place x.line x.part ∷ measure_place x.line x.part ∷ body_place x.line x.part ∷ [])

unfoldable pub function_table : List (Lined Function) → List ℕ
function_table Fs = padded (functions_most * function_words) (spell_all function_entry Fs)

-- ---- channels: the declared type, and the places of initial value and update
abbrev pub channel_words : ℕ
channel_words = 3

unfoldable pub input_entry : Lined Input → List ℕ
input_entry x = declared_word x.part.declared ∷ initial_place x.line x.part.declared ∷ 0 ∷ []

unfoldable pub node_entry : Lined Node → List ℕ
node_entry x = declared_word x.part.declared ∷ initial_place x.line x.part.declared ∷ update_place x.line x.part ∷ []

unfoldable pub channel_table : List (Lined Input) → List (Lined Node) → List ℕ
channel_table is ns = padded (channels_most * channel_words) (spell_all input_entry is ++ spell_all node_entry ns)

-- ---- frames: where each one's line starts in the text, and how many characters it has
abbrev pub frame_words : ℕ
frame_words = 2

abbrev pub frames_most : ℕ
frames_most = types_most + functions_most + inputs_most + nodes_most

unfoldable pub frame_entry : FrameLine → List ℕ
frame_entry f = f.start ∷ length f.line ∷ []

unfoldable pub frame_table : List ℕ → List ℕ
frame_table t = padded (frames_most * frame_words) (spell_all frame_entry (frame_lines_of t))
