-- The reader: from the text to the file, or refusal 1 to 8 with its frame (document 01, "The rule file" and "By place";
-- document 02, R-1).
-- "Text is judged as a whole, then frames in file order, bytes left to right; 8 comes at the frame's end."
use Rattle.std.specs.Prelude.{ℕ, suc, ◌+◌, List, [], ◌∷◌, ◌++◌, Bool, false, length, ltb, leb, eqb}
use Rattle.language.specs.Limits.{text_most, types_most, functions_most, inputs_most, nodes_most, constructors_most, fields_most, parameters_most, conditions_most, measures_most}
use Rattle.language.specs.Refusals.{no_frame, text_too_long, bad_frame, bad_length, no_base_constructor}
use Rattle.language.specs.Codes.{kind_input, kind_node, kind_first, relation_first}
use Rattle.language.specs.Syntax.{TypeDef, Relation, req, rlt, rle, Condition, Function, Input, Node, File, self_free}
use Rattle.language.specs.Result.{Result, ok, no, bind, need, from, both, one_of, choose}
use Rattle.language.specs.Text.{is_empty, text_frames}
use Rattle.language.specs.Parser.{Read, got, bad, Parser, ◌>>=◌, return, index, code, counted, decode}
use Rattle.language.specs.Scope.{named_count, body_scope, outer_scope}
use Rattle.language.specs.ReadExpr.{field, plain, declared, size, result, expr}

-- ---- frames; known is what the frames before have given
unfoldable pub type_def : File → Parser TypeDef
type_def known = counted 1 constructors_most (counted 0 fields_most (field (length known.types)))

abbrev pub relations : List Relation
relations = req ∷ rlt ∷ rle ∷ []

unfoldable pub condition : ℕ → Parser Condition
condition vars = do
  r ← code relation_first relations
  a ← size vars
  b ← size vars
  return (record { rel = r; left = a; right = b })

unfoldable pub function : File → Parser Function
function known = do
  ps ← counted 0 parameters_most (plain (length known.types))
  r ← result (length known.types) (named_count ps)
  cs ← counted 0 conditions_most (condition (named_count ps))
  m ← counted 0 measures_most (index (named_count ps))
  e ← expr (body_scope known.types known.functions ps)
  return (record { parameters = ps; result = r; conditions = cs; measure = m; body = e })

-- "An initial value names no channel."
unfoldable pub input : File → Parser Input
input known = do
  τ ← declared (length known.types)
  e ← expr (outer_scope known.types known.functions 0)
  return (record { declared = τ; initial = e })

unfoldable pub node : ℕ → File → Parser Node
node channels known = do
  τ ← declared (length known.types)
  e ← expr (outer_scope known.types known.functions 0)
  u ← expr (outer_scope known.types known.functions channels)
  return (record { declared = τ; initial = e; update = u })

-- "bytes end early or go on": 4
unfoldable pub whole : {A : Type 0} → ℕ → Read A → Result A
whole frame (got a []) = ok a
whole frame (got a (b ∷ bs)) = no bad_length frame
whole frame (bad n) = no n frame

pub data Kind : Type 0 where
  type_kind function_kind input_kind node_kind : Kind

abbrev pub kinds : List Kind
kinds = type_kind ∷ function_kind ∷ input_kind ∷ node_kind ∷ []

-- a frame is in order while none of a later kind has been read, and not one too many
unfoldable pub in_order_of : Kind → File → Bool
in_order_of type_kind f = both (both (is_empty f.functions) (both (is_empty f.inputs) (is_empty f.nodes))) (ltb (length f.types) types_most)
in_order_of function_kind f = both (both (is_empty f.inputs) (is_empty f.nodes)) (ltb (length f.functions) functions_most)
in_order_of input_kind f = both (is_empty f.nodes) (ltb (length f.inputs) inputs_most)
in_order_of node_kind f = ltb (length f.nodes) nodes_most

unfoldable pub with_type : File → TypeDef → File
with_type f d = record { types = f.types ++ (d ∷ []); functions = f.functions; inputs = f.inputs; nodes = f.nodes }

unfoldable pub with_function : File → Function → File
with_function f F = record { types = f.types; functions = f.functions ++ (F ∷ []); inputs = f.inputs; nodes = f.nodes }

unfoldable pub with_input : File → Input → File
with_input f i = record { types = f.types; functions = f.functions; inputs = f.inputs ++ (i ∷ []); nodes = f.nodes }

unfoldable pub with_node : File → Node → File
with_node f n = record { types = f.types; functions = f.functions; inputs = f.inputs; nodes = f.nodes ++ (n ∷ []) }

-- what stands behind the kind of a frame; "8 comes at the frame's end"
unfoldable pub read_kind : ℕ → ℕ → File → List ℕ → Kind → Result File
read_kind channels frame f bs type_kind = bind (whole frame (type_def f bs)) (λ d. need (self_free d) no_base_constructor frame (ok (with_type f d)))
read_kind channels frame f bs function_kind = bind (whole frame (function f bs)) (λ F. ok (with_function f F))
read_kind channels frame f bs input_kind = bind (whole frame (input f bs)) (λ i. ok (with_input f i))
read_kind channels frame f bs node_kind = bind (whole frame (node channels f bs)) (λ n. ok (with_node f n))

-- "kind unknown, out of order or one too many": 3
unfoldable pub read_frame : ℕ → ℕ → File → List ℕ → Result File
read_frame channels frame f [] = no bad_length frame
read_frame channels frame f (k ∷ bs) = from (decode kind_first kinds k) bad_frame frame (λ kind. need (in_order_of kind f) bad_frame frame (read_kind channels frame f bs kind))

-- frames in file order; "no node (frame: one after the last)"
unfoldable pub read_frames : ℕ → ℕ → File → List (List ℕ) → Result File
read_frames channels frame f [] = choose (is_empty f.nodes) (no bad_frame frame) (ok f)
read_frames channels frame f (l ∷ ls) = bind (read_frame channels frame f l) (λ g. read_frames channels (suc frame) g ls)

-- ---- text
-- channels are counted over the "frames that begin with 03 or 04"
unfoldable pub is_channel : List ℕ → Bool
is_channel [] = false
is_channel (k ∷ bs) = one_of (eqb k kind_input) (eqb k kind_node)

unfoldable pub channel_count : List (List ℕ) → ℕ
channel_count [] = 0
channel_count (l ∷ ls) = choose (is_channel l) 1 0 + channel_count ls

abbrev pub empty_file : File
empty_file = record { types = []; functions = []; inputs = []; nodes = [] }

-- "the 16,384 characters count everything"
unfoldable pub read_file : List ℕ → Result File
read_file t = need (leb (length t) text_most) text_too_long no_frame (bind (text_frames t) (λ fs. read_frames (channel_count fs) 1 empty_file fs))
