-- The lines of a text that was read spell the frames of its file, each line the frame of its number.
use Rattle.std.specs.Prelude.{ℕ, suc, ◌+◌, List, [], ◌++◌, map, ◌≡◌, length}
use Rattle.std.proofs.Math.Option.{some}
use Rattle.std.proofs.Common.{◌∙◌, arith}
use Rattle.std.proofs.Math.ListN.{length-map, get_elem? as look}
use Rattle.language.specs.Result.{ok}
use Rattle.language.specs.Syntax.{TypeDef, Function, Input, Node, File, function_frame, channel_frame}
use Rattle.language.specs.Format.{file_frames}
use Rattle.language.specs.Text.{text_frames}
use Rattle.language.specs.Reader.{read_file}
use Rattle.text.specs.Bytes.{bytes_of}
use Rattle.text_lines.specs.LineBytes.{frame-bytes-read}
use Rattle.theory.specs.Lists.{look-get_d, look-less, look-append, look-past, look-map}
use Rattle.theory.specs.FileFrames.{frame_of_type, frame_of_function, frame_of_input, frame_of_node}
use Rattle.theory.specs.ReaderExact.{reader-forth}
use Rattle.encoding.specs.FrameLines.{line_at, line-spelled}
use Rattle.encoding.specs.FrameParts.{TypeSpelled, type-parts, FunctionSpelled, function-parts, InputSpelled, input-parts, NodeSpelled, node-parts}

-- ---- the frames of a file, by their numbers
look-behind : {A : Type 0} (l m : List A) (k : ℕ) {i : ℕ} {a : A} → i ≡ length l + k → look m k ≡ some a → look (l ++ m) i ≡ some a
look-behind l m k q e = rw q (look-past l m k ∙ e)

module _ (P : File) where
  abbrev type_frames : List (List ℕ)
  type_frames = map frame_of_type P.types

  abbrev function_frames : List (List ℕ)
  function_frames = map frame_of_function P.functions

  abbrev input_frames : List (List ℕ)
  input_frames = map frame_of_input P.inputs

  abbrev node_frames : List (List ℕ)
  node_frames = map frame_of_node P.nodes

  type-frame : (i : ℕ) {d : TypeDef} → look P.types i ≡ some d → look (file_frames P) i ≡ some (frame_of_type d)
  unfolding file_frames
  type-frame i e = look-append type_frames (function_frames ++ (input_frames ++ node_frames)) i (look-map frame_of_type P.types i e)

  behind-types : (k i : ℕ) {g : List ℕ} → i ≡ length P.types + k → look (function_frames ++ (input_frames ++ node_frames)) k ≡ some g → look (file_frames P) i ≡ some g
  unfolding file_frames
  behind-types k i q e = look-behind type_frames (function_frames ++ (input_frames ++ node_frames)) k (omega (arith, length-map P.types frame_of_type)) e

  behind-functions : (c i : ℕ) {g : List ℕ} → suc i ≡ channel_frame P c → look (input_frames ++ node_frames) c ≡ some g → look (file_frames P) i ≡ some g
  behind-functions c i q e = behind-types (length P.functions + c) i (omega arith) (look-behind function_frames (input_frames ++ node_frames) c (omega (arith, length-map P.functions frame_of_function)) e)

  function-frame : (f i : ℕ) {F : Function} → suc i ≡ function_frame P f → look P.functions f ≡ some F → look (file_frames P) i ≡ some (frame_of_function F)
  function-frame f i q e = behind-types f i (omega arith) (look-append function_frames (input_frames ++ node_frames) f (look-map frame_of_function P.functions f e))

  input-frame : (c i : ℕ) {I : Input} → suc i ≡ channel_frame P c → look P.inputs c ≡ some I → look (file_frames P) i ≡ some (frame_of_input I)
  input-frame c i q e = behind-functions c i q (look-append input_frames node_frames c (look-map frame_of_input P.inputs c e))

  node-frame : (n i : ℕ) {N : Node} → suc i ≡ channel_frame P (length P.inputs + n) → look P.nodes n ≡ some N → look (file_frames P) i ≡ some (frame_of_node N)
  node-frame n i q e =
      behind-functions (length P.inputs + n) i q (look-behind input_frames node_frames n (omega (arith, length-map P.inputs frame_of_input)) (look-map frame_of_node P.nodes n e))

-- ---- the lines of a text that was read; line i is that of frame i + 1
module _ (t : List ℕ) {P : File} (read : read_file t ≡ ok P) where
  pub frames-are-file : text_frames t ≡ ok (file_frames P)
  frames-are-file = (reader-forth t P read).frames

  pub line-is-frame : (i : ℕ) {g : List ℕ} → look (file_frames P) i ≡ some g → bytes_of (line_at t i) ≡ g
  line-is-frame i e = frame-bytes-read (line_at t i) _ (line-spelled t (file_frames P) frames-are-file i (look-less (file_frames P) i e)) ∙ look-get_d (file_frames P) i [] e

  pub type-spelled : (i : ℕ) {d : TypeDef} → look P.types i ≡ some d → TypeSpelled (line_at t i) d
  type-spelled i e = type-parts (line-is-frame i (type-frame P i e))

  pub function-spelled : (f i : ℕ) {F : Function} → suc i ≡ function_frame P f → look P.functions f ≡ some F → FunctionSpelled (line_at t i) F
  function-spelled f i q e = function-parts (line-is-frame i (function-frame P f i q e))

  pub input-spelled : (c i : ℕ) {I : Input} → suc i ≡ channel_frame P c → look P.inputs c ≡ some I → InputSpelled (line_at t i) I
  input-spelled c i q e = input-parts (line-is-frame i (input-frame P c i q e))

  pub node-spelled : (n i : ℕ) {N : Node} → suc i ≡ channel_frame P (length P.inputs + n) → look P.nodes n ≡ some N → NodeSpelled (line_at t i) N
  node-spelled n i q e = node-parts (line-is-frame i (node-frame P n i q e))
