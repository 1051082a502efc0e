-- A text that was read is indexed: what the reader promises of its index gives all that Indexed says.
use Prim.Native.Nat.{ℕ, ◌+◌, ◌*◌, ◌%◌, ◌≤◌, ◌<◌}
use Rattle.std.specs.Prelude.{Ok, Err}
use Rattle.language.specs.declared.refusals.RefusalAt.{RefusalAt}
use Rattle.language.specs.RefusalNumbers.{number_of}
use Rattle.std.specs.Prelude.{List, [], ◌++◌, map, ◌≡◌, refl, drop}
use Rattle.std.proofs.Math.Option.{some}
use Rattle.std.proofs.Common.{sym, ◌∙◌, add-zero, length-append}
use Rattle.std.proofs.Math.Path.{ap, ap₂}
use native.Mathlib.Omega.{arith}
use Rattle.std.proofs.Math.ListN.{length, get_or, take, get_elem? as look}
use Rattle.std.proofs.lemmas.List.{length-map}
use Rattle.language.specs.Limits.{byte_range, channels_most}
use Rattle.language.specs.Format.{file_frames}
use Rattle.theory.specs.FileFrames.{frame_of_type, frame_of_function, frame_of_input, frame_of_node}
use Rattle.language.specs.Result.{Result, ok, no}
use Rattle.language.specs.Syntax.{Function, Input, Node, File, constructors_of}
use Rattle.language.specs.Reader.{read_file}
use Rattle.language.specs.Within.{Within}
use Rattle.theory.specs.Places.{look_at}
use Rattle.theory.specs.ReaderExact.{reader-forth}
use Rattle.index.specs.Lined.{Lined, lined-length, lined-look, functions_in, inputs_in, nodes_in}
use Rattle.index.specs.Tables.{type_table, function_words, function_table, channel_words, input_entry, node_entry, channel_table, frame_table}
use Rattle.index.specs.FrameTable.{frame_at}
use Rattle.index.specs.Sections.{the_counts_of, counts_in}
use Rattle.index.specs.Whole.{counts_entry, FileSections, whole-sections}
use Rattle.index.specs.TypeTable.{FewParts, each-within-few, tells-type}
use Rattle.index.specs.FunctionTable.{head_words}
use Rattle.encoding.specs.FrameParts.{result_place, conditions_place, measure_place, body_place, initial_place, update_place, FunctionSpelled, InputSpelled, NodeSpelled}
use Rattle.encoding.specs.FrameLines.{frame_lines_of, line_start, line_at, line-part, line-within, frames-counted}
use Rattle.encoding.specs.FrameSpells.{frames-are-file, type-spelled, function-spelled, input-spelled, node-spelled}
use Rattle.reader.specs.Texts.{Reading, TextRead, done, fault}
use Rattle.index.specs.Indexed.{frame_place, frame_length, frame_part, line_count, FrameIndexed, result_at, conditions_at, measure_at, body_at, initial_at, update_at, function_line, channel_line, TypeIndexed, FunctionIndexed, ChannelIndexed, NodeIndexed, Counted, Indexed}
use Rattle.encoding.specs.WithinParts.{function-within}
use Rattle.index.specs.TableWords.{tells-field, parameters-told, place-told, input-told, node-told}

-- as many frames as lines
pub file-frames : (P : File) → length (file_frames P) ≡ line_count P
unfolding file_frames
file-frames P =
    let nodes : List (List ℕ) = map frame_of_node P.nodes in
    let channels : List (List ℕ) = map frame_of_input P.inputs ++ nodes in
    omega (
      arith,
      length-append (map frame_of_type P.types) (map frame_of_function P.functions ++ channels),
      length-append (map frame_of_function P.functions) channels,
      length-append (map frame_of_input P.inputs) nodes,
      length-map P.types frame_of_type,
      length-map P.functions frame_of_function,
      length-map P.inputs frame_of_input,
      length-map P.nodes frame_of_node,
    )

-- ---- a text that was read, and the sections of its file
module _ (text : List ℕ) {P : File} (read : read_file text ≡ ok P) where
  in-limits : Within P
  in-limits = (reader-forth text P read).within

  type-indexed : {types : List ℕ} → types ≡ type_table P.types → (t : ℕ) → t < length P.types → TypeIndexed (line_at text t) types t (constructors_of P t)
  type-indexed table t there =
      let w = in-limits in
      let few : FewParts (constructors_of P t) = each-within-few w.types t there in
      record {
        tells = tells-type P.types t table w.few_types there few;
        fields = tells-field P.types t table w.few_types there few;
        spelled = type-spelled text read t (look_at P.types t [] there);
      }

  function-indexed : {functions : List ℕ} → functions ≡ function_table (functions_in (line_at text) P) → (f : ℕ) {F : Function} → look P.functions f ≡ some F → FunctionIndexed (line_at text (function_line P f)) functions f F
  function-indexed {functions} table f {F} there =
      let w = in-limits in
      let s : FunctionSpelled (line_at text (function_line P f)) F = function-spelled text read f (function_line P f) (omega arith) there in
      let line = line_at text (function_line P f) in
      let long = lined-length (line_at text) (length P.types) P.functions in
      let lined-there = lined-look (line_at text) (length P.types) P.functions f there in
      let word = place-told (functions_in (line_at text) P) table (omega (arith, w.few_functions, long)) f lined-there in
      let result : result_at functions f ≡ result_place line F = ap (λ i. get_or functions i 0) (sym (add-zero (function_words * f + head_words))) ∙ word 0 (omega arith) in
      let conditions : conditions_at functions f ≡ conditions_place line F = word 1 (omega arith) in
      let measure : measure_at functions f ≡ measure_place line F = word 2 (omega arith) in
      let body : body_at functions f ≡ body_place line F = word 3 (omega arith) in
      record {
        tells = parameters-told (functions_in (line_at text) P) table (omega (arith, w.few_functions, long)) f lined-there (function-within w f there).few_parameters;
        result = rw result s.result;
        condition_count = rw conditions s.condition_count;
        conditions = rw conditions s.conditions;
        measure_count = rw measure s.measure_count;
        measure = rw measure s.measure;
        body = rw body s.body;
      }

  few-channels : Within P → length (inputs_in (line_at text) P) + length (nodes_in (line_at text) P) ≤ channels_most
  few-channels w =
      omega (
        arith,
        w.few_inputs,
        w.few_nodes,
        lined-length (line_at text) (length P.types + length P.functions) P.inputs,
        lined-length (line_at text) (length P.types + length P.functions + length P.inputs) P.nodes,
      )

  -- a node's words, inputs being counted first
  node-word : Within P → {channels : List ℕ} → channels ≡ channel_table (inputs_in (line_at text) P) (nodes_in (line_at text) P) → (m : ℕ) {n : Lined Node} → look (nodes_in (line_at text) P) m ≡ some n → (k : ℕ) → k < channel_words →
      get_or channels (channel_words * (length P.inputs + m) + k) 0 ≡ get_or (node_entry n) k 0
  node-word w {channels} table m there k less =
      ap (λ (i : ℕ). get_or channels (channel_words * (i + m) + k) 0) (sym (lined-length (line_at text) (length P.types + length P.functions) P.inputs))
      ∙ node-told (inputs_in (line_at text) P) (nodes_in (line_at text) P) table (few-channels w) m there k less

  input-indexed : {channels : List ℕ} → channels ≡ channel_table (inputs_in (line_at text) P) (nodes_in (line_at text) P) → (c : ℕ) {i : Input} → look P.inputs c ≡ some i → ChannelIndexed (line_at text (channel_line P c)) channels c i.declared i.initial
  unfolding input_entry
  input-indexed {channels} table c {i} there =
      let w = in-limits in
      let s : InputSpelled (line_at text (channel_line P c)) i = input-spelled text read c (channel_line P c) (omega arith) there in
      let word = input-told (inputs_in (line_at text) P) (nodes_in (line_at text) P) table (few-channels w) c (lined-look (line_at text) (length P.types + length P.functions) P.inputs c there) in
      let initial : initial_at channels c ≡ initial_place (line_at text (channel_line P c)) i.declared = word 1 (omega arith) in
      record { declared = ap (λ k. get_or channels k 0) (sym (add-zero (channel_words * c))) ∙ word 0 (omega arith); initial = rw initial s.initial }

  node-indexed : {channels : List ℕ} → channels ≡ channel_table (inputs_in (line_at text) P) (nodes_in (line_at text) P) → (m : ℕ) {n : Node} → look P.nodes m ≡ some n →
      NodeIndexed (line_at text (channel_line P (length P.inputs + m))) channels (length P.inputs + m) n
  unfolding node_entry
  node-indexed {channels} table m {n} there =
      let w = in-limits in
      let c : ℕ = length P.inputs + m in
      let s : NodeSpelled (line_at text (channel_line P c)) n = node-spelled text read m (channel_line P c) (omega arith) there in
      let line = line_at text (channel_line P c) in
      let first = length P.types + length P.functions + length P.inputs in
      let place : first + m ≡ channel_line P c = omega arith in
      let lined-there : look (nodes_in (line_at text) P) m ≡ some (record { line = line; part = n }) = lined-look (line_at text) first P.nodes m there ∙ ap (λ (k : ℕ). some (record { line = line_at text k; part = n })) place in
      let word = node-word w table m lined-there in
      let initial : initial_at channels c ≡ initial_place line n.declared = word 1 (omega arith) in
      let update : update_at channels c ≡ update_place line n = word 2 (omega arith) in
      record {
        channel = record { declared = ap (λ k. get_or channels k 0) (sym (add-zero (channel_words * c))) ∙ word 0 (omega arith); initial = rw initial s.initial };
        update = rw update s.update;
      }

  frame-indexed : {frames : List ℕ} → frames ≡ frame_table text → (i : ℕ) → i < line_count P → FrameIndexed text frames i
  unfolding frame_part
  frame-indexed {frames} table i less = record {
    starts = place;
    within = omega (arith, place, long, line-within text i there);
    line = ap₂ (λ (n p : ℕ). take n (drop p text)) long place ∙ line-part text i there;
  }
    where
      there : i < length (frame_lines_of text)
      there = omega (arith, less, frames-counted text (file_frames P) (frames-are-file text read), file-frames P)

      words : (frame_place (frame_table text) i ≡ line_start text i) × (frame_length (frame_table text) i ≡ length (line_at text i))
      words = let w = in-limits in frame_at text i (omega (arith, less, w.few_types, w.few_functions, w.few_inputs, w.few_nodes)) there

      place : frame_place frames i ≡ line_start text i
      place = ap (λ l. frame_place l i) table ∙ words.0

      long : frame_length frames i ≡ length (line_at text i)
      long = ap (λ l. frame_length l i) table ∙ words.1

  counts-indexed : (index : List ℕ) → the_counts_of index ≡ counts_entry P → Counted (counts_in index) P
  counts-indexed index counts =
      let w = in-limits in
      record {
        type_count = small 0 (length P.types) (ap (λ l. get_or l 0 0) counts) (omega (arith, w.few_types));
        function_count = small 1 (length P.functions) (ap (λ l. get_or l 1 0) counts) (omega (arith, w.few_functions));
        input_count = small 2 (length P.inputs) (ap (λ l. get_or l 2 0) counts) (omega (arith, w.few_inputs));
        node_count = small 3 (length P.nodes) (ap (λ l. get_or l 3 0) counts) (omega (arith, w.few_nodes));
      }
    where
      small : (i n : ℕ) → get_or (the_counts_of index) i 0 ≡ n → n < byte_range → n ≡ get_or (the_counts_of index) i 0 % byte_range
      small i n e less = omega arith

  file-indexed : {index : List ℕ} → FileSections text index P → Indexed text index P
  file-indexed {index} s =
      let w = in-limits in
      record {
        read = read;
        short = (reader-forth text P read).short;
        within = w;
        counted = counts-indexed index s.counts;
        each_frame = frame-indexed s.frames;
        each_type = type-indexed s.types;
        each_function = function-indexed s.functions;
        each_input = input-indexed s.channels;
        each_node = node-indexed s.channels;
      }

-- ---- what the reader promises: of a refusal, and of a file
pub read-fault : {text index : List ℕ} {r : Reading} {a : RefusalAt} {x : Result File} → TextRead text r index x → r ≡ Err a → x ≡ no (number_of a.refusal) a.frame
read-fault (done e whole) q = absurd (let u = sym e ∙ q in let z : ◌≡◌ {A = ℕ} 0 1 = cc in omega arith)
read-fault {a = a} (fault {e = b} e zeros) q = let u : ◌≡◌ {A = Reading} (Err b) (Err a) = sym e ∙ q in let same : b ≡ a = cc in ap (λ (y : RefusalAt). no (number_of y.refusal) y.frame) same

pub record ReadIndexed (text index : List ℕ) : Type 0 where
  pub file : File
  pub indexed : Indexed text index file

pub read-indexes : {text index : List ℕ} {r : Reading} → TextRead text r index (read_file text) → r ≡ Ok tt → ReadIndexed text index
read-indexes {text} {index} {r} told answer = go (read_file text) refl told
  where
    go : (x : Result File) → read_file text ≡ x → TextRead text r index x → ReadIndexed text index
    go x q (done {P = P} e whole) = record { file = P; indexed = file-indexed text q (whole-sections whole) }
    go x q (fault e zeros) = absurd (let u = sym e ∙ answer in let z : ◌≡◌ {A = ℕ} 0 1 = cc in omega arith)
