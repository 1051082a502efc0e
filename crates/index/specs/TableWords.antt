-- What the words of the tables say of a type's fields, of a function's places and of a channel.
use Rattle.std.specs.Prelude.{ℕ, suc, ◌+◌, ◌*◌, ◌≤◌, ◌<◌, ◌≡◌}
use mathlib.Core.List.{List, [], ◌++◌, map, append-nil}
use Rattle.std.proofs.Math.Option.{some}
use Rattle.std.proofs.Math.Path.{sym, ap}
use Rattle.std.proofs.Common.{◌∙◌}
use native.Mathlib.Omega.{arith}
use Rattle.std.proofs.Math.ListN.{length, get_or, get_elem? as look}
use Rattle.std.proofs.Math.Seq.{get_or-append-add}
use Rattle.language.specs.Limits.{types_most, functions_most, channels_most, constructors_most, fields_most, parameters_most}
use Rattle.language.specs.Syntax.{Constructor, TypeDef, Function, Input, Node}
use Rattle.language.specs.Format.{spell_all}
use Rattle.language.specs.Layout.{padded}
use Rattle.text.specs.Bytes.{field_word}
use Rattle.theory.specs.Lists.{look-get_d, look-less}
use Rattle.index.specs.Tables.{constructor_words, type_words, constructor_entry, type_entry, type_table, function_words, function_entry, function_table, channel_words, input_entry, node_entry, channel_table}
use Rattle.index.specs.Lined.{Lined}
use Rattle.index.specs.Padded.{padded-at}
use Rattle.index.specs.Entries.{table_at}
use Rattle.index.specs.Enters.{parameters_entry, TellsParameters}
use Rattle.index.specs.TypeEntry.{constructor-wide}
use Rattle.index.specs.TypeTable.{type-wide, FewParts}
use Rattle.index.specs.FunctionTable.{head_words, parameters-wide, places_of, function-parts, function-wide, tells-parameters}
use Rattle.index.specs.FrameTable.{input-at, node_at}
use Rattle.index.specs.Indexed.{field_at}

-- ---- the word of a field
constructor-field : (fs : Constructor) (j : ℕ) → length fs ≤ fields_most → j < length fs → get_or (constructor_entry fs) (2 + j) 0 ≡ get_or (map field_word fs) j 0
unfolding constructor_entry
constructor-field fs j few less = let on : 2 + j ≡ suc (suc j) = omega arith in rw on (padded-at fields_most (map field_word fs) j (omega arith))

type-field : (d : TypeDef) (c j : ℕ) → FewParts d → c < length d → j < length (get_or d c []) → get_or (type_entry d) (1 + (constructor_words * c + (2 + j))) 0 ≡ get_or (map field_word (get_or d c [])) j 0
unfolding type_entry
type-field d c j s less field =
    let on : 1 + (constructor_words * c + (2 + j)) ≡ suc (constructor_words * c + (2 + j)) = omega arith in
    rw on (table_at constructor_words constructor_entry constructor-wide (constructors_most * constructor_words) d c (2 + j) [] (omega (arith, s.constructors)) less (omega (arith, s.fields c less))
    ∙ constructor-field (get_or d c []) j (s.fields c less) field)

pub tells-field : {types : List ℕ} (ds : List TypeDef) (t : ℕ) → types ≡ type_table ds → length ds ≤ types_most → t < length ds → FewParts (get_or ds t []) →
    (c : ℕ) → c < length (get_or ds t []) → (j : ℕ) → j < length (get_or (get_or ds t []) c []) → field_at types t c j ≡ get_or (map field_word (get_or (get_or ds t []) c [])) j 0
unfolding type_table
tells-field {types} ds t table few there s c less j field =
    let place : type_words * t + 3 + constructor_words * c + j ≡ type_words * t + (1 + (constructor_words * c + (2 + j))) = omega arith in
    ap (λ l. field_at l t c j) table ∙ ap (λ i. get_or (type_table ds) i 0) place
    ∙ table_at type_words type_entry type-wide (types_most * type_words) ds t (1 + (constructor_words * c + (2 + j))) [] (omega arith) there (omega (arith, s.constructors, s.fields c less))
    ∙ type-field (get_or ds t []) c j s less field

-- ---- a function's parameters, and its places
module _ {functions : List ℕ} (Fs : List (Lined Function)) (table : functions ≡ function_table Fs) (few : length Fs ≤ functions_most) (f : ℕ) {F : Lined Function} (there : look Fs f ≡ some F) where
  pub parameters-told : length F.part.parameters ≤ parameters_most → TellsParameters functions f F.part.parameters
  unfolding function_table
  parameters-told short =
      let n = functions_most * function_words in
      let same = look-get_d Fs f F there in
      let whole = table ∙ sym (ap (padded n) (append-nil (spell_all function_entry Fs))) in
      rw same at (tells-parameters n Fs [] f F whole (omega arith) (look-less Fs f there) (rw same short))

  pub place-told : (k : ℕ) → k < 4 → get_or functions (function_words * f + head_words + k) 0 ≡ get_or (places_of F) k 0
  unfolding function_table
  place-told k less =
      let word : function_words * f + head_words + k ≡ function_words * f + (head_words + k) = omega arith in
      let behind : head_words + k ≡ length (parameters_entry F.part.parameters) + k = omega (arith, parameters-wide F.part.parameters) in
      ap (λ l. get_or l (function_words * f + head_words + k) 0) table ∙ ap (λ i. get_or (function_table Fs) i 0) word
      ∙ table_at function_words function_entry function-wide (functions_most * function_words) Fs f (head_words + k) F (omega arith) (look-less Fs f there) (omega arith)
      ∙ ap (λ G. get_or (function_entry G) (head_words + k) 0) (look-get_d Fs f F there) ∙ ap (λ l. get_or l (head_words + k) 0) (function-parts F)
      ∙ ap (λ i. get_or (parameters_entry F.part.parameters ++ places_of F) i 0) behind ∙ get_or-append-add (parameters_entry F.part.parameters) (places_of F) k 0

-- ---- the words of a channel
module _ {channels : List ℕ} (is : List (Lined Input)) (ns : List (Lined Node)) (table : channels ≡ channel_table is ns) (few : length is + length ns ≤ channels_most) where
  pub input-told : (c : ℕ) {i : Lined Input} → look is c ≡ some i → (k : ℕ) → k < channel_words → get_or channels (channel_words * c + k) 0 ≡ get_or (input_entry i) k 0
  input-told c {i} there k less =
      ap (λ l. get_or l (channel_words * c + k) 0) table ∙ input-at is ns c k i (omega arith) (look-less is c there) less ∙ ap (λ j. get_or (input_entry j) k 0) (look-get_d is c i there)

  pub node-told : (m : ℕ) {n : Lined Node} → look ns m ≡ some n → (k : ℕ) → k < channel_words → get_or channels (channel_words * (length is + m) + k) 0 ≡ get_or (node_entry n) k 0
  node-told m {n} there k less =
      ap (λ l. get_or l (channel_words * (length is + m) + k) 0) table ∙ node_at is ns m k n few (look-less ns m there) less ∙ ap (λ j. get_or (node_entry j) k 0) (look-get_d ns m n there)
