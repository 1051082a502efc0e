-- The cells of the first channels' declared types, one by one; of all channels, and of the inputs.
use Rattle.std.specs.Prelude.{ℕ, zero, suc, ◌+◌, ◌*◌, ◌≤◌, ◌<◌, ◌≡◌, refl, get_or, take}
use mathlib.Core.List.{List, [], ◌∷◌, ◌++◌, map, map-map}
use Rattle.std.proofs.Math.Path.{sym, ap}
use Rattle.std.proofs.Common.{ap₂, ◌∙◌, arith, add-one, length-append, take_all}
use Rattle.std.proofs.Math.ListN.{length}
use Rattle.std.proofs.lemmas.List.{length-map}
use Rattle.std.proofs.Math.Seq.{take-append_seam}
use Rattle.language.specs.Limits.{channels_most}
use Rattle.language.specs.Syntax.{Ty, tbool, Input, Node, File, declared_types}
use Rattle.language.specs.Sizes.{sum}
use Rattle.language.specs.Format.{spell_all}
use Rattle.language.specs.Within.{All, WithinDeclared, Within}
use Rattle.language.specs.Estimate.{stop}
use Rattle.language.specs.Cells.{cells_of, channel_cells, input_cells}
use Rattle.theory.specs.Alls.{all_append, all_map, all-to-map, all_get_d}
use Rattle.text.specs.Bytes.{declared_word}
use Rattle.index.specs.Lined.{Lined, lined-length, lined-map, inputs_in, nodes_in}
use Rattle.index.specs.Tables.{channel_words, input_entry, node_entry, channel_table}
use Rattle.index.specs.Sections.{channels_of}
use Rattle.index.specs.Indexed.{declared_at}
use Rattle.index.specs.Padded.{padded-at}
use Rattle.cells.specs.Counts.{Right, Counts, CountsType, ChannelsTold, Channels, CountsChannels}
use Rattle.cells.specs.MostLaws.{types-next}
use Rattle.cells.specs.CountLaws.{counts-given, counts-as, counts-sum}

-- ---- the declared types are within the limits, and the index has their words
types-declared : {P : File} → Within P → All (WithinDeclared (length P.types)) (declared_types P)
types-declared w = all_append (all-to-map (λ (i : Input). i.declared) (all_map (λ i v. v.declared) w.inputs)) (all-to-map (λ (n : Node). n.declared) (all_map (λ n v. v.declared) w.nodes))

channel-count : (P : File) → length (declared_types P) ≡ length P.inputs + length P.nodes
channel-count P = length-append (map (λ (i : Input). i.declared) P.inputs) (map (λ (n : Node). n.declared) P.nodes) ∙ omega (arith, length-map P.inputs (λ (i : Input). i.declared), length-map P.nodes (λ (n : Node). n.declared))

node-words : (ns : List (Lined Node)) (i : ℕ) → i < length ns → get_or (spell_all node_entry ns) (channel_words * i) 0 ≡ declared_word (get_or (map (λ (n : Lined Node). n.part.declared) ns) i tbool)
unfolding spell_all node_entry
node-words [] i less = absurd (omega arith)
node-words (n ∷ ns) zero less = refl
node-words (n ∷ ns) (suc i) less = let on : channel_words * suc i ≡ suc (suc (suc (channel_words * i))) = omega arith in rw on (node-words ns i (omega arith))

channel-words : (is : List (Lined Input)) (ns : List (Lined Node)) (i : ℕ) → i < length is + length ns →
    get_or (spell_all input_entry is ++ spell_all node_entry ns) (channel_words * i) 0 ≡ declared_word (get_or (map (λ (j : Lined Input). j.part.declared) is ++ map (λ (n : Lined Node). n.part.declared) ns) i tbool)
unfolding spell_all input_entry
channel-words [] ns i less = node-words ns i (omega arith)
channel-words (j ∷ is) ns zero less = refl
channel-words (j ∷ is) ns (suc i) less = let on : channel_words * suc i ≡ suc (suc (suc (channel_words * i))) = omega arith in rw on (channel-words is ns i (omega arith))

module _ {index table : List ℕ} {P : File} {n : ℕ} (h : Right index table P) (a : Channels index n P) (i : ℕ) (less : i < n) where
  channel-there : i < length (declared_types P)
  channel-there = omega (arith, less, a.few)

  channel-within : WithinDeclared (length P.types) (get_or (declared_types P) i tbool)
  channel-within = all_get_d (types-declared h.within) i tbool channel-there

  channel-told : declared_at (channels_of index) i ≡ declared_word (get_or (declared_types P) i tbool)
  channel-told = a.told i channel-there

-- the words of the channels are those of the file's declared types, whatever their lines are
pub channels-told : {P : File} (index : List ℕ) (lines : ℕ → List ℕ) → Within P → channels_of index ≡ channel_table (inputs_in lines P) (nodes_in lines P) → ChannelsTold index P
unfolding channel_table
channels-told {P} index lines w are i less =
    let is = inputs_in lines P in
    let ns = nodes_in lines P in
    let inputs_long = lined-length lines (length P.types + length P.functions) P.inputs in
    let nodes-long = lined-length lines (length P.types + length P.functions + length P.inputs) P.nodes in
    ap (λ l. get_or l (channel_words * i) 0) are
    ∙ padded-at (channels_most * channel_words) (spell_all input_entry is ++ spell_all node_entry ns) (channel_words * i) (omega (arith, less, channel-count P, w.few_inputs, w.few_nodes))
    ∙ channel-words is ns i (omega (arith, less, channel-count P, inputs_long, nodes-long))
    ∙ ap₂ (λ (τs σs : List Ty). declared_word (get_or (τs ++ σs) i tbool)) (lined-map lines (λ (j : Input). j.declared) (length P.types + length P.functions) P.inputs) (lined-map lines (λ (n : Node). n.declared) (length P.types + length P.functions + length P.inputs) P.nodes)

-- ---- the channels before i
abbrev pub ChannelsTo : List ℕ → List ℕ → ℕ → ℕ → ℕ → List ℕ → Type 0
ChannelsTo index table n i = Counts index table (Channels index n) (λ P. sum (map (cells_of P) (take i (declared_types P))))

pub channels-start : (index table : List ℕ) (n : ℕ) → ChannelsTo index table n 0 0 table
unfolding sum
channels-start index table n = counts-given (omega arith) (λ P h a. omega arith)

pub channels-on : {index table table₁ table₂ : List ℕ} {n i sum word one r : ℕ} → ChannelsTo index table n i sum table₁ → i < n → word ≡ declared_at (channels_of index) i → CountsType index table₁ word one table₂ → r ≡ stop (sum + one) →
    ChannelsTo index table n (i + 1) r table₂
channels-on {index} {table₁} {table₂} {n} {i} {one} v less e w f =
    let u : Counts index table₁ (Channels index n) (λ P. cells_of P (get_or (declared_types P) i tbool)) one table₂ = record {
      small = w.small;
      is = λ P h a. w.is P (get_or (declared_types P) i tbool) h (channel-within h a i less) (sym (e ∙ channel-told h a i less));
      right = λ P h a. w.right P (get_or (declared_types P) i tbool) h (channel-within h a i less) (sym (e ∙ channel-told h a i less));
    } in
    counts-as (counts-sum v u (λ P h a. a) f) (λ P h a. rw add-one (sym (types-next P i (declared_types P) tbool (channel-there h a i less))))

pub channels-end : {index table table₁ : List ℕ} {n i r : ℕ} → ChannelsTo index table n i r table₁ → i ≤ n → n ≤ i → CountsChannels index table n r table₁
channels-end {n} {i} v low high = let all : i ≡ n = omega (arith, low, high) in counts-as v (λ P h a. ap (λ m. sum (map (cells_of P) (take m (declared_types P)))) all)

-- ---- all of them, and the inputs alone
module _ {index table table' : List ℕ} {n r : ℕ} (v : CountsChannels index table n r table') (P : File) (h : Right index table P) (told : ChannelsTold index P) where
  pub all-channels-counted : n ≡ length P.inputs + length P.nodes → r ≡ stop (channel_cells P)
  unfolding channel_cells
  all-channels-counted e =
      let all : length (declared_types P) ≤ n = omega (arith, e, channel-count P) in
      v.is P h (record { told = told; few = omega (arith, e, channel-count P) }) ∙ ap (λ l. stop (sum (map (cells_of P) l))) (take_all n (declared_types P) all)

  pub inputs-counted : n ≡ length P.inputs → r ≡ stop (input_cells P)
  unfolding input_cells
  inputs-counted e =
      let is = map (λ (i : Input). i.declared) P.inputs in
      let count : n ≡ length is = e ∙ sym (length-map P.inputs (λ (i : Input). i.declared)) in
      v.is P h (record { told = told; few = omega (arith, e, channel-count P) }) ∙ ap (λ m. stop (sum (map (cells_of P) (take m (declared_types P))))) count
      ∙ ap (λ l. stop (sum (map (cells_of P) l))) (take-append_seam is (map (λ (m : Node). m.declared) P.nodes))
      ∙ ap (λ l. stop (sum l)) (map-map (cells_of P) (λ (i : Input). i.declared) P.inputs)
