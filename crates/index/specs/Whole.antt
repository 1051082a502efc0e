-- The index of a text and its file as a whole: counts, then frames, types, functions and channels. A row of the index's length is
-- their index where its sections are.
use Rattle.std.specs.Prelude.{ℕ, ◌+◌, List, [], ◌∷◌, ◌++◌, ◌≡◌, refl, length, drop}
use Rattle.std.proofs.Common.{sym, ap₂, ◌∙◌, arith, length-drop, take-append-drop, take_all, take_at, drop-drop}
use Rattle.std.proofs.Math.Path.{ap}
use Rattle.std.proofs.Math.ListN.{take}
use Rattle.std.proofs.Math.Seq.{drop-append-add}
use Rattle.language.specs.Syntax.{File}
use Rattle.theory.specs.Padding.{padded-length}
use Rattle.encoding.specs.FrameLines.{line_at}
use Rattle.index.specs.Lined.{functions_in, inputs_in, nodes_in}
use Rattle.index.specs.Tables.{frame_table, type_table, function_table, channel_table}
use Rattle.index.specs.Sections.{count_words, frame_table_words, type_table_words, function_table_words, channel_table_words, frames_from, types_from, functions_from, channels_from, index_words, section, the_counts_of, frames_of, types_of, functions_of, channels_of}

-- how many frames of each kind, as words
abbrev pub counts_entry : File → List ℕ
counts_entry P = length P.types ∷ length P.functions ∷ length P.inputs ∷ length P.nodes ∷ []

unfoldable pub index_of : List ℕ → File → List ℕ
index_of t P = counts_entry P ++ (frame_table t ++ (type_table P.types ++ (function_table (functions_in (line_at t) P) ++ channel_table (inputs_in (line_at t) P) (nodes_in (line_at t) P))))

-- each section is that of the text and its file
pub record FileSections (t index : List ℕ) (P : File) : Type 0 where
  pub counts : the_counts_of index ≡ counts_entry P
  pub frames : frames_of index ≡ frame_table t
  pub types : types_of index ≡ type_table P.types
  pub functions : functions_of index ≡ function_table (functions_in (line_at t) P)
  pub channels : channels_of index ≡ channel_table (inputs_in (line_at t) P) (nodes_in (line_at t) P)

-- ---- the sections, one behind the other, are the whole row
section-then : (from n : ℕ) (index : List ℕ) → drop from index ≡ section from n index ++ drop (from + n) index
unfolding section
section-then from n index = sym (take-append-drop n (drop from index)) ∙ ap (λ l. take n (drop from index) ++ l) (drop-drop n from index)

last-section : (from n : ℕ) (index : List ℕ) → length index ≡ from + n → drop from index ≡ section from n index
unfolding section
last-section from n index long = sym (take_all n (drop from index) (omega (arith, length-drop from index)))

pub sections-whole : {t index : List ℕ} {P : File} → length index ≡ index_words → FileSections t index P → index ≡ index_of t P
unfolding index_of
sections-whole {index = index} long s =
    let channels = last-section channels_from channel_table_words index long ∙ s.channels in
    let functions = section-then functions_from function_table_words index ∙ ap₂ (λ (a b : List ℕ). a ++ b) s.functions channels in
    let types = section-then types_from type_table_words index ∙ ap₂ (λ (a b : List ℕ). a ++ b) s.types functions in
    let frames = section-then frames_from frame_table_words index ∙ ap₂ (λ (a b : List ℕ). a ++ b) s.frames types in
    section-then 0 count_words index ∙ ap₂ (λ (a b : List ℕ). a ++ b) s.counts frames

-- ---- and the other way round
module _ (before l : List ℕ) {a : ℕ} (from n : ℕ) (long : length before ≡ a) where
  section-behind : section (a + from) n (before ++ l) ≡ section from n l
  unfolding section
  section-behind = ap (λ k. take n (drop (k + from) (before ++ l))) (sym long) ∙ ap (take n) (drop-append-add before l from)

section-first : (part l : List ℕ) {n : ℕ} → length part ≡ n → section 0 n (part ++ l) ≡ part
unfolding section
section-first part l {n} long = take_at part l n long

section-only : (part : List ℕ) {n : ℕ} → length part ≡ n → section 0 n part ≡ part
unfolding section
section-only part {n} long = take_all n part (omega arith)

pub whole-sections : {t index : List ℕ} {P : File} → index ≡ index_of t P → FileSections t index P
unfolding index_of frame_table type_table function_table channel_table
whole-sections {t} {index} {P} whole = rw whole (record {
  counts = section-first C (F ++ (T ++ (G ++ H))) refl;
  frames = behind-counts 0 frame_table_words ∙ section-first F (T ++ (G ++ H)) frames-long;
  types = behind-counts frame_table_words type_table_words ∙ behind-frames 0 type_table_words ∙ section-first T (G ++ H) types_long;
  functions = behind-counts (frame_table_words + type_table_words) function_table_words ∙ behind-frames type_table_words function_table_words ∙ behind-types 0 function_table_words ∙ section-first G H functions-long;
  channels = behind-counts (frame_table_words + (type_table_words + function_table_words)) channel_table_words ∙ behind-frames (type_table_words + function_table_words) channel_table_words ∙ behind-types function_table_words channel_table_words
      ∙ section-behind G H 0 channel_table_words functions-long ∙ section-only H (padded-length channel_table_words _);
})
  where
    C : List ℕ
    C = counts_entry P

    F : List ℕ
    F = frame_table t

    T : List ℕ
    T = type_table P.types

    G : List ℕ
    G = function_table (functions_in (line_at t) P)

    H : List ℕ
    H = channel_table (inputs_in (line_at t) P) (nodes_in (line_at t) P)

    frames-long : length F ≡ frame_table_words
    frames-long = padded-length frame_table_words _

    types_long : length T ≡ type_table_words
    types_long = padded-length type_table_words _

    functions-long : length G ≡ function_table_words
    functions-long = padded-length function_table_words _

    behind-counts : (from n : ℕ) → section (count_words + from) n (C ++ (F ++ (T ++ (G ++ H)))) ≡ section from n (F ++ (T ++ (G ++ H)))
    behind-counts from n = section-behind C (F ++ (T ++ (G ++ H))) from n refl

    behind-frames : (from n : ℕ) → section (frame_table_words + from) n (F ++ (T ++ (G ++ H))) ≡ section from n (T ++ (G ++ H))
    behind-frames from n = section-behind F (T ++ (G ++ H)) from n frames-long

    behind-types : (from n : ℕ) → section (type_table_words + from) n (T ++ (G ++ H)) ≡ section from n (G ++ H)
    behind-types from n = section-behind T (G ++ H) from n types_long
