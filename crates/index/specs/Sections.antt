-- The index that the reader leaves for later passes is one row of words: the counts of the file, then a section for its frames, its
-- types, its functions and its channels. Section is a notion of the proofs; document 01 has no word for it.
use Rattle.std.specs.Prelude.{ℕ, ◌+◌, ◌*◌, ◌%◌, ◌<◌, List, get_or, take, drop}
use Rattle.language.specs.Limits.{byte_range, types_most, functions_most, channels_most}
use Rattle.index.specs.declared.Counts.{Counts}
use Rattle.index.specs.Tables.{frames_most, frame_words, type_words, function_words, channel_words}

-- ---- how long the sections are, and where they start
abbrev pub count_words : ℕ
count_words = 4

abbrev pub frame_table_words : ℕ
frame_table_words = frames_most * frame_words

abbrev pub type_table_words : ℕ
type_table_words = types_most * type_words

abbrev pub function_table_words : ℕ
function_table_words = functions_most * function_words

abbrev pub channel_table_words : ℕ
channel_table_words = channels_most * channel_words

abbrev pub frames_from : ℕ
frames_from = count_words

abbrev pub types_from : ℕ
types_from = frames_from + frame_table_words

abbrev pub functions_from : ℕ
functions_from = types_from + type_table_words

abbrev pub channels_from : ℕ
channels_from = functions_from + function_table_words

abbrev pub index_words : ℕ
index_words = channels_from + channel_table_words

-- ---- so many words from a place on
unfoldable pub section : ℕ → ℕ → List ℕ → List ℕ
section from n index = take n (drop from index)

abbrev pub the_counts_of : List ℕ → List ℕ
the_counts_of index = section 0 count_words index

abbrev pub frames_of : List ℕ → List ℕ
frames_of index = section frames_from frame_table_words index

abbrev pub types_of : List ℕ → List ℕ
types_of index = section types_from type_table_words index

abbrev pub functions_of : List ℕ → List ℕ
functions_of index = section functions_from function_table_words index

abbrev pub channels_of : List ℕ → List ℕ
channels_of index = section channels_from channel_table_words index

-- the counts, each a byte
abbrev pub counts_in : List ℕ → Counts
counts_in index = record {
  types = get_or (the_counts_of index) 0 0 % byte_range;
  functions = get_or (the_counts_of index) 1 0 % byte_range;
  inputs = get_or (the_counts_of index) 2 0 % byte_range;
  nodes = get_or (the_counts_of index) 3 0 % byte_range;
}

pub record SmallCounts (n : Counts) : Type 0 where
  pub types : n.types < byte_range
  pub functions : n.functions < byte_range
  pub inputs : n.inputs < byte_range
  pub nodes : n.nodes < byte_range
