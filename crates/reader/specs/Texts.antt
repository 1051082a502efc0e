-- What reading a text promises: the index of the text and its file, or the refusal with its frame and an index of zeros.
use Rattle.std.specs.Prelude.{Result as Outcome, Ok, Err}
use Rattle.language.specs.declared.refusals.RefusalAt.{RefusalAt}
use Rattle.language.specs.declared.refusals.Refusal.TheVariants.{BadFrame}
use Rattle.language.specs.RefusalNumbers.{number_of}
use Rattle.language.specs.Told.{told}
use Rattle.std.specs.Prelude.{ℕ, List, ◌≡◌, length, replicate}
use Rattle.language.specs.Result.{Result, ok, no}
use Rattle.language.specs.Syntax.{File}
use Rattle.text_lines.specs.declared.FrameCounts.{FrameCounts}
use Rattle.text_lines.specs.Lines.{Judged, judgement}
use Rattle.text_lines.specs.TextJudge.{Accepted}
use Rattle.index.specs.Tables.{frame_table}
use Rattle.index.specs.Sections.{frames_from as frames_start, frame_table_words, type_table_words, function_table_words, channel_table_words, index_words, frames_of, types_of, functions_of, channels_of}
use Rattle.index.specs.SectionLaws.{Outside, CountsPut}
use Rattle.index.specs.Whole.{index_of}
use Rattle.index.specs.declared.Counts.{Counts}

-- what reading gives: nothing, or a refusal and its frame
abbrev pub Reading : Type 0
Reading = Outcome (Unit {0}) RefusalAt

-- behind the last frame: "no node (frame: one after the last)", or the counts are written
pub data Finished (n : Counts) (next : ℕ) (index : List ℕ) : Reading → List ℕ → Type 0 where
  without_node : {index' : List ℕ} → n.nodes ≡ 0 → Finished n next index (Err (record { refusal = BadFrame; frame = next })) index'
  with-node : {index' : List ℕ} → (n.nodes ≡ 0 → ⊥) → CountsPut n index index' → length index' ≡ index_words → Finished n next index (Ok tt) index'

-- a text judged: its answer is the definition's, and where there is no refusal the index has the lines of its frames
pub record Judges (text index : List ℕ) (r : Judged) (index' : List ℕ) : Type 0 where
  pub is : told r ≡ judgement text
  pub places : (n : FrameCounts) → r ≡ Ok n → frames_of index' ≡ frame_table text
  pub outside : Outside frames_start frame_table_words index index'

-- a text that was judged, with so many frames and channels: its lines are in the index, and the other sections are zero
pub record Ready (text index : List ℕ) (count channels : ℕ) : Type 0 where
  pub accepted : Accepted text count channels
  pub places : frames_of index ≡ frame_table text
  pub types_zero : types_of index ≡ replicate type_table_words 0
  pub functions_zero : functions_of index ≡ replicate function_table_words 0
  pub channels_zero : channels_of index ≡ replicate channel_table_words 0

-- a text read into an index of zeros: after a refusal the index is free
pub data FramesRead (text : List ℕ) (r : Reading) (index : List ℕ) : Result File → Type 0 where
  all_frames : {P : File} → r ≡ Ok tt → index ≡ index_of text P → FramesRead text r index (ok P)
  bad-frame : {e : RefusalAt} → r ≡ Err e → FramesRead text r index (no (number_of e.refusal) e.frame)

-- a text read: the index is that of the text and its file, or after a refusal every word is zero
pub data TextRead (text : List ℕ) (r : Reading) (index : List ℕ) : Result File → Type 0 where
  done : {P : File} → r ≡ Ok tt → index ≡ index_of text P → TextRead text r index (ok P)
  fault : {e : RefusalAt} → r ≡ Err e → index ≡ replicate index_words 0 → TextRead text r index (no (number_of e.refusal) e.frame)
