-- The loop over the frames of a text: at each turn the frames so far are read into the index, and those left decide the rest.
use Rattle.std.specs.Prelude.{Ok, Err}
use Rattle.language.specs.declared.refusals.Refusal.{Refusal}
use Rattle.language.specs.declared.refusals.Refusal.TheVariants.{BadFrame}
use Rattle.language.specs.declared.refusals.RefusalAt.{RefusalAt}
use Rattle.language.specs.RefusalNumbers.{number_of}
use Rattle.std.specs.Prelude.{ℕ, suc, ◌+◌, ◌≤◌, ◌<◌, List, [], ◌∷◌, ◌≡◌, refl, length, get_or, drop}
use Rattle.std.proofs.Common.{sym, subst, ◌∙◌, arith, add-one, drop_of_length-le, drop-cons}
use Rattle.std.proofs.Math.Path.{ap, ap₂}
use Rattle.std.proofs.Math.ListN.{take}
use Rattle.language.specs.Refusals.{bad_frame}
use Rattle.language.specs.Result.{Result, ok, no}
use Rattle.language.specs.Syntax.{File}
use Rattle.language.specs.Reader.{read_frame, read_frames, read_file, empty_file}
use Rattle.text.specs.Bytes.{bytes_of}
use Rattle.text_lines.specs.LineBytes.{frame-bytes-read}
use Rattle.text_lines.specs.TextJudge.{Accepted}
use Rattle.encoding.specs.FrameLines.{frame_lines_of, line_at, line-part, line-within, frames-counted, line-spelled}
use Rattle.index.specs.Tables.{frames_most, frame_table}
use Rattle.index.specs.FrameTable.{frame_at}
use Rattle.index.specs.Sections.{frames_from as frames_start, types_from, functions_from, channels_from, frame_table_words, type_table_words, function_table_words, channel_table_words, index_words, frames_of}
use Rattle.index.specs.SectionLaws.{CountsPut, kept-behind}
use Rattle.index.specs.Whole.{counts_entry, index_of, FileSections, sections-whole}
use Rattle.index.specs.Indexed.{frame_part, line_count}
use Rattle.index.specs.declared.Counts.{Counts}
use Rattle.reader.specs.Frames.{Frame}
use Rattle.reader.specs.Held.{total, Held, Fits, FrameRead, taken, refused, ReadsFrame}
use Rattle.reader.specs.Texts.{Reading, Finished, without_node, with-node, Ready, FramesRead, all_frames, bad-frame}
use Rattle.reader.specs.TableLaws.{blank-held}
use Rattle.reader.specs.LineLaws.{one-frame-more, full-when, one-too-many, frame-some, frame_refused, frame-taken, no_node, some-node}

-- what is in the index when so many frames are read
pub record FramesTo (t : List ℕ) (count all : ℕ) (known : Counts) (read : ℕ) (index : List ℕ) : Type 0 where
  pub accepted : Accepted t count all
  pub file : File
  pub held : Held (line_at t) index known file
  pub so_many : total known ≡ read
  pub most : read ≤ count
  pub places : frames_of index ≡ frame_table t
  pub is : read_file t ≡ read_frames all (suc read) file (drop read accepted.frames)

pub frames-start : {t index : List ℕ} {count all : ℕ} {known : Counts} → Ready t index count all → known.types ≡ 0 → known.functions ≡ 0 → known.inputs ≡ 0 → known.nodes ≡ 0 → FramesTo t count all known 0 index
frames-start {t} z ts fs is ns =
    record { accepted = z.accepted; file = empty_file; held = blank-held (line_at t) z ts fs is ns; so_many = omega (arith, ts, fs, is, ns); most = omega arith; places = z.places; is = z.accepted.file }

-- ---- what reading a frame gives, by its answer
frame-file : {lines : ℕ → List ℕ} {r : Frame} {index : List ℕ} {n : Counts} {x : Result File} → FrameRead lines r index x → r ≡ Ok n → (Q : File) × ((x ≡ ok Q) × Held lines index n Q)
frame-file {lines} {index = index} (taken {n = m} {Q = Q} e h) q = (Q, (refl, subst (λ k. Held lines index k Q) (let u = sym e ∙ q in cc) h))
frame-file (refused e) q = absurd (let u = sym e ∙ q in let z : ◌≡◌ {A = ℕ} 0 1 = cc in omega arith)

frame-fault : {lines : ℕ → List ℕ} {r : Frame} {index : List ℕ} {m : Refusal} {x : Result File} → FrameRead lines r index x → r ≡ Err m → (k : ℕ) × (x ≡ no (number_of m) k)
frame-fault (taken e h) q = absurd (let u = sym e ∙ q in let z : ◌≡◌ {A = ℕ} 0 1 = cc in omega arith)
frame-fault {m = m} (refused {m = n} {frame = k} e) q = (k, ap (λ i. no (number_of i) k) (let u : ◌≡◌ {A = Frame} (Err n) (Err m) = sym e ∙ q in cc))

text-fault : (t : List ℕ) {index : List ℕ} {r : Reading} {e : RefusalAt} → r ≡ Err e → read_file t ≡ no (number_of e.refusal) e.frame → FramesRead t r index (read_file t)
text-fault t q e = rw e (bad-frame q)

text-file : (t : List ℕ) {index : List ℕ} {r : Reading} {P : File} → r ≡ Ok tt → index ≡ index_of t P → read_file t ≡ ok P → FramesRead t r index (read_file t)
text-file t q h e = rw e (all_frames q h)

-- ---- one turn
module _ {t index : List ℕ} {count all read : ℕ} {known : Counts} (s : FramesTo t count all known read index) where
  -- as many frames are read as the file so far has
  read-so-far : line_count s.file ≡ read
  read-so-far = let same = s.held.counted in omega (arith, s.so_many, same.type_count, same.function_count, same.input_count, same.node_count)

  module _ (less : read < count) where
    there : read < length s.accepted.frames
    there = omega (arith, less, s.accepted.counted)

    next-frame : drop read s.accepted.frames ≡ get_or s.accepted.frames read [] ∷ drop (suc read) s.accepted.frames
    next-frame = drop-cons s.accepted.frames read [] there

    -- where the sum of all limits is reached, every kind has as many frames as it may have
    pub too_many : {r : Reading} {index' : List ℕ} → frames_most ≤ read → r ≡ Err (record { refusal = BadFrame; frame = read + 1 }) → FramesRead t r index' (read_file t)
    too_many le e =
        let h = s.held in
        let bytes = frame-some (line_at t read) _ (line-spelled t s.accepted.frames s.accepted.are read there) in
        let full = full-when s.file (omega (arith, le, read-so-far)) h.few_types h.few_functions h.few_inputs h.few_nodes in
        text-fault t e (s.is ∙ frame_refused all (suc read) s.file next-frame (one-too-many all (suc read) s.file (get_or s.accepted.frames read []) full bytes) ∙ ap (no bad_frame) (sym (add-one read)))

    module _ (room : read < frames_most) {l : List ℕ} (cut : l ≡ frame_part t (frames_of index) read) where
      in_lines : read < length (frame_lines_of t)
      in_lines = omega (arith, there, frames-counted t s.accepted.frames s.accepted.are)

      -- the part of the text that the index names is the line
      line-is : l ≡ line_at t read
      unfolding frame_part
      line-is =
          let words = frame_at t read room in_lines in
          cut ∙ ap (λ fs. frame_part t fs read) s.places ∙ ap₂ (λ (n p : ℕ). take n (drop p t)) words.1 words.0 ∙ line-part t read in_lines

      line-bytes : bytes_of l ≡ get_or s.accepted.frames read []
      line-bytes = ap bytes_of line-is ∙ frame-bytes-read (line_at t read) _ (line-spelled t s.accepted.frames s.accepted.are read there)

      -- a line is as short as the text, and the counts are within the limits
      pub line-fits : Fits l known
      line-fits =
          let held = s.held in
          let same = held.counted in
          record {
            short = omega (arith, ap length line-is, line-within t read in_lines, s.accepted.fits);
            few = record {
              types = omega (arith, same.type_count, held.few_types);
              functions = omega (arith, same.function_count, held.few_functions);
              inputs = omega (arith, same.input_count, held.few_inputs);
              nodes = omega (arith, same.node_count, held.few_nodes);
            };
          }

      module _ {x : Frame} {index' : List ℕ} (v : ReadsFrame l index known all x index') where
        frame-read : FrameRead (line_at t) x index' (read_frame all (suc read) s.file (get_or s.accepted.frames read []))
        frame-read = subst (λ (bs : List ℕ). FrameRead (line_at t) x index' (read_frame all (suc read) s.file bs)) line-bytes (v.says (line_at t) s.file s.held (line-is ∙ ap (line_at t) (sym s.so_many)) (suc read))

        pub frame-stops : {m : Refusal} {r : Reading} → x ≡ Err m → r ≡ Err (record { refusal = m; frame = read + 1 }) → FramesRead t r index' (read_file t)
        frame-stops {m} q a =
            let no-file = frame-fault frame-read q in
            text-fault t a (s.is ∙ frame_refused all (suc read) s.file next-frame no-file.1 ∙ ap (no (number_of m)) (sym (add-one read)))

        pub frame-goes-on : {n : Counts} → x ≡ Ok n → FramesTo t count all n (read + 1) index'
        frame-goes-on {n} q =
            let Q = frame-file frame-read q in
            let after = Q.1.1.counted in
            let more = one-frame-more all (suc read) s.file (get_or s.accepted.frames read []) Q.1.0 in
            record {
              accepted = s.accepted;
              file = Q.0;
              held = Q.1.1;
              so_many = omega (arith, more, read-so-far, after.type_count, after.function_count, after.input_count, after.node_count);
              most = omega (arith, less);
              places = v.frames ∙ s.places;
              is = s.is ∙ frame-taken all (suc read) s.file next-frame Q.1.0 ∙ ap (λ k. read_frames all (suc k) Q.0 (drop k s.accepted.frames)) (sym (add-one read));
            }

  -- ---- behind the last frame
  last-read : count ≤ read → read_file t ≡ read_frames all (suc read) s.file []
  last-read le = s.is ∙ ap (read_frames all (suc read) s.file) (drop_of_length-le s.accepted.frames {i = read} (omega (arith, le, s.accepted.counted)))

  without : {index' : List ℕ} → count ≤ read → known.nodes ≡ 0 → FramesRead t (Err (record { refusal = BadFrame; frame = read + 1 })) index' (read_file t)
  without le none = text-fault t refl (last-read le ∙ no_node all (suc read) s.file (s.held.counted.node_count ∙ none) ∙ ap (no bad_frame) (sym (add-one read)))

  -- with the counts every section is the file's
  with-some : {index' : List ℕ} → count ≤ read → (known.nodes ≡ 0 → ⊥) → CountsPut known index index' → length index' ≡ index_words → FramesRead t (Ok tt) index' (read_file t)
  with-some {index'} le some put long =
      let same = s.held.counted in
      let words : known.types ∷ known.functions ∷ known.inputs ∷ known.nodes ∷ [] ≡ counts_entry s.file = λ i. sym same.type_count i ∷ sym same.function_count i ∷ sym same.input_count i ∷ sym same.node_count i ∷ [] in
      let sections : FileSections t index' s.file = record {
        counts = put.counts ∙ words;
        frames = kept-behind put.outside frames_start frame_table_words (omega arith) ∙ s.places;
        types = kept-behind put.outside types_from type_table_words (omega arith) ∙ s.held.types_are;
        functions = kept-behind put.outside functions_from function_table_words (omega arith) ∙ s.held.functions_are;
        channels = kept-behind put.outside channels_from channel_table_words (omega arith) ∙ s.held.channels_are;
      } in
      text-file t refl (sections-whole long sections) (last-read le ∙ some-node all (suc read) s.file (λ e. some (sym same.node_count ∙ e)))

  pub frames-end : {r : Reading} {index' : List ℕ} → count ≤ read → Finished known (read + 1) index r index' → FramesRead t r index' (read_file t)
  frames-end le (without_node none) = without le none
  frames-end le (with-node some put long) = with-some le some put long
