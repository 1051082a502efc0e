-- The lines of an index are the file's, and the call from the text on, return by return.
use Prim.Native.Nat.{ℕ, zero, suc, ◌≤◌, ◌<◌}
use mathlib.Core.List.{List, [], ◌++◌}
use Rattle.std.proofs.Math.Bool.{false}
use Rattle.std.specs.Prelude.{◌≡◌, get_or, take}
use Rattle.std.proofs.Math.Path.{refl, sym, ap}
use Rattle.std.proofs.Common.{◌∙◌, arith, take-suc, take_all}
use Rattle.std.proofs.Math.ListN.{length, replicate}
use Rattle.std.proofs.Math.Seq.{sets}
use Rattle.std.proofs.Math.Dec.{leb}
use borrow.Author.Tests.{le-leb, lt-leb}
use Rattle.language.specs.Limits.{text_most}
use Rattle.language.specs.Refusals.{no_refusal, no_frame, buffer_short}
use Rattle.language.specs.Result.{Result, ok, no, bind, need}
use Rattle.language.specs.Syntax.{File}
use Rattle.language.specs.Format.{spell_all, line_text, file_frames, file_text}
use Rattle.language.specs.Reader.{read_file}
use Rattle.language.specs.Layout.{padded}
use Rattle.language.specs.Machine.{answer, done, refusal}
use Rattle.language.specs.Writer.{Written, strict_text, in_buffer, write}
use Rattle.theory.specs.Places.{look_at}
use Rattle.text.specs.Bytes.{bytes_from}
use Rattle.text.specs.Places.{bytes-start}
use Rattle.encoding.specs.FrameLines.{line_at}
use Rattle.encoding.specs.FrameSpells.{line-is-frame}
use Rattle.index.specs.Sections.{frames_of}
use Rattle.index.specs.Padded.{padded-none, padded-sets}
use Rattle.index.specs.Indexed.{frame_part, Indexed}
use Rattle.index.specs.FramePartLaws.{part-is-line}
use Rattle.std.specs.Prelude.{Err}
use Rattle.language.specs.declared.refusals.RefusalAt.{RefusalAt}
use Rattle.reader.specs.Texts.{Reading, TextRead}
use Rattle.reader.specs.Indexes.{file-frames, ReadIndexed, read-fault}
use Rattle.answers.specs.declared.Answer.{Answer}
use Rattle.answers.specs.Boards.{said, refusal_of, answer_of}
use Rattle.answers.specs.LendLaws.{as_long, own_zeros}
use Rattle.writer.specs.Writes.{Writes, frames_indexed, strict_line, strict_lines, Cleared}
use Rattle.index.specs.Entries.{spell-more}

-- ---- the lines that an index names, of a file that was read
module _ {text index : List ℕ} {P : File} (h : Indexed text index P) where
  part-spells : (i : ℕ) → i < length (file_frames P) → bytes_from (frame_part text (frames_of index) i) 0 ≡ get_or (file_frames P) i []
  part-spells i less =
      let line : frame_part text (frames_of index) i ≡ line_at text i = part-is-line h i (omega (arith, less, file-frames P)) refl in
      ap (λ l. bytes_from l 0) line ∙ bytes-start (line_at text i) ∙ line-is-frame text h.read i (look_at (file_frames P) i [] less)

  lines-taken : (i : ℕ) → i ≤ length (file_frames P) → strict_lines text index i ≡ spell_all line_text (take i (file_frames P))
  unfolding strict_lines spell_all
  lines-taken zero le = refl
  lines-taken (suc i) le =
      let frames = file_frames P in
      let line : List ℕ = frame_part text (frames_of index) i in
      ap (λ l. l ++ strict_line line) (lines-taken i (omega arith)) ∙ ap (λ bs. spell_all line_text (take i frames) ++ line_text bs) (part-spells i (omega arith))
      ∙ sym (spell-more line_text (take i frames) (get_or frames i [])) ∙ ap (spell_all line_text) (sym (take-suc frames i [] (omega arith)))

  frames-many : frames_indexed index ≡ length (file_frames P)
  frames-many = let n = h.counted in omega (arith, n.type_count, n.function_count, n.input_count, n.node_count, file-frames P)

  file-lines : {frames : ℕ} → frames ≡ frames_indexed index → strict_lines text index frames ≡ file_text P
  unfolding file_text
  file-lines {frames} e =
      ap (strict_lines text index) (e ∙ frames-many) ∙ lines-taken (length (file_frames P)) (omega arith) ∙ ap (spell_all line_text) (take_all (length (file_frames P)) (file_frames P) (omega arith))

-- ---- the call behind the reader
abbrev behind : List ℕ → Result File → Written
behind buffer o = in_buffer (bind o (λ P. need (leb (length (file_text P)) (length buffer)) buffer_short no_frame (ok (file_text P)))) buffer

-- a file that was read, and a buffer of zeros
module _ {text index : List ℕ} (z : ReadIndexed text index) {frames : ℕ} (count : frames ≡ frames_indexed index) where
  is-file : strict_lines text index frames ≡ file_text z.file
  is-file = file-lines z.indexed count

  pub lines-short : length (strict_lines text index frames) ≤ text_most
  lines-short = omega (arith, ap length is-file, z.indexed.within.text)

  module _ {buffer : List ℕ} (empty : Cleared buffer) where
    written : write text buffer ≡ in_buffer (need (leb (length (file_text z.file)) (length buffer)) buffer_short no_frame (ok (file_text z.file))) buffer
    unfolding write strict_text bind
    written = ap (behind buffer) z.indexed.read

    pub buffer-short : {n : ℕ} {r : Answer} → n ≡ length (strict_lines text index frames) → length buffer < n → r ≡ refusal_of buffer_short no_frame → Writes text buffer r buffer
    unfolding need in_buffer answer
    buffer-short {n} {r} size less q =
        let short : leb (length (file_text z.file)) (length buffer) ≡ false = lt-leb (length (file_text z.file)) (length buffer) (omega (arith, size, less, ap length is-file)) in
        record {
          is = (λ i. record { answer = said (q i); buffer = empty.is i }) ∙ sym (written ∙ ap (λ b. in_buffer (need b buffer_short no_frame (ok (file_text z.file))) buffer) short);
        }

    pub text-written : {n : ℕ} {r : Answer} {buffer' : List ℕ} → n ≡ length (strict_lines text index frames) → n ≤ length buffer → buffer' ≡ sets buffer 0 (strict_lines text index frames) → r ≡ refusal_of no_refusal no_frame →
        Writes text buffer r buffer'
    unfolding need in_buffer answer
    text-written {n} {r} {buffer'} size le put q =
        let whole : List ℕ = file_text z.file in
        let room : length whole ≤ length buffer = omega (arith, size, le, ap length is-file) in
        let blank : buffer ≡ padded (length buffer) [] = empty.is ∙ sym (padded-none (length buffer)) in
        let stored : buffer' ≡ padded (length buffer) whole = put ∙ ap (sets buffer 0) is-file ∙ ap (λ l. sets l 0 whole) blank ∙ padded-sets (length buffer) [] whole (omega (arith, room)) in
        record {
          is = (λ i. record { answer = said (q i); buffer = stored i }) ∙ sym (written ∙ ap (λ b. in_buffer (need b buffer_short no_frame (ok whole)) buffer) (le-leb _ _ room));
        }

-- ---- from the text on: a buffer counts by its length alone
module _ (buffer : List ℕ) {buffer₁ : List ℕ} (cleared : buffer₁ ≡ replicate (length buffer) 0) where
  pub is-cleared : Cleared buffer₁
  is-cleared = record { is = own_zeros buffer cleared }

  same-buffer : (o : Result (List ℕ)) → in_buffer o buffer₁ ≡ in_buffer o buffer
  unfolding in_buffer
  same-buffer (ok s) = ap (λ n. record { answer = answer done; buffer = padded n s }) (as_long buffer cleared)
  same-buffer (no m frame) = ap (λ n. record { answer = answer (refusal m frame); buffer = replicate n 0 }) (as_long buffer cleared)

  pub write_done : {text buffer' : List ℕ} {r : Answer} → Writes text buffer₁ r buffer' → Writes text buffer r buffer'
  unfolding write
  write_done {text} w = record { is = w.is ∙ ap (λ n. in_buffer (strict_text text n) buffer₁) (as_long buffer cleared) ∙ same-buffer (strict_text text (length buffer)) }

  pub write-unread : {text index : List ℕ} {x : Reading} {r : Answer} {a : RefusalAt} → TextRead text x index (read_file text) → x ≡ Err a → r ≡ answer_of x → Writes text buffer r buffer₁
  unfolding write strict_text bind in_buffer answer answer_of
  write-unread {text} v q e = record {
    is = (λ i. record { answer = said ((e ∙ ap answer_of q) i); buffer = cleared i }) ∙ sym (ap (behind buffer) (read-fault v q));
  }
