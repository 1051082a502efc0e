-- Demands 1 and 2 of `write`, for every text and buffer: of no file 1 to 8, of a file whose strict text does not fit 24, else 0 and the
-- strict text with zeros behind it.
use Rattle.std.specs.Prelude.{ℕ, ◌≤◌, ◌<◌, List, Bool, true, false, ◌≡◌, refl, length, leb}
use Rattle.std.proofs.Common.{sym, ap, ◌∙◌, arith, leb-true, leb-false}
use Rattle.std.proofs.lemmas.List.{length-replicate}
use Rattle.language.specs.Refusals.{no_frame, buffer_short}
use Rattle.language.specs.Result.{Result, ok, no, bind, need}
use Rattle.language.specs.Syntax.{File}
use Rattle.language.specs.Format.{file_text}
use Rattle.language.specs.Reader.{read_file}
use Rattle.language.specs.Layout.{padded}
use Rattle.language.specs.Machine.{answer}
use Rattle.language.specs.Writer.{strict_text, in_buffer, write}
use Rattle.language.specs.Answers.{WriteAnswers}
use Rattle.language.specs.Acceptance.{TextOf}
use Rattle.language.specs.Writing.{WriterDemand}
use Rattle.theory.specs.Tests.{no_ok}
use Rattle.theory.specs.Padding.{padded-length}
use Rattle.theory.specs.FrameNumbers.{no-frame-named}
use Rattle.theory.specs.ReaderExact.{reader-forth, reader-back, one-file}
use Rattle.theory.specs.ReaderRefusals.{reader-refusals, reader-frames}

-- what the writer comes to, with its condition. Of the conditions one alone holds.
data Placed (t : List ℕ) (room : ℕ) : Result (List ℕ) → Type 0 where
  at_text : {n frame : ℕ} → read_file t ≡ no n frame → Placed t room (no n frame)
  at_buffer : {P : File} → TextOf P t → room < length (file_text P) → Placed t room (no buffer_short no_frame)
  at_end : {P : File} → TextOf P t → length (file_text P) ≤ room → Placed t room (ok (file_text P))

placed : (t : List ℕ) (room : ℕ) → Placed t room (strict_text t room)
unfolding strict_text bind need
placed t room = by-reading (read_file t) refl
  where
    by-room : {P : File} → TextOf P t → (fits : Bool) → leb (length (file_text P)) room ≡ fits → Placed t room (need fits buffer_short no_frame (ok (file_text P)))
    by-room {P} is true e = at_end is (leb-true (length (file_text P)) room e)
    by-room {P} is false e = at_buffer is (leb-false (length (file_text P)) room e)

    by-reading : (r : Result File) → read_file t ≡ r → Placed t room (bind r (λ P. need (leb (length (file_text P)) room) buffer_short no_frame (ok (file_text P))))
    by-reading (no n frame) e = at_text e
    by-reading (ok P) e = by-room (reader-forth t P e) (leb (length (file_text P)) room) refl

-- ---- demand 1
answers-placed : {t : List ℕ} (buffer : List ℕ) {r : Result (List ℕ)} → Placed t (length buffer) r → WriteAnswers t buffer (in_buffer r buffer)
unfolding in_buffer answer
answers-placed {t} buffer (at_text e) = let r = reader-refusals t e in record {
  answers = record { most = omega (arith, r.most); gap = λ more. absurd (omega (arith, r.most)); bounds = refl; frame = reader-frames t e };
  buffer_long = length-replicate (length buffer) 0;
  refused_buffer = λ _. refl;
}
answers-placed buffer (at_buffer is less) = record {
  answers = record { most = omega arith; gap = λ _. refl; bounds = refl; frame = no-frame-named (λ _. omega arith) (λ _. omega arith) };
  buffer_long = length-replicate (length buffer) 0;
  refused_buffer = λ _. refl;
}
answers-placed buffer (at_end {P} is fits) = record {
  answers = record { most = omega arith; gap = λ more. absurd (omega arith); bounds = refl; frame = no-frame-named (λ more. absurd (omega arith)) (λ more. absurd (omega arith)) };
  buffer_long = padded-length (length buffer) (file_text P);
  refused_buffer = λ refused. absurd (refused refl);
}

pub write-answers : (t buffer : List ℕ) → WriteAnswers t buffer (write t buffer)
unfolding write
write-answers t buffer = answers-placed buffer (placed t (length buffer))

-- ---- demand 2
-- a text has one strict text
one-length : {t : List ℕ} {P Q : File} → TextOf P t → TextOf Q t → length (file_text P) ≡ length (file_text Q)
one-length p q = ap (λ (P : File). length (file_text P)) (one-file p q)

demand-placed : {t : List ℕ} (buffer : List ℕ) {r : Result (List ℕ)} → Placed t (length buffer) r → WriterDemand t buffer (in_buffer r buffer)
unfolding in_buffer answer
demand-placed {t} buffer (at_text {n} {frame} e) =
    let r = reader-refusals t e in
    let none : (P : File) → TextOf P t → ⊥ = λ P is. no_ok (sym e ∙ reader-back is) in
    record {
      text = ((λ _. none), λ _. (r.least, r.most));
      short = ((λ is. absurd (omega (arith, r.most))), λ c. absurd (none c.0 c.1));
      done = ((λ is. absurd (omega (arith, r.least))), λ c. absurd (none c.0 c.1));
      writes = λ P is _. absurd (none P is);
    }
demand-placed buffer (at_buffer {P} is less) = record {
  text = ((λ c. absurd (let low = c.1 in omega arith)), λ none. absurd (none P is));
  short = ((λ _. (P, is, less)), λ _. refl);
  done = ((λ zero. absurd (omega arith)), λ c. absurd (omega (arith, c.2, one-length is c.1)));
  writes = λ Q too fits. absurd (omega (arith, one-length is too));
}
demand-placed buffer (at_end {P} is fits) = record {
  text = ((λ c. absurd (let low = c.0 in omega arith)), λ none. absurd (none P is));
  short = ((λ zero. absurd (omega arith)), λ c. absurd (omega (arith, c.2, one-length is c.1)));
  done = ((λ _. (P, is, fits)), λ _. refl);
  writes = λ Q too _. ap (λ (R : File). padded (length buffer) (file_text R)) (one-file is too);
}

pub writer-demand : (t buffer : List ℕ) → WriterDemand t buffer (write t buffer)
unfolding write
writer-demand t buffer = demand-placed buffer (placed t (length buffer))
