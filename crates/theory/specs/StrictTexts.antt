-- Document 02, R-1: texts are of one file exactly when their frames are equal; the strict text of a file is one of its texts, the
-- shortest, and is given back by the writer.
use Rattle.std.specs.Prelude.{ℕ, ◌≤◌, List, ◌≡◌, length}
use Rattle.std.proofs.Common.{sym, ap, ◌∙◌, le-leb}
use Rattle.language.specs.Result.{ok, bind, need}
use Rattle.language.specs.Syntax.{File}
use Rattle.language.specs.Format.{file_frames, file_text}
use Rattle.language.specs.Within.{Within}
use Rattle.language.specs.Text.{text_frames}
use Rattle.language.specs.Layout.{padded}
use Rattle.language.specs.Machine.{answer, done}
use Rattle.language.specs.Writer.{strict_text, in_buffer, write}
use Rattle.language.specs.Acceptance.{TextOf}
use Rattle.language.specs.Writing.{StrictTexts}
use Rattle.theory.specs.ReaderExact.{reader-forth, reader-back, reader-exact, one-file, strict-text, strict-no-longer, file_text-injective}

-- equal frames, equal strict texts
module _ {t u : List ℕ} {P Q : File} (p : TextOf P t) (q : TextOf Q u) where
  frames-then-texts : text_frames t ≡ text_frames u → file_text P ≡ file_text Q
  frames-then-texts e = ap file_text (one-file p (record { short = p.short; frames = e ∙ q.frames; within = q.within }))

  texts-then-frames : file_text P ≡ file_text Q → text_frames t ≡ text_frames u
  texts-then-frames e = p.frames ∙ ap (λ (R : File). ok (file_frames R)) (file_text-injective P Q p.within q.within e) ∙ sym q.frames

-- a strict text, written, is given back
given_back : (P : File) → Within P → (buffer : List ℕ) → length (file_text P) ≤ length buffer → write (file_text P) buffer ≡ record { answer = answer done; buffer = padded (length buffer) (file_text P) }
unfolding write strict_text bind need in_buffer
given_back P w buffer fits = rw (reader-back (strict-text P w), le-leb (length (file_text P)) (length buffer) fits)

pub strict-texts : StrictTexts
strict-texts = record {
  reads = reader-exact;
  equal = λ t u P Q read too. let p = reader-forth t P read in let q = reader-forth u Q too in (texts-then-frames p q, frames-then-texts p q);
  strict = λ P w. reader-back (strict-text P w);
  back = given_back;
  again = λ t P read. reader-back (strict-text P (reader-forth t P read).within);
  no_longer = λ t P read. strict-no-longer (reader-forth t P read);
}
