-- Demand 2 of `write`, and what document 02, R-1, says of texts and their strict texts.
use Rattle.std.specs.Prelude.{ℕ, ◌≤◌, ◌<◌, List, ◌↔◌, ◌≡◌, length}
use Rattle.language.specs.Refusals.{no_refusal, text_too_long, no_base_constructor, buffer_short}
use Rattle.language.specs.Result.{ok}
use Rattle.language.specs.Syntax.{File}
use Rattle.language.specs.Format.{file_text}
use Rattle.language.specs.Within.{Within}
use Rattle.language.specs.Text.{text_frames}
use Rattle.language.specs.Reader.{read_file}
use Rattle.language.specs.Layout.{padded}
use Rattle.language.specs.Machine.{answer, done}
use Rattle.language.specs.Writer.{Written, write}
use Rattle.language.specs.Acceptance.{TextOf}

-- demand 2 of what `write` answers and leaves, each place by its condition
pub record WriterDemand (t buffer : List ℕ) (r : Written) : Type 0 where
  -- "from any file the reader accepts through refusal 8": 1 to 8 of no file
  pub text : ((text_too_long ≤ r.answer.number) × (r.answer.number ≤ no_base_constructor)) ↔ ((P : File) → TextOf P t → ⊥)
  -- "24, lent buffer shorter than the strict text, tested last"
  pub short : (r.answer.number ≡ buffer_short) ↔ ((P : File) × TextOf P t × (length buffer < length (file_text P)))
  pub done : (r.answer.number ≡ no_refusal) ↔ ((P : File) × TextOf P t × (length (file_text P) ≤ length buffer))
  -- "past the text the buffer is zero"
  pub writes : (P : File) → TextOf P t → length (file_text P) ≤ length buffer → r.buffer ≡ padded (length buffer) (file_text P)

-- what R-1 says of texts, for all of them
pub record StrictTexts : Type 0 where
  -- the reader gives a file exactly when the text's frames are the file's, the text is not too long, and the file is within the limits
  pub reads : (t : List ℕ) (P : File) → (read_file t ≡ ok P) ↔ TextOf P t
  -- "Two files have equal strict text when their frames are equal, and only then"
  pub equal : (t u : List ℕ) (P Q : File) → read_file t ≡ ok P → read_file u ≡ ok Q → (file_text P ≡ file_text Q) ↔ (text_frames t ≡ text_frames u)
  -- "writing a strict text gives it back"
  pub strict : (P : File) → Within P → read_file (file_text P) ≡ ok P
  pub back : (P : File) → Within P → (buffer : List ℕ) → length (file_text P) ≤ length buffer → write (file_text P) buffer ≡ record { answer = answer done; buffer = padded (length buffer) (file_text P) }
  -- what was written is read as the same file
  pub again : (t : List ℕ) (P : File) → read_file t ≡ ok P → read_file (file_text P) ≡ ok P
  -- the strict text is never longer than the text
  pub no_longer : (t : List ℕ) (P : File) → read_file t ≡ ok P → length (file_text P) ≤ length t
