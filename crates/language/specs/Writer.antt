-- The call `write`: from a text and a lent buffer to the answer and the buffer's final contents. Document 02, R-1: "a writer that gives the
-- strict text of document 01 from any file the reader accepts through refusal 8".
use Rattle.std.specs.Prelude.{ℕ, List, length, leb}
use Rattle.language.specs.Refusals.{no_frame, buffer_short}
use Rattle.language.specs.Result.{Result, ok, no, bind, need}
use Rattle.language.specs.Format.{file_text}
use Rattle.language.specs.Reader.{read_file}
use Rattle.language.specs.Layout.{padded}
use Rattle.language.specs.Machine.{Answer, answer, done, refusal, zeros}

-- the strict text; "24, lent buffer shorter than the strict text, tested last"
unfoldable pub strict_text : List ℕ → ℕ → Result (List ℕ)
strict_text t room = bind (read_file t) (λ P. need (leb (length (file_text P)) room) buffer_short no_frame (ok (file_text P)))

pub record Written : Type 0 where
  pub answer : Answer
  pub buffer : List ℕ

-- "past the text the buffer is zero, on refusal all of it"
unfoldable pub in_buffer : Result (List ℕ) → List ℕ → Written
in_buffer (ok s) buffer = record { answer = answer done; buffer = padded (length buffer) s }
in_buffer (no n frame) buffer = record { answer = answer (refusal n frame); buffer = zeros buffer }

unfoldable pub write : List ℕ → List ℕ → Written
write t buffer = in_buffer (strict_text t (length buffer)) buffer
