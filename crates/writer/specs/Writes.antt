-- What the call `write` promises, and what its parts store: the strict text, line by line.
use Rattle.std.specs.Prelude.{ℕ, zero, suc, ◌+◌, List, [], ◌++◌, ◌≡◌, length, replicate}
use Rattle.std.proofs.lemmas.List.Edits.{sets}
use Rattle.language.specs.Format.{line_text}
use Rattle.language.specs.Writer.{Written, write}
use Rattle.text.specs.Bytes.{bytes_from}
use Rattle.index.specs.Sections.{counts_in, frames_of}
use Rattle.index.specs.Indexed.{frame_part}
use Rattle.answers.specs.declared.Answer.{Answer}
use Rattle.answers.specs.Boards.{said}

-- ---- the promise of the public function
pub record Writes (text buffer : List ℕ) (r : Answer) (buffer' : List ℕ) : Type 0 where
  pub is : ◌≡◌ {A = Written} (record { answer = said r; buffer = buffer' }) (write text buffer)

-- ---- the strict text, as far as an index names frames
abbrev pub frames_indexed : List ℕ → ℕ
frames_indexed index = (counts_in index).types + (counts_in index).functions + (counts_in index).inputs + (counts_in index).nodes

-- of the bytes that a line spells
abbrev pub strict_line : List ℕ → List ℕ
strict_line line = line_text (bytes_from line 0)

-- of the first n frames
unfoldable pub strict_lines : List ℕ → List ℕ → ℕ → List ℕ
strict_lines text index zero = []
strict_lines text index (suc n) = strict_lines text index n ++ strict_line (frame_part text (frames_of index) n)

-- ---- the parts
pub record Cleared (buffer : List ℕ) : Type 0 where
  pub is : buffer ≡ replicate (length buffer) 0

-- a line stored from a place on, and the place behind it
pub record PutsLine (line : List ℕ) (from : ℕ) (buffer : List ℕ) (r : ℕ) (buffer' : List ℕ) : Type 0 where
  pub place : r ≡ from + length (strict_line line)
  pub is : buffer' ≡ sets buffer from (strict_line line)
