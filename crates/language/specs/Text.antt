-- The lines of a text and the bytes that they spell. An input line is strict: document 01, "The rule file". The lines of a rule file are
-- those of an ordinary editor: document 02, R-1.
use Rattle.std.specs.Prelude.{ℕ, suc, ◌+◌, ◌-◌, ◌*◌, List, [], ◌∷◌, Bool, true, false, leb, eqb}
use Rattle.std.proofs.Math.Option.{Option, none, some}
use Rattle.language.specs.Refusals.{bad_line}
use Rattle.language.specs.Codes.{digit_base, line_feed, space, carriage_return, semicolon}
use Rattle.language.specs.Result.{Result, ok, bind, need, from, both, when, choose}

unfoldable pub is_empty : {A : Type 0} → List A → Bool
is_empty [] = true
is_empty (a ∷ l) = false

-- the lines that end with LF, without it, and what stands after the last LF
pub record Lines : Type 0 where
  pub ended : List (List ℕ)
  pub rest : List ℕ

unfoldable pub longer : ℕ → List (List ℕ) → List ℕ → Lines
longer c [] rest = record { ended = []; rest = c ∷ rest }
longer c (l ∷ ls) rest = record { ended = (c ∷ l) ∷ ls; rest = rest }

unfoldable pub lines_of : List ℕ → Lines
lines_of [] = record { ended = []; rest = [] }
lines_of (c ∷ t) = let ls = lines_of t in choose (eqb c line_feed) (record { ended = [] ∷ ls.ended; rest = ls.rest }) (longer c ls.ended ls.rest)

-- ---- strict lines
-- an upper-case hexadecimal digit
unfoldable pub digit : ℕ → Option ℕ
digit c = choose (both (leb 0x30 c) (leb c 0x39)) (some (c - 0x30)) (when (both (leb 0x41 c) (leb c 0x46)) (c - 0x37))

unfoldable pub pair : Option ℕ → Option ℕ → Option (List ℕ) → Option (List ℕ)
pair (some a) (some b) (some l) = some ((a * digit_base + b) ∷ l)
pair (some a) (some b) none = none
pair (some a) none l = none
pair none b l = none

unfoldable pub pairs : List ℕ → Option (List ℕ)
pairs [] = some []
pairs (a ∷ []) = none
pairs (a ∷ b ∷ l) = pair (digit a) (digit b) (pairs l)

-- the bytes of a strict line: "a line empty, odd, not hexadecimal" has none
unfoldable pub line_bytes : List ℕ → Option (List ℕ)
line_bytes [] = none
line_bytes (c ∷ l) = pairs (c ∷ l)

-- ---- lines of a rule file
-- "lower-case digits"
unfoldable pub any_digit : ℕ → Option ℕ
any_digit c = choose (both (leb 0x61 c) (leb c 0x66)) (some (c - 0x57)) (digit c)

-- "spaces between pairs (none before the first or after the last)"
unfoldable mutual
  -- a pair whose first character is a, and what stands behind it
  pub pair_at : ℕ → List ℕ → Option (List ℕ)
  pair_at a [] = none
  pair_at a (b ∷ l) = pair (any_digit a) (any_digit b) (behind_pair l)

  -- the line's end, a space or the next pair
  pub behind_pair : List ℕ → Option (List ℕ)
  behind_pair [] = some []
  behind_pair (c ∷ l) = let further = behind_space l in let next = pair_at c l in choose (eqb c space) further next

  -- another space or the next pair
  pub behind_space : List ℕ → Option (List ℕ)
  behind_space [] = none
  behind_space (c ∷ l) = let further = behind_space l in let next = pair_at c l in choose (eqb c space) further next

-- the bytes of a frame's line
unfoldable pub frame_bytes : List ℕ → Option (List ℕ)
frame_bytes [] = none
frame_bytes (c ∷ l) = pair_at c l

-- "CR LF": a CR directly before LF belongs to the end of the line
-- a character, and l, what is kept of those behind it; the last one is not kept where it is CR
unfoldable pub last_or_more : ℕ → List ℕ → List ℕ → List ℕ
last_or_more c [] l = choose (eqb c carriage_return) [] (c ∷ [])
last_or_more c (d ∷ ds) l = c ∷ l

unfoldable pub without_return : List ℕ → List ℕ
without_return [] = []
without_return (c ∷ l) = last_or_more c l (without_return l)

-- "empty lines, and lines that start with a semicolon": no frames
unfoldable pub is_extra : List ℕ → Bool
is_extra [] = true
is_extra (c ∷ l) = eqb c semicolon

-- the lines of the frames: "Frames are counted without those extra lines"
unfoldable pub frame_lines : List (List ℕ) → List (List ℕ)
frame_lines [] = []
frame_lines (l ∷ ls) = let line = without_return l in let others = frame_lines ls in choose (is_extra line) others (line ∷ others)

-- the bytes of frames; the first bad line is named, and "a last line without LF is 2 and counts as a frame"
unfoldable pub frames_in : ℕ → List (List ℕ) → List ℕ → Result (List (List ℕ))
frames_in frame [] rest = need (is_empty rest) bad_line frame (ok [])
frames_in frame (l ∷ ls) rest = from (frame_bytes l) bad_line frame (λ bs. bind (frames_in (suc frame) ls rest) (λ fs. ok (bs ∷ fs)))

-- the frames of a text, each by its bytes, or refusal 2 with its frame
unfoldable pub text_frames : List ℕ → Result (List (List ℕ))
text_frames t = frames_in 1 (frame_lines (lines_of t).ended) (lines_of t).rest
