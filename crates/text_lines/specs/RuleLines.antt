-- The line of a rule file at a place: document 02, R-1, by the definitions of its characters, its end and its bytes.
use Rattle.std.specs.Prelude.{Some, None}
use Rattle.std.specs.Prelude.{ℕ, ◌+◌, List, ◌++◌, Bool, length, drop, replicate, ltb}
use Rattle.std.proofs.Math.Option.{Option}
use Rattle.language.specs.Result.{Result, both, choose}
use Rattle.language.specs.Text.{is_empty, any_digit, frame_bytes, without_return, is_extra, frame_lines, frames_in, lines_of}
use Rattle.text_lines.specs.Lines.{LineEnd}
use Rattle.text_lines.specs.Lines.{LineRead}
use Rattle.text_lines.specs.declared.rule_lines.RuleLine.TheVariants.{Extra, Frame}
use Rattle.text_lines.specs.Lines.{first_line, next_line, is_some}

-- ---- the parts that code looks for
-- a digit of either case
abbrev pub wide_digit : ℕ → Bool
wide_digit c = is_some (any_digit c)

-- for each character 1 where it is a digit of either case, else 0
abbrev pub any_digit_marks : List ℕ
any_digit_marks = replicate 0x30 0 ++ replicate 10 1 ++ replicate 7 0 ++ replicate 6 1 ++ replicate 26 0 ++ replicate 6 1 ++ replicate 0x99 0

-- ---- the line at a place
-- its characters, without its end
abbrev pub line_chars : List ℕ → List ℕ
line_chars t = without_return (first_line t)

-- LF ends it
abbrev pub is_ended : List ℕ → Bool
is_ended t = ltb (length (first_line t)) (length t)

-- where the next one starts, if it has no characters
unfoldable pub line_close : List ℕ → ℕ → LineEnd
line_close t at = choose (both (is_ended (drop at t)) (is_empty (line_chars (drop at t)))) (Some (next_line t at)) None

-- a frame's, if LF ends it and its characters spell what is asked: the bytes of a frame, or those behind a pair
unfoldable pub line_from : (List ℕ → Option (List ℕ)) → ℕ → List ℕ → LineRead
line_from asked at l = choose (both (is_ended l) (is_some (asked (line_chars l)))) (Some (Frame (record { end = at + length (line_chars l); next = at + length (first_line l) + 1 }))) None

-- the line at a place as a frame's
abbrev pub frame_line : List ℕ → ℕ → LineRead
frame_line t at = line_from frame_bytes at (drop at t)

-- no frame, a frame's, or one that is refused
unfoldable pub rule_line : List ℕ → ℕ → LineRead
rule_line t at = choose (both (is_ended (drop at t)) (is_extra (line_chars (drop at t)))) (Some (Extra (next_line t at))) (frame_line t at)

-- a frame's line whose characters end at a place
unfoldable pub frame_at : ℕ → LineEnd → LineRead
frame_at end (Some next) = Some (Frame (record { end = end; next = next }))
frame_at end None = None

abbrev pub frame_close : List ℕ → ℕ → LineRead
frame_close t end = frame_at end (line_close t end)

-- ---- the frames of a text
-- those of the lines from a place on, the first being number k
abbrev pub frames_behind : ℕ → List ℕ → Result (List (List ℕ))
frames_behind k t = frames_in k (frame_lines (lines_of t).ended) (lines_of t).rest
