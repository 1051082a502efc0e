-- Lines as parts of a text, and what the pass over a whole text answers (document 01, "By place": refusals 1 and 2).
use Rattle.std.specs.Prelude.{Option as Maybe, Result as Outcome}
use Rattle.language.specs.declared.refusals.RefusalAt.{RefusalAt}
use Rattle.text_lines.specs.declared.FrameCounts.{FrameCounts}
use Rattle.text_lines.specs.declared.rule_lines.RuleLine.{RuleLine}
use Rattle.std.specs.Prelude.{Some, None}
use Rattle.std.specs.Prelude.{ℕ, suc, ◌+◌, ◌≤◌, List, [], ◌∷◌, ◌++◌, Bool, true, false, not, ◌≡◌, length, get_or, drop, replicate, eqb, ltb, leb}
use Rattle.std.proofs.Math.Option.{Option, none, some}
use Rattle.language.specs.Limits.{text_most}
use Rattle.language.specs.Refusals.{no_frame, text_too_long}
use Rattle.language.specs.Codes.{line_feed}
use Rattle.language.specs.Result.{Result, ok, no, need, both, choose}
use Rattle.language.specs.Text.{digit, line_bytes, text_frames}
use Rattle.language.specs.Reader.{is_channel, channel_count}

-- where a line ends, if it is a good one; a line of a rule file, if it is; a text judged as a whole
abbrev pub LineEnd : Type 0
LineEnd = Maybe ℕ

abbrev pub LineRead : Type 0
LineRead = Maybe RuleLine

abbrev pub Judged : Type 0
Judged = Outcome FrameCounts RefusalAt

-- the characters before the first LF
unfoldable pub first_line : List ℕ → List ℕ
first_line [] = []
first_line (c ∷ t) = choose (eqb c line_feed) [] (c ∷ first_line t)

-- where the line behind the one at a place starts
abbrev pub next_line : List ℕ → ℕ → ℕ
next_line t at = at + length (first_line (drop at t)) + 1

unfoldable pub is_some : {A : Type 0} → Option A → Bool
is_some (some a) = true
is_some none = false

-- for each character 1 where it is a digit, else 0
abbrev pub digit_marks : List ℕ
digit_marks = replicate 0x30 0 ++ replicate 10 1 ++ replicate 7 0 ++ replicate 6 1 ++ replicate 0xB9 0

-- which characters are digits: those of a strict line, and those that marks name
abbrev pub strict_digit : ℕ → Bool
strict_digit c = is_some (digit c)

abbrev pub marked : List ℕ → ℕ → Bool
marked marks c = not (eqb (get_or marks c 0) 0)

-- so many characters at the start are pairs of digits
unfoldable pub digit_pairs : (ℕ → Bool) → List ℕ → ℕ
digit_pairs d [] = 0
digit_pairs d (a ∷ []) = 0
digit_pairs d (a ∷ b ∷ l) = choose (both (d a) (d b)) (suc (suc (digit_pairs d l))) 0

-- from one place to another there are only pairs of digits: the count from the first goes on at the second
pub record PairsTo (marks t : List ℕ) (at end : ℕ) : Type 0 where
  pub from : at ≤ end
  pub within : end ≤ length t
  pub is : at + digit_pairs (marked marks) (drop at t) ≡ end + digit_pairs (marked marks) (drop end t)

-- where the line from a place on ends, if LF ends it and it has bytes
unfoldable pub line_end : List ℕ → ℕ → LineEnd
line_end t at = let l = first_line (drop at t) in choose (both (ltb (length l) (length (drop at t))) (is_some (line_bytes l))) (Some (at + length l)) None

-- 1 for the frame of a channel, 0 for any other
abbrev pub channels_of : List ℕ → ℕ
channels_of bs = choose (is_channel bs) 1 0

-- "Text is judged as a whole": how many frames it has and how many of them are channels, or its refusal
unfoldable pub judged : Result (List (List ℕ)) → Result FrameCounts
judged (ok fs) = ok (record { frames = length fs; channels = channel_count fs })
judged (no number frame) = no number frame

unfoldable pub judgement : List ℕ → Result FrameCounts
judgement t = judged (need (leb (length t) text_most) text_too_long no_frame (text_frames t))
