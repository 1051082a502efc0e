-- The frames of a rule file from a line on: an extra line adds none, a frame's line adds its own, a bad one refuses the text.
use Rattle.std.specs.Prelude.{ℕ, suc, ◌≤◌, ◌<◌, List, [], ◌∷◌, true, false, ◌≡◌, refl, length, drop}
use Rattle.std.proofs.Common.{sym, ap, ◌∙◌, arith, drop_of_length-le}
use Rattle.std.proofs.Math.ListN.{length-drop}
use Rattle.language.specs.Refusals.{bad_line}
use Rattle.language.specs.Result.{ok, no, bind, need, from, choose}
use Rattle.language.specs.Text.{is_empty, lines_of, frame_bytes, is_extra, frame_lines, frames_in, text_frames}
use Rattle.text_lines.specs.declared.rule_lines.FrameEnd.{FrameEnd}
use Rattle.text_lines.specs.Lines.{first_line, next_line}
use Rattle.text_lines.specs.LinesEnd.{behind, first-line-ended, first-line-last, behind-next, no-rest-allowed}
use Rattle.text_lines.specs.RuleLines.{line_chars, frames_behind}
use Rattle.text_lines.specs.RuleAnswers.{RuleExtra, RuleFrame, RuleBad, unended, unspelled}

pub frames-of-text : (t : List ℕ) → text_frames t ≡ frames_behind 1 t
unfolding text_frames
frames-of-text t = refl

-- ---- by the first line
pub no-lines-behind : (k : ℕ) → frames_behind k [] ≡ ok []
unfolding lines_of frame_lines frames_in is_empty need
no-lines-behind k = refl

extra-first : (k : ℕ) (t : List ℕ) → length (first_line t) < length t → is_extra (line_chars t) ≡ true → frames_behind k t ≡ frames_behind k (behind t)
unfolding frame_lines choose
extra-first k t h e = rw (first-line-ended t h, e)

frame-first : (k : ℕ) (t : List ℕ) → length (first_line t) < length t → is_extra (line_chars t) ≡ false →
    frames_behind k t ≡ from (frame_bytes (line_chars t)) bad_line k (λ bs. bind (frames_behind (suc k) (behind t)) (λ fs. ok (bs ∷ fs)))
unfolding frame_lines frames_in choose
frame-first k t h e = rw (first-line-ended t h, e)

unended-first : (k : ℕ) (t : List ℕ) → 0 < length t → length t ≤ length (first_line t) → frames_behind k t ≡ no bad_line k
unfolding frame_lines frames_in
unended-first k t h last = rw (first-line-last t last) (no-rest-allowed k (ok []) t h)

-- ---- by the line at a place
module _ (t : List ℕ) (at : ℕ) where
  moved : {next : ℕ} → next ≡ next_line t at → (k : ℕ) → frames_behind k (behind (drop at t)) ≡ frames_behind k (drop next t)
  moved place k = ap (λ l. frames_behind k l) (behind-next t at ∙ ap (λ n. drop n t) (sym place))

  pub frames-end : length t ≤ at → (k : ℕ) → frames_behind k (drop at t) ≡ ok []
  frames-end h k = ap (λ l. frames_behind k l) (drop_of_length-le t {i = at} h) ∙ no-lines-behind k

  pub frames-behind-extra : {next : ℕ} → RuleExtra t at next → (k : ℕ) → frames_behind k (drop at t) ≡ frames_behind k (drop next t)
  frames-behind-extra x k = extra-first k (drop at t) x.ended x.extra ∙ moved x.place k

  pub frames-behind-frame : {f : FrameEnd} → (n : RuleFrame t at f) → (k : ℕ) → frames_behind k (drop at t) ≡ bind (frames_behind (suc k) (drop f.next t)) (λ fs. ok (n.frame ∷ fs))
  unfolding from
  frames-behind-frame n k =
      frame-first k (drop at t) n.ended n.counted ∙ rw n.spelled (ap (λ r. bind r (λ fs. ok (n.frame ∷ fs))) (moved n.place (suc k)))

  pub frames-refused : at < length t → RuleBad t at → (k : ℕ) → frames_behind k (drop at t) ≡ no bad_line k
  unfolding from
  frames-refused h (unended last) k = unended-first k (drop at t) (omega (arith, length-drop at t)) last
  frames-refused h (unspelled ended counted none) k = frame-first k (drop at t) ended counted ∙ rw none
