-- The part of a frame, cut out of the text: where its words go beyond the text, what the text has of it. In an indexed text it is
-- the frame's line.
use Rattle.std.specs.Prelude.{ℕ, ◌+◌, ◌-◌, ◌≤◌, ◌<◌, List, ◌≡◌, length, drop}
use Rattle.std.proofs.Common.{sym, ap, ◌∙◌, arith, length-drop, drop_of_length-le, take_all}
use Rattle.std.proofs.Math.Path.{ap₂}
use Rattle.std.proofs.Math.ListN.{take}
use Rattle.std.proofs.Math.Seq.{drop-length}
use Rattle.language.specs.Syntax.{File}
use Rattle.encoding.specs.FrameLines.{line_at}
use Rattle.index.specs.Sections.{frames_of}
use Rattle.index.specs.Indexed.{frame_place, frame_length, frame_part, line_count, Indexed}

module _ (t frames : List ℕ) (i : ℕ) {p n : ℕ} (place : p ≡ frame_place frames i) (size : n ≡ frame_length frames i) where
  words-part : take n (drop p t) ≡ frame_part t frames i
  unfolding frame_part
  words-part = ap₂ (λ (m q : ℕ). take m (drop q t)) size place

  pub part-beyond : length t ≤ p → take (length t - length t) (drop (length t) t) ≡ frame_part t frames i
  part-beyond le =
      let none : drop (length t) t ≡ drop p t = drop-length t ∙ sym (drop_of_length-le t {i = p} le) in
      take_all (length t - length t) (drop (length t) t) (omega (arith, length-drop (length t) t)) ∙ none ∙ sym (take_all n (drop p t) (omega (arith, length-drop p t))) ∙ words-part

  pub part_to_end : length t - p ≤ n → take (length t - p) (drop p t) ≡ frame_part t frames i
  part_to_end le = take_all (length t - p) (drop p t) (omega (arith, length-drop p t)) ∙ sym (take_all n (drop p t) (omega (arith, length-drop p t))) ∙ words-part

  pub part-whole : take (p + n - p) (drop p t) ≡ frame_part t frames i
  part-whole = let size : p + n - p ≡ n = omega arith in ap (λ m. take m (drop p t)) size ∙ words-part

-- in an indexed text
pub part-is-line : {text index : List ℕ} {P : File} → Indexed text index P → {r : List ℕ} (i : ℕ) → i < line_count P → r ≡ frame_part text (frames_of index) i → r ≡ line_at text i
part-is-line h i less part = part ∙ (h.each_frame i less).line
