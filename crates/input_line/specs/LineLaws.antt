-- A text as one line with its LF, and nothing behind it, return by return.
use Rattle.std.specs.Prelude.{Some, None}
use Prim.Native.Nat.{ℕ, suc, ◌+◌, ◌-◌, ◌<◌}
use mathlib.Core.List.{List, [], ◌∷◌}
use Rattle.std.specs.Prelude.{Bool, eqb}
use Rattle.std.proofs.Math.Bool.{true, false}
use Rattle.std.proofs.Math.Option.{Option, none, some}
use Rattle.std.proofs.Math.Path.{◌≡◌, refl, sym, ap}
use Rattle.std.proofs.Common.{◌∙◌, length-take-le, ltb-true, ltb-false}
use native.Mathlib.Omega.{arith}
use Rattle.std.proofs.Math.ListN.{length, take, length-drop, drop_of_length-le}
use Rattle.std.proofs.Math.Dec.{ltb}
use Rattle.language.specs.Codes.{line_feed}
use Rattle.language.specs.Result.{both, when, chain, choose}
use Rattle.language.specs.Syntax.{File}
use Rattle.language.specs.Heap.{Tree}
use Rattle.language.specs.Text.{Lines, lines_of, longer, line_bytes}
use Rattle.language.specs.Line.{input_trees, trees_fit, one_line_of, line_trees}
use Rattle.theory.specs.HeldChannels.{input_types}
use Rattle.text_lines.specs.Lines.{LineEnd}
use Rattle.text.specs.Bytes.{bytes_of}
use Rattle.text_lines.specs.Lines.{is_some, first_line, line_end}
use Rattle.text_lines.specs.LinesEnd.{behind, first-line-ended, first-line-last}
use Rattle.text_lines.specs.LineBytes.{line-bytes-read}
use Rattle.text_lines.specs.LinesJudge.{line-ended}
use Rattle.input_line.specs.Judges.{InputsJudged, LineJudged}

-- ---- one line
-- the first line decides, or there are more
first-decides : {B : Type 0} (l : List ℕ) (ls : List (List ℕ)) (rest : List ℕ) (k : List ℕ → Option B) → k l ≡ none → chain (one_line_of (l ∷ ls) rest) k ≡ none
unfolding one_line_of chain
first-decides l [] [] k e = e
first-decides l [] (c ∷ rest) k e = refl
first-decides l (m ∷ ls) rest k e = refl

-- a character behind the first line begins another
longer-more : (l : List ℕ) (c : ℕ) (ls : List (List ℕ)) (rest : List ℕ) → one_line_of (l ∷ (longer c ls rest).ended) (longer c ls rest).rest ≡ none
unfolding longer one_line_of
longer-more l c [] rest = refl
longer-more l c (m ∷ ls) rest = refl

more-lines : (l t : List ℕ) → 0 < length t → one_line_of (l ∷ (lines_of t).ended) (lines_of t).rest ≡ none
unfolding lines_of choose one_line_of
more-lines l [] some-there = absurd (omega arith)
more-lines l (c ∷ t) some-there = cases (eqb c line_feed)
  where
    cases : (b : Bool) → one_line_of (l ∷ (choose b (record { ended = [] ∷ (lines_of t).ended; rest = (lines_of t).rest }) (longer c (lines_of t).ended (lines_of t).rest)).ended)
        (choose b (record { ended = [] ∷ (lines_of t).ended; rest = (lines_of t).rest }) (longer c (lines_of t).ended (lines_of t).rest)).rest ≡ none
    cases true = refl
    cases false = longer-more l c (lines_of t).ended (lines_of t).rest

-- what the definition makes of one line
abbrev trees_of : File → List ℕ → Option (List Tree)
trees_of P l = chain (line_bytes l) (λ bs. chain (input_trees P bs) (λ vs. when (trees_fit P vs (input_types P)) vs))

-- from the lines that the text has
lines-read : (P : File) (line : List ℕ) {ls : Lines} → lines_of line ≡ ls → line_trees P line ≡ chain (one_line_of ls.ended ls.rest) (trees_of P)
unfolding line_trees
lines-read P line e = rw e

module _ (line : List ℕ) {x : LineEnd} {end : ℕ} (v : x ≡ line_end line 0) (q : x ≡ Some end) where
  pub line-room : end < length line
  line-room = (line-ended line 0 v q).less

  pub line-part : end ≡ length (take end line)
  line-part = sym (length-take-le end line (omega (arith, line-room)))

  lines_are : lines_of line ≡ record { ended = first_line line ∷ (lines_of (behind line)).ended; rest = (lines_of (behind line)).rest }
  lines_are = let h = line-ended line 0 v q in first-line-ended line (omega (arith, h.less, h.place))

  -- what the definition reads of it
  pub line_read : (P : File) → length line - end ≡ 1 → line_trees P line ≡ chain (input_trees P (bytes_of (take end line))) (λ vs. when (trees_fit P vs (input_types P)) vs)
  unfolding chain one_line_of lines_of
  line_read P one = let h = line-ended line 0 v q in
      let none-there : behind line ≡ [] = drop_of_length-le line {i = suc (length (first_line line))} (omega (arith, h.less, h.place)) in
      let from_start : end - 0 ≡ end = omega arith in
      let part-is : take end line ≡ first_line line = ap (λ n. take n line) (sym from_start) ∙ h.is in
      lines-read P line lines_are ∙ rw (none-there, h.spelled, part-is, line-bytes-read (first_line line) h.frame h.spelled)

module _ (line index : List ℕ) {x : LineEnd} (v : x ≡ line_end line 0) where
  pub line-bad : x ≡ None → LineJudged line index false
  unfolding line_end line_trees both choose is_some chain one_line_of
  line-bad q = record { says = λ text P i. go P (ltb (length (first_line line)) (length line)) (line_bytes (first_line line)) refl refl (sym v ∙ q) }
    where
      go : (P : File) (a : Bool) (o : Option (List ℕ)) → ltb (length (first_line line)) (length line) ≡ a → line_bytes (first_line line) ≡ o → choose (both a (is_some o)) (Some (0 + length (first_line line))) None ≡ None → false ≡ is_some (line_trees P line)
      go P true (some bs) p o e = absurd (let z : ◌≡◌ {A = ℕ} 0 1 = cc in omega arith)
      go P true none p o e = sym (ap is_some (lines-read P line (first-line-ended line (ltb-true (length (first_line line)) (length line) p))
          ∙ first-decides (first_line line) (lines_of (behind line)).ended (lines_of (behind line)).rest (trees_of P) (rw o)))
      go P false o p q e = sym (ap is_some (lines-read P line (first-line-last line (ltb-false (length (first_line line)) (length line) p))))

  module _ {end : ℕ} (q : x ≡ Some end) where
    pub line-longer : ((length line - end ≡ 1) → ⊥) → LineJudged line index false
    unfolding line_trees chain is_some
    line-longer more = let h = line-ended line 0 v q in
        let some-there : 0 < length (behind line) = omega (arith, more, h.less, h.place, length-drop (suc (length (first_line line))) line) in
        record { says = λ text P i. sym (ap is_some (lines-read P line (lines_are line v q) ∙ ap (λ o. chain o (trees_of P)) (more-lines (first_line line) (behind line) some-there))) }

    pub line-whole : {part : List ℕ} {r : Bool} → length line - end ≡ 1 → part ≡ take end line → InputsJudged part index r → LineJudged line index r
    line-whole one is u = record { says = λ text P i. u.says text P i ∙ rw is (ap is_some (sym (line_read line v q P one))) }
