-- What the answer on a line of a rule file says of it: an extra line, a frame's, or one that is refused.
use Rattle.std.specs.Prelude.{Some, None}
use Rattle.std.specs.Prelude.{ℕ, ◌+◌, ◌-◌, ◌≤◌, ◌<◌, List, [], ◌∷◌, Bool, drop, eqb}
use Rattle.std.proofs.Math.Bool.{true, false}
use Rattle.std.proofs.Math.Option.{Option, none, some}
use Rattle.std.proofs.Math.Path.{◌≡◌, refl, sym, ap}
use Rattle.std.proofs.Common.{◌∙◌, arith, ltb-true, ltb-false}
use Rattle.std.proofs.Math.ListN.{length, take, length-drop}
use Rattle.language.specs.Codes.{line_feed, carriage_return}
use Rattle.language.specs.Result.{both, choose}
use Rattle.language.specs.Text.{frame_bytes, without_return, last_or_more, is_extra}
use Rattle.text_lines.specs.declared.rule_lines.FrameEnd.{FrameEnd}
use Rattle.text_lines.specs.Lines.{LineRead}
use Rattle.text_lines.specs.declared.rule_lines.RuleLine.TheVariants.{Extra, Frame}
use Rattle.text_lines.specs.Lines.{first_line, next_line, is_some}
use Rattle.text_lines.specs.RuleLines.{line_chars, is_ended, line_from, rule_line}

-- ---- the characters of a line are those that it begins with
chars-taken : (l : List ℕ) → take (length (line_chars l)) l ≡ line_chars l
unfolding first_line without_return last_or_more choose
chars-taken [] = refl
chars-taken (c ∷ l) = go (eqb c line_feed) (first_line l) (chars-taken l)
  where
    last : (b : Bool) → take (length (choose b [] (c ∷ []))) (c ∷ l) ≡ choose b [] (c ∷ [])
    last true = refl
    last false = refl

    go : (b : Bool) (k : List ℕ) → take (length (without_return k)) l ≡ without_return k → take (length (without_return (choose b [] (c ∷ k)))) (c ∷ l) ≡ without_return (choose b [] (c ∷ k))
    go true k inner = refl
    go false [] inner = last (eqb c carriage_return)
    go false (d ∷ k) inner = ap (λ m. c ∷ m) inner

pub return_fits : (l : List ℕ) → length (without_return l) ≤ length l
unfolding without_return last_or_more choose
return_fits [] = omega arith
return_fits (c ∷ []) = go (eqb c carriage_return)
  where
    go : (b : Bool) → length (choose b [] (c ∷ [])) ≤ 1
    go true = omega arith
    go false = omega arith
return_fits (c ∷ d ∷ l) = omega (arith, return_fits (d ∷ l))

pub return-taken : (l : List ℕ) → take (length (without_return l)) l ≡ without_return l
unfolding without_return last_or_more choose
return-taken [] = refl
return-taken (c ∷ []) = go (eqb c carriage_return)
  where
    go : (b : Bool) → take (length (choose b [] (c ∷ []))) (c ∷ []) ≡ choose b [] (c ∷ [])
    go true = refl
    go false = refl
return-taken (c ∷ d ∷ l) = ap (λ m. c ∷ m) (return-taken (d ∷ l))

filled : (l bs : List ℕ) → frame_bytes l ≡ some bs → 0 < length l
unfolding frame_bytes
filled [] bs e = absurd (let z : ◌≡◌ {A = ℕ} 0 1 = cc in omega arith)
filled (c ∷ l) bs e = omega arith

-- ---- the three answers
-- "Frames are counted without those extra lines"
pub record RuleExtra (t : List ℕ) (at next : ℕ) : Type 0 where
  pub from : at < next
  pub within : next ≤ length t
  pub place : next ≡ next_line t at
  pub ended : length (first_line (drop at t)) < length (drop at t)
  pub extra : is_extra (line_chars (drop at t)) ≡ true

pub record RuleFrame (t : List ℕ) (at : ℕ) (f : FrameEnd) : Type 0 where
  pub from : at < f.end
  pub less : f.end < f.next
  pub within : f.next ≤ length t
  pub place : f.next ≡ next_line t at
  pub ended : length (first_line (drop at t)) < length (drop at t)
  pub is : take (f.end - at) (drop at t) ≡ line_chars (drop at t)
  pub counted : is_extra (line_chars (drop at t)) ≡ false
  pub frame : List ℕ
  pub spelled : frame_bytes (line_chars (drop at t)) ≡ some frame

-- "a last line without LF is 2", or the line is no extra one and has no bytes
pub data RuleBad (t : List ℕ) (at : ℕ) : Type 0 where
  unended : length (drop at t) ≤ length (first_line (drop at t)) → RuleBad t at
  unspelled : length (first_line (drop at t)) < length (drop at t) → is_extra (line_chars (drop at t)) ≡ false → frame_bytes (line_chars (drop at t)) ≡ none → RuleBad t at

module _ (t : List ℕ) (at : ℕ) {r : LineRead} (v : r ≡ rule_line t at) where
  -- the answer by what the line is
  answer : Bool → Bool → Option (List ℕ) → LineRead
  answer a x o = choose (both a x) (Some (Extra (next_line t at))) (choose (both a (is_some o)) (Some (Frame (record { end = at + length (line_chars (drop at t)); next = next_line t at }))) None)

  answered : {s : LineRead} → r ≡ s → answer (is_ended (drop at t)) (is_extra (line_chars (drop at t))) (frame_bytes (line_chars (drop at t))) ≡ s
  unfolding rule_line line_from answer
  answered q = sym v ∙ q

  longer : is_ended (drop at t) ≡ true → length (first_line (drop at t)) < length (drop at t)
  longer p = ltb-true (length (first_line (drop at t))) (length (drop at t)) p

  pub rule-extra : {next : ℕ} → r ≡ Some (Extra next) → RuleExtra t at next
  unfolding answer both choose is_some
  rule-extra {next} q = go (is_ended (drop at t)) (is_extra (line_chars (drop at t))) (frame_bytes (line_chars (drop at t))) refl refl (answered q)
    where
      go : (a x : Bool) (o : Option (List ℕ)) → is_ended (drop at t) ≡ a → is_extra (line_chars (drop at t)) ≡ x → answer a x o ≡ Some (Extra next) → RuleExtra t at next
      go true true o p e s =
          let place : next ≡ next_line t at = cc in
          record { from = omega (arith, place); within = omega (arith, place, longer p, length-drop at t); place = place; ended = longer p; extra = e }
      go true false (some bs) p e s = absurd (let z : ◌≡◌ {A = ℕ} 0 1 = cc in omega arith)
      go true false none p e s = absurd (let z : ◌≡◌ {A = ℕ} 0 1 = cc in omega arith)
      go false x o p e s = absurd (let z : ◌≡◌ {A = ℕ} 0 1 = cc in omega arith)

  pub rule-frame : {f : FrameEnd} → r ≡ Some (Frame f) → RuleFrame t at f
  unfolding answer both choose is_some
  rule-frame {f} q = go (is_ended (drop at t)) (is_extra (line_chars (drop at t))) (frame_bytes (line_chars (drop at t))) refl refl refl (answered q)
    where
      go : (a x : Bool) (o : Option (List ℕ)) → is_ended (drop at t) ≡ a → is_extra (line_chars (drop at t)) ≡ x → frame_bytes (line_chars (drop at t)) ≡ o → answer a x o ≡ Some (Frame f) → RuleFrame t at f
      go true true o p e b s = absurd (let z : ◌≡◌ {A = ℕ} 0 1 = cc in omega arith)
      go true false (some bs) p e b s =
          let last : f.end ≡ at + length (line_chars (drop at t)) = cc in
          let place : f.next ≡ next_line t at = cc in
          let same : f.end - at ≡ length (line_chars (drop at t)) = omega (arith, last) in
          record {
            from = omega (arith, last, filled (line_chars (drop at t)) bs b);
            less = omega (arith, last, place, return_fits (first_line (drop at t)));
            within = omega (arith, place, longer p, length-drop at t);
            place = place;
            ended = longer p;
            is = ap (λ n. take n (drop at t)) same ∙ chars-taken (drop at t);
            counted = e;
            frame = bs;
            spelled = b;
          }
      go true false none p e b s = absurd (let z : ◌≡◌ {A = ℕ} 0 1 = cc in omega arith)
      go false x o p e b s = absurd (let z : ◌≡◌ {A = ℕ} 0 1 = cc in omega arith)

  pub rule-bad : r ≡ None → RuleBad t at
  unfolding answer both choose is_some
  rule-bad q = go (is_ended (drop at t)) (is_extra (line_chars (drop at t))) (frame_bytes (line_chars (drop at t))) refl refl refl (answered q)
    where
      go : (a x : Bool) (o : Option (List ℕ)) → is_ended (drop at t) ≡ a → is_extra (line_chars (drop at t)) ≡ x → frame_bytes (line_chars (drop at t)) ≡ o → answer a x o ≡ None → RuleBad t at
      go true true o p e b s = absurd (let z : ◌≡◌ {A = ℕ} 0 1 = cc in omega arith)
      go true false (some bs) p e b s = absurd (let z : ◌≡◌ {A = ℕ} 0 1 = cc in omega arith)
      go true false none p e b s = unspelled (longer p) e b
      go false x o p e b s = unended (ltb-false (length (first_line (drop at t))) (length (drop at t)) p)
