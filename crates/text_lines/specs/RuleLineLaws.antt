-- The line of a rule file at a place: what the code's tests say of it, and what its answer says of the line.
use Rattle.std.specs.Prelude.{Some, None}
use Rattle.std.specs.Prelude.{ℕ, suc, ◌+◌, ◌≤◌, ◌<◌, Bool, get_or, drop}
use mathlib.Core.List.{List, [], ◌∷◌}
use Rattle.std.proofs.Math.Bool.{true, false}
use Rattle.std.proofs.Math.Path.{◌≡◌, refl, sym, ap}
use Rattle.std.proofs.Common.{◌∙◌, arith, drop-cons, eq-eqb, ne_eqb, lt-ltb, le-ltb}
use Rattle.std.proofs.Math.ListN.{length, length-drop}
use Rattle.language.specs.Codes.{semicolon}
use Rattle.language.specs.Result.{both, choose}
use Rattle.language.specs.Text.{is_empty, is_extra}
use Rattle.text_lines.specs.Lines.{LineEnd}
use Rattle.text_lines.specs.Lines.{LineRead}
use Rattle.text_lines.specs.declared.rule_lines.RuleLine.TheVariants.{Extra, Frame}
use Rattle.text_lines.specs.Lines.{first_line, next_line}
use Rattle.text_lines.specs.LinesEnd.{first-line-fits}
use Rattle.text_lines.specs.RuleLines.{line_chars, is_ended, line_close, line_from, frame_line, frame_at, frame_close, rule_line}
use Rattle.text_lines.specs.RuleChars.{Plain, Begins, nothing, character, chars-plain, chars-begin}

-- ---- the returns of the code
module _ (t : List ℕ) (at : ℕ) where
  unended : length (drop at t) ≤ length (first_line (drop at t)) → None ≡ rule_line t at
  unfolding rule_line line_from both choose
  unended h = rw (le-ltb (length (first_line (drop at t))) (length (drop at t)) h)

  pub rule-beyond : length t ≤ at → None ≡ rule_line t at
  rule-beyond h = unended (omega (arith, length-drop at t))

  -- the line that the finder found
  module _ {line : List ℕ} (is : line ≡ first_line (drop at t)) where
    pub line-fits : at < length t → at + length line ≤ length t
    line-fits h = omega (arith, ap length is, first-line-fits (drop at t), length-drop at t)

    pub line-unended : length t ≤ at + length line → None ≡ rule_line t at
    line-unended h = unended (omega (arith, ap length is, length-drop at t))

    pub comment-ended : at < length t → get_or t at 0 ≡ semicolon → at + length line < length t → Some (Extra (at + length line + 1)) ≡ rule_line t at
    unfolding rule_line is_extra both choose
    comment-ended h e k =
        let plain : Plain (get_or t at 0) = rw e (record { feed = refl; return = refl }) in
        let begun : is_extra (line_chars (drop at t)) ≡ true = rw (drop-cons t at 0 h, chars-plain (get_or t at 0) (drop (suc at) t) plain) (eq-eqb _ _ e) in
        rw (lt-ltb (length (first_line (drop at t))) (length (drop at t)) (omega (arith, ap length is, length-drop at t)), begun, is)

  pub closed-frame : {x : LineEnd} {end : ℕ} → x ≡ line_close t at → x ≡ Some end → Some (Frame (record { end = at; next = end })) ≡ frame_close t at
  unfolding frame_at
  closed-frame v q = sym (ap (frame_at at) (sym v ∙ q))

  pub unclosed-frame : {x : LineEnd} → x ≡ line_close t at → x ≡ None → None ≡ frame_close t at
  unfolding frame_at
  unclosed-frame v q = sym (ap (frame_at at) (sym v ∙ q))

  pub empty-line : {x : LineEnd} {next : ℕ} → x ≡ line_close t at → x ≡ Some next → Some (Extra next) ≡ rule_line t at
  unfolding line_close rule_line is_empty is_extra both choose
  empty-line {x} {next} v q = go (is_ended (drop at t)) (line_chars (drop at t)) (sym v ∙ q)
    where
      go : (b : Bool) (k : List ℕ) → choose (both b (is_empty k)) (Some (next_line t at)) None ≡ Some next → Some (Extra next) ≡ choose (both b (is_extra k)) (Some (Extra (next_line t at))) (frame_line t at)
      go true [] e = let same : next ≡ next_line t at = cc in ap (λ n. Some (Extra n)) same
      go true (c ∷ k) e = absurd (let z : ◌≡◌ {A = ℕ} 0 1 = cc in omega arith)
      go false k e = absurd (let z : ◌≡◌ {A = ℕ} 0 1 = cc in omega arith)

  pub no_extra : {x : LineEnd} {r : LineRead} → at < length t → (get_or t at 0 ≡ semicolon → ⊥) → x ≡ line_close t at → x ≡ None → r ≡ frame_line t at → r ≡ rule_line t at
  unfolding line_close rule_line is_empty is_extra both choose
  no_extra {x} {r} h n v q f =
      let begun : Begins (get_or t at 0) (line_chars (drop at t)) = rw (drop-cons t at 0 h) (chars-begin (get_or t at 0) (drop (suc at) t)) in
      f ∙ go (is_ended (drop at t)) begun (sym v ∙ q)
    where
      go : (b : Bool) {k : List ℕ} → Begins (get_or t at 0) k → choose (both b (is_empty k)) (Some (next_line t at)) None ≡ None → frame_line t at ≡ choose (both b (is_extra k)) (Some (Extra (next_line t at))) (frame_line t at)
      go true nothing e = absurd (let z : ◌≡◌ {A = ℕ} 0 1 = cc in omega arith)
      go true character e = rw (ne_eqb _ _ n)
      go false k e = refl
