-- The tables of marks: each names the characters that are digits in its kind of line.
use Rattle.std.specs.Prelude.{ℕ, zero, suc, ◌+◌, ◌≤◌, ◌<◌, List, [], ◌∷◌, Bool, true, false, not, ◌≡◌, refl, length, get_or, set, drop, eqb, leb, ltb}
use Rattle.std.proofs.Common.{sym, ap, ◌∙◌, arith, eqb-true, ltb-true, ltb-false}
use Rattle.std.proofs.Math.ListN.{get_or-eq_default}
use Rattle.std.proofs.lemmas.Bool.{lt-leb}
use Rattle.language.specs.Limits.{byte_range}
use Rattle.language.specs.Result.{both, when, choose}
use Rattle.language.specs.Text.{digit, any_digit}
use Rattle.text.specs.DigitLaws.{both_hold}
use Rattle.text_lines.specs.Lines.{is_some, digit_marks, strict_digit, marked, digit_pairs}
use Rattle.text_lines.specs.LinesSpell.{never}
use Rattle.text_lines.specs.RuleLines.{wide_digit, any_digit_marks}

abbrev mark : (ℕ → Bool) → ℕ → ℕ
mark d c = choose (d c) 1 0

-- every entry, from one on, is its character's
marks_from : (ℕ → Bool) → ℕ → List ℕ → Bool
marks_from d c [] = true
marks_from d c (m ∷ ms) = both (eqb m (mark d c)) (marks_from d (suc c) ms)

mark-at : (d : ℕ → Bool) (ms : List ℕ) (c i : ℕ) → marks_from d c ms ≡ true → i < length ms → get_or ms i 0 ≡ mark d (c + i)
unfolding marks_from both
mark-at d [] c i e h = absurd (omega arith)
mark-at d (m ∷ ms) c i e h = let p = both_hold (eqb m (mark d c)) (marks_from d (suc c) ms) e in go i h p.0 (λ j k. mark-at d ms (suc c) j p.1 k)
  where
    go : (i : ℕ) → i < length (m ∷ ms) → eqb m (mark d c) ≡ true → ((j : ℕ) → j < length ms → get_or ms j 0 ≡ mark d (suc c + j)) → get_or (m ∷ ms) i 0 ≡ mark d (c + i)
    go zero h p inner = let same : c ≡ c + 0 = omega arith in eqb-true m (mark d c) p ∙ ap (mark d) same
    go (suc i) h p inner = let same : suc c + i ≡ c + suc i = omega arith in inner i (omega arith) ∙ ap (mark d) same

-- such a table names the digits, if no character beyond it is one
marks-name : (d : ℕ → Bool) (ms : List ℕ) → marks_from d 0 ms ≡ true → ((c : ℕ) → length ms ≤ c → d c ≡ false) → (c : ℕ) → marked ms c ≡ d c
unfolding choose
marks-name d ms all beyond c = go (ltb c (length ms)) refl
  where
    set : (b : Bool) → not (eqb (choose {A = ℕ} b 1 0) 0) ≡ b
    set true = refl
    set false = refl

    go : (b : Bool) → ltb c (length ms) ≡ b → marked ms c ≡ d c
    go true q =
        let same : 0 + c ≡ c = omega arith in
        ap (λ m. not (eqb m 0)) (mark-at d ms 0 c all (ltb-true c (length ms) q) ∙ ap (mark d) same) ∙ set (d c)
    go false q = ap (λ m. not (eqb m 0)) (get_or-eq_default ms 0 {n = c} (ltb-false c (length ms) q)) ∙ sym (beyond c (ltb-false c (length ms) q))

no-digit-beyond : (c : ℕ) → byte_range ≤ c → strict_digit c ≡ false
unfolding digit is_some when choose
no-digit-beyond c h = rw (lt-leb c 0x39 (omega arith), lt-leb c 0x46 (omega arith), never (leb 0x30 c), never (leb 0x41 c))

none-beyond : (c : ℕ) → byte_range ≤ c → wide_digit c ≡ false
unfolding any_digit choose
none-beyond c h = rw (lt-leb c 0x66 (omega arith), never (leb 0x61 c)) (no-digit-beyond c h)

pub strict-marks : marked digit_marks ≡ strict_digit
unfolding marks_from digit is_some both when choose
strict-marks = λ i c. marks-name strict_digit digit_marks refl no-digit-beyond c i

pub wide-marks : marked any_digit_marks ≡ wide_digit
unfolding marks_from any_digit digit is_some both when choose
wide-marks = λ i c. marks-name wide_digit any_digit_marks refl none-beyond c i

-- the marks of strict digits, and those of a to f
pub lower-marked : {digits : List ℕ} → digits ≡ digit_marks → set (set (set (set (set (set digits 0x61 1) 0x62 1) 0x63 1) 0x64 1) 0x65 1) 0x66 1 ≡ any_digit_marks
lower-marked are = rw are

-- pairs found by marks are pairs of the digits that these name
module _ (t : List ℕ) (at : ℕ) {digits : List ℕ} {end : ℕ} (is : end ≡ at + digit_pairs (marked digits) (drop at t)) where
  pub strict-pairs : digits ≡ digit_marks → end ≡ at + digit_pairs strict_digit (drop at t)
  strict-pairs are = is ∙ ap (λ (d : ℕ → Bool). at + digit_pairs d (drop at t)) (ap (λ ms. marked ms) are ∙ strict-marks)

  pub wide-pairs : digits ≡ any_digit_marks → end ≡ at + digit_pairs wide_digit (drop at t)
  wide-pairs are = is ∙ ap (λ (d : ℕ → Bool). at + digit_pairs d (drop at t)) (ap (λ ms. marked ms) are ∙ wide-marks)
