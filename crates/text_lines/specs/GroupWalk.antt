-- The walk over a frame's line, group by group: what is left of the line behind a group decides what the whole line is.
use Rattle.std.specs.Prelude.{Some, None}
use Prim.Native.Nat.{ℕ, suc, ◌+◌, ◌≤◌, ◌<◌}
use mathlib.Core.List.{List, [], ◌∷◌}
use Rattle.std.specs.Prelude.{Bool, ◌≡◌, get_or, drop, eqb}
use Rattle.std.proofs.Math.Bool.{true, false}
use Rattle.std.proofs.Math.Path.{refl, sym, ap}
use Rattle.std.proofs.Common.{◌∙◌, pos_of_ne-zero, drop_of_length-le, drop-cons, drop-drop}
use native.Mathlib.Omega.{arith}
use Rattle.std.proofs.Math.ListN.{length, length-drop}
use borrow.Author.Tests.{eq-eqb, ne_eqb}
use Rattle.language.specs.Codes.{space}
use Rattle.language.specs.Result.{both, choose}
use Rattle.language.specs.Text.{is_empty, behind_pair, frame_bytes}
use Rattle.text_lines.specs.Lines.{LineRead}
use Rattle.text_lines.specs.declared.rule_lines.RuleLine.TheVariants.{Frame}
use Rattle.text_lines.specs.Lines.{first_line, digit_pairs}
use Rattle.text.specs.Digits.{spaces}
use Rattle.text.specs.Places.{pair_place_of, pair_place}
use Rattle.text_lines.specs.RuleLines.{wide_digit, line_chars, is_ended, line_close, line_from, frame_line, frame_at, frame_close}
use Rattle.text_lines.specs.RuleGroups.{no-pair, not-asked, group-passed, space-passed, close_passed}

-- ---- over spaces
spaces-fit : (l : List ℕ) → spaces l ≤ length l
unfolding spaces choose
spaces-fit [] = omega arith
spaces-fit (c ∷ l) = go (eqb c space) (spaces-fit l)
  where
    go : (b : Bool) → spaces l ≤ length l → choose b (suc (spaces l)) 0 ≤ length (c ∷ l)
    go true h = omega arith
    go false h = omega arith

-- ---- over pairs
module _ (d : ℕ → Bool) where
  pairs-fit : (l : List ℕ) → digit_pairs d l ≤ length l
  unfolding digit_pairs choose
  pairs-fit [] = omega arith
  pairs-fit (a ∷ []) = omega arith
  pairs-fit (a ∷ b ∷ l) = go (both (d a) (d b)) (pairs-fit l)
    where
      go : (x : Bool) → digit_pairs d l ≤ length l → choose x (suc (suc (digit_pairs d l))) 0 ≤ length (a ∷ b ∷ l)
      go true h = omega arith
      go false h = omega arith

  pairs-all : (l : List ℕ) → digit_pairs d (drop (digit_pairs d l) l) ≡ 0
  unfolding digit_pairs choose
  pairs-all [] = refl
  pairs-all (a ∷ []) = refl
  pairs-all (a ∷ b ∷ l) = go (both (d a) (d b)) refl (pairs-all l)
    where
      go : (x : Bool) → both (d a) (d b) ≡ x → digit_pairs d (drop (digit_pairs d l) l) ≡ 0 → digit_pairs d (drop (choose x (suc (suc (digit_pairs d l))) 0) (a ∷ b ∷ l)) ≡ 0
      go true p inner = inner
      go false p inner = rw p

-- ---- group by group
-- up to a place, behind a pair, the line is a frame's if it goes on like one; no pair stands there
pub record Grouped (t : List ℕ) (at end : ℕ) : Type 0 where
  pub within : end ≤ length t
  pub is : frame_line t at ≡ line_from behind_pair end (drop end t)
  pub over : digit_pairs wide_digit (drop end t) ≡ 0

module _ (t : List ℕ) (at : ℕ) {end : ℕ} (is : end ≡ at + digit_pairs wide_digit (drop at t)) where
  pub group-missing : end ≡ at → None ≡ frame_line t at
  group-missing e = not-asked frame_bytes at (drop at t) (no-pair (drop at t) (omega (arith, is)))

  pub group-there : at ≤ length t → (end ≡ at → ⊥) → Grouped t at end
  group-there h n =
      let k = digit_pairs wide_digit (drop at t) in
      let some-there : 0 < k = pos_of_ne-zero (λ z. n (omega (arith, is, z))) in
      let place : drop k (drop at t) ≡ drop end t = drop-drop k at t ∙ ap (λ m. drop m t) (sym is) in
      record {
        within = omega (arith, is, pairs-fit wide_digit (drop at t), length-drop at t);
        is = group-passed (drop at t) at some-there ∙ (λ i. line_from behind_pair (sym is i) (place i));
        over = ap (digit_pairs wide_digit) (sym place) ∙ pairs-all wide_digit (drop at t);
      }

module _ {t : List ℕ} {at end : ℕ} (g : Grouped t at end) where
  pub group-cut : length t ≤ end → None ≡ frame_line t at
  unfolding line_from first_line both choose
  group-cut h = sym (g.is ∙ ap (line_from behind_pair end) (drop_of_length-le t {i = end} h))

  pub group-closed : {r : LineRead} → end < length t → (get_or t end 0 ≡ space → ⊥) → r ≡ frame_close t end → r ≡ frame_line t at
  unfolding line_close frame_at choose
  group-closed {r} h n c = c ∙ sym (g.is ∙ there)
    where
      framed : (b : Bool) (next : ℕ) → choose b (Some (Frame (record { end = end; next = next }))) None ≡ frame_at end (choose b (Some next) None)
      framed true next = refl
      framed false next = refl

      there : line_from behind_pair end (drop end t) ≡ frame_close t end
      there =
          let split = drop-cons t end 0 h in
          ap (line_from behind_pair end) split ∙ close_passed end (get_or t end 0) (drop (suc end) t) (ap (digit_pairs wide_digit) (sym split) ∙ g.over) (ne_eqb _ _ n) ∙
          ap (λ l. choose (both (is_ended l) (is_empty (line_chars l))) (Some (Frame (record { end = end; next = end + length (first_line l) + 1 }))) None) (sym split) ∙
          framed (both (is_ended (drop end t)) (is_empty (line_chars (drop end t)))) (end + length (first_line (drop end t)) + 1)

  module _ {next : ℕ} (h : end < length t) (e : get_or t end 0 ≡ space) (found : next ≡ pair_place_of t end) where
    is : next ≡ end + spaces (drop end t)
    is = found ∙ pair_place t end

    pub spaces-within : (end < next) × (next ≤ length t)
    unfolding spaces choose
    spaces-within =
        let one : spaces (drop end t) ≡ suc (spaces (drop (suc end) t)) = rw (drop-cons t end 0 h, eq-eqb _ _ e) in
        (omega (arith, is, one), omega (arith, is, spaces-fit (drop end t), length-drop end t))

    behind-spaces : frame_line t at ≡ frame_line t next
    behind-spaces =
        let split = drop-cons t end 0 h in
        let place : drop (spaces (drop end t)) (drop end t) ≡ drop next t = drop-drop (spaces (drop end t)) end t ∙ ap (λ m. drop m t) (sym is) in
        g.is ∙ ap (line_from behind_pair end) split ∙ space-passed end (get_or t end 0) (drop (suc end) t) (eq-eqb _ _ e) ∙
        ap (λ l. line_from frame_bytes (end + spaces l) (drop (spaces l) l)) (sym split) ∙ (λ i. line_from frame_bytes (sym is i) (place i))

    module _ {last : ℕ} (are : last ≡ next + digit_pairs wide_digit (drop next t)) where
      pub next-missing : last ≡ next → None ≡ frame_line t at
      next-missing q = group-missing t next are q ∙ sym behind-spaces

      pub next-there : (last ≡ next → ⊥) → Grouped t at last
      next-there n =
          let after = group-there t next are spaces-within.1 n in
          record { within = after.within; is = behind-spaces ∙ after.is; over = after.over }
