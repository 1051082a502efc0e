-- The walk over pairs of digits, by marks: on over a pair, to a stop before a character that is no digit, or at the text's end.
use Rattle.std.specs.Prelude.{ℕ, suc, ◌+◌, ◌≤◌, ◌<◌, ◌≡◌, get_or, drop}
use mathlib.Core.List.{List, [], ◌∷◌}
use Rattle.std.proofs.Math.Path.{refl}
use Rattle.std.proofs.Common.{ap, ◌∙◌, arith, drop-cons}
use Rattle.std.proofs.Math.ListN.{length, length-drop}
use borrow.Author.Tests.{eq-eqb, ne_eqb}
use Rattle.language.specs.Result.{both, choose}
use Rattle.text_lines.specs.Lines.{marked, digit_pairs, PairsTo}

pub pairs_start : {digits t : List ℕ} {at : ℕ} → at ≤ length t → PairsTo digits t at at
pairs_start h = record { from = omega arith; within = h; is = refl }

pub two-there : (t : List ℕ) (at : ℕ) → at + 1 < length t → drop at t ≡ get_or t at 0 ∷ get_or t (at + 1) 0 ∷ drop (at + 2) t
two-there t at h =
    let second : suc at ≡ at + 1 = omega arith in
    let third : suc (suc at) ≡ at + 2 = omega arith in
    drop-cons t at 0 (omega arith) ∙ ap (λ l. get_or t at 0 ∷ l) (drop-cons t (suc at) 0 (omega arith) ∙ (λ i. get_or t (second i) 0 ∷ drop (third i) t))

module _ {digits t : List ℕ} {at end : ℕ} (p : PairsTo digits t at end) where
  pub pairs-on : end + 1 < length t → (get_or digits (get_or t end 0) 0 ≡ 0 → ⊥) → (get_or digits (get_or t (end + 1) 0) 0 ≡ 0 → ⊥) → PairsTo digits t at (end + 2)
  unfolding digit_pairs both choose
  pairs-on h a b = record { from = omega (arith, p.from); within = omega arith; is = p.is ∙ more }
    where
      more : end + digit_pairs (marked digits) (drop end t) ≡ end + 2 + digit_pairs (marked digits) (drop (end + 2) t)
      more = rw (two-there t end h, ne_eqb _ 0 a, ne_eqb _ 0 b) (omega arith)

  pairs-over : digit_pairs (marked digits) (drop end t) ≡ 0 → end ≡ at + digit_pairs (marked digits) (drop at t)
  pairs-over e = omega (arith, p.is, e)

  pub pairs-stop : end + 1 < length t → get_or digits (get_or t end 0) 0 ≡ 0 → end ≡ at + digit_pairs (marked digits) (drop at t)
  unfolding digit_pairs both choose
  pairs-stop h a = pairs-over (rw (two-there t end h, eq-eqb _ 0 a))

  pub pairs-halve : end + 1 < length t → (get_or digits (get_or t end 0) 0 ≡ 0 → ⊥) → get_or digits (get_or t (end + 1) 0) 0 ≡ 0 → end ≡ at + digit_pairs (marked digits) (drop at t)
  unfolding digit_pairs both choose
  pairs-halve h a b = pairs-over (rw (two-there t end h, ne_eqb _ 0 a, eq-eqb _ 0 b))

  pub pairs_end : length t ≤ end + 1 → end ≡ at + digit_pairs (marked digits) (drop at t)
  unfolding digit_pairs
  pairs_end h = pairs-over (go (drop end t) (omega (arith, length-drop end t)))
    where
      go : (l : List ℕ) → length l ≤ 1 → digit_pairs (marked digits) l ≡ 0
      go [] k = refl
      go (a ∷ []) k = refl
      go (a ∷ b ∷ l) k = absurd (omega arith)
