-- Where the table says that what starts at a place ends, never before that place; of what is spelled and told, it is the end.
use Rattle.std.specs.Prelude.{ℕ, ◌≤◌, ◌<◌, List, Bool, ◌≡◌, length, max}
use Rattle.std.proofs.Math.Bool.{true, false}
use Rattle.std.proofs.Math.Path.{refl}
use Rattle.std.proofs.Common.{sym, ◌∙◌}
use native.Mathlib.Omega.{arith}
use Rattle.std.proofs.Math.Dec.{leb}
use borrow.Author.Tests.{leb-true, leb-false}
use Rattle.language.specs.Result.{choose}
use Rattle.theory.specs.Places.{below_or_not}
use Rattle.text.specs.Places.{past, past-least}
use Rattle.ends.specs.Ended.{end_in, EndAt}

unfoldable pub end_of : List ℕ → ℕ → ℕ → ℕ
end_of ends from at = let word = end_in ends from at in choose (leb at word) word at

-- ---- by the test
module _ (ends : List ℕ) (from at : ℕ) where
  pub end-is-word : at ≤ end_in ends from at → end_in ends from at ≡ end_of ends from at
  unfolding end_of choose
  end-is-word le = by (leb at (end_in ends from at)) refl
    where
      by : (b : Bool) → leb at (end_in ends from at) ≡ b → end_in ends from at ≡ choose b (end_in ends from at) at
      by true e = refl
      by false e = absurd (omega (arith, le, leb-false at (end_in ends from at) e))

  end-is-place : end_in ends from at < at → at ≡ end_of ends from at
  unfolding end_of choose
  end-is-place less = by (leb at (end_in ends from at)) refl
    where
      by : (b : Bool) → leb at (end_in ends from at) ≡ b → at ≡ choose b (end_in ends from at) at
      by true e = absurd (omega (arith, less, leb-true at (end_in ends from at) e))
      by false e = refl

  -- the larger of the word and the place
  pub end-larger : {word r : ℕ} → word ≡ end_in ends from at → r ≡ max word at → r ≡ end_of ends from at
  end-larger {word} {r} w e = below_or_not word at
      (λ less. let place : r ≡ at = omega (arith, e, less) in place ∙ end-is-place (omega (arith, w, less)))
      (λ le. let is : r ≡ word = omega (arith, e, le) in is ∙ w ∙ end-is-word (omega (arith, w, le)))

  pub end-least : at ≤ end_of ends from at
  unfolding end_of choose
  end-least = by (leb at (end_in ends from at)) refl
    where
      by : (b : Bool) → leb at (end_in ends from at) ≡ b → at ≤ choose b (end_in ends from at) at
      by true e = leb-true at (end_in ends from at) e
      by false e = omega arith

-- ---- of what the table tells
pub end-told : {A : Type 0} {bytes : A → List ℕ} {ends : List ℕ} {from : ℕ} {line : List ℕ} {at : ℕ} {a : A} → EndAt bytes ends from line at a → end_of ends from at ≡ past line at (length (bytes a))
end-told {bytes} {ends} {from} {line} {at} {a} told = sym (end-is-word ends from at (omega (arith, told.is, past-least line at (length (bytes a))))) ∙ told.is
