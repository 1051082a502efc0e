-- Words of a row: stored one after the other, made zero, and tested for zero.
use Rattle.std.specs.Prelude.{ℕ, zero, suc, ◌+◌, ◌≤◌, ◌<◌, List, [], ◌∷◌, ◌++◌, Bool, true, false, ◌&&◌, ◌≡◌, refl, length, get_or, take, drop, set, replicate, eqb}
use Rattle.std.proofs.Common.{sym, ap, ap₂, ◌∙◌, add-one, arith, length-append, length-drop, take-suc, take_all, length-take-le, get_or-drop}
use Rattle.std.proofs.Math.ListN.{get_or-append}
use Rattle.std.proofs.lemmas.List.Edits.{sets}
use Rattle.std.proofs.Math.Seq.{length-sets}
use Rattle.std.proofs.lemmas.List.{get_or_at}
use Rattle.language.specs.Result.{both}
use Rattle.language.specs.Layout.{all_zero}
use Rattle.theory.specs.Places.{below-or-last}
use Rattle.theory.specs.Lists.{sets-append}
use Rattle.state_words.specs.Words.{row_of}

-- ---- words stored from a place on
-- those of a row before j are stored
pub record Stored (words₀ : List ℕ) (from : ℕ) (row : List ℕ) (j : ℕ) (words : List ℕ) : Type 0 where
  pub low : j ≤ length row
  pub is : words ≡ sets words₀ from (take j row)

pub stored-long : {words₀ row words : List ℕ} {from j : ℕ} → Stored words₀ from row j words → length words ≡ length words₀
stored-long {words₀} {row} {words} {from} {j} v = ap length v.is ∙ length-sets words₀ from (take j row)

pub stored-start : (words row : List ℕ) (from : ℕ) → Stored words from row 0 words
stored-start words row from = record { low = omega arith; is = refl }

pub stored_on : {words₀ row words words' : List ℕ} {from j word : ℕ} → Stored words₀ from row j words → j < length row → word ≡ get_or row j 0 → words' ≡ set words (from + j) word → Stored words₀ from row (j + 1) words'
stored_on {words₀} {row} {words} {words'} {from} {j} v less q e =
    let before : length (take j row) ≡ j = length-take-le j row (omega arith) in
    record {
      low = omega arith;
      is = e ∙ ap₂ (λ (l : List ℕ) (w : ℕ). set l (from + j) w) v.is q ∙ ap (λ m. set (sets words₀ from (take j row)) (from + m) (get_or row j 0)) (sym before)
          ∙ sym (sets-append (take j row) (get_or row j 0 ∷ []) words₀ from) ∙ ap (sets words₀ from) (sym (take-suc row j 0 less)) ∙ rw add-one;
    }

pub stored-end : {words₀ row words : List ℕ} {from j : ℕ} → Stored words₀ from row j words → length row ≤ j → words ≡ sets words₀ from row
stored-end {words₀} {row} {from} {j} v le = v.is ∙ ap (sets words₀ from) (take_all j row le)

-- ---- words made zero
pub zeros-taken : (n m : ℕ) → n ≤ m → take n (replicate {A = ℕ} m 0) ≡ replicate n 0
zeros-taken zero m le = refl
zeros-taken (suc n) zero le = absurd (omega arith)
zeros-taken (suc n) (suc m) le = ap (λ (x : List ℕ). 0 ∷ x) (zeros-taken n m (omega arith))

-- ---- zero so far
pub record ZeroTo (row : List ℕ) (i : ℕ) (r : Bool) : Type 0 where
  pub low : i ≤ length row
  pub is : r ≡ all_zero (take i row)

zero_more : (row : List ℕ) (w : ℕ) → all_zero (row ++ (w ∷ [])) ≡ both (all_zero row) (eqb w 0)
unfolding all_zero both
zero_more [] w = cases (eqb w 0)
  where
    cases : (b : Bool) → both b true ≡ b
    cases true = refl
    cases false = refl
zero_more (v ∷ row) w = cases (eqb v 0) (zero_more row w)
  where
    cases : (b : Bool) → all_zero (row ++ (w ∷ [])) ≡ both (all_zero row) (eqb w 0) → both b (all_zero (row ++ (w ∷ []))) ≡ both (both b (all_zero row)) (eqb w 0)
    cases true e = e
    cases false e = refl

pub zero-start : (row : List ℕ) → ZeroTo row 0 true
unfolding all_zero
zero-start row = record { low = omega arith; is = refl }

and_both : (a b : Bool) → a && b ≡ both a b
unfolding both
and_both true b = refl
and_both false b = refl

pub zero-on : {row : List ℕ} {i : ℕ} {r : Bool} → ZeroTo row i r → i < length row → ZeroTo row (i + 1) (r && eqb (get_or row i 0) 0)
zero-on {row} {i} {r} v less = record {
  low = omega arith;
  is = and_both r (eqb (get_or row i 0) 0) ∙ ap (λ b. both b (eqb (get_or row i 0) 0)) v.is ∙ sym (zero_more (take i row) (get_or row i 0)) ∙ ap all_zero (sym (take-suc row i 0 less)) ∙ rw add-one;
}

-- ---- a row of words by their places
pub row-are : (f : ℕ → ℕ) (n : ℕ) (ls : List ℕ) → n ≤ length ls → ((j : ℕ) → j < n → f j ≡ get_or ls j 0) → row_of f n ≡ take n ls
unfolding row_of
row-are f zero ls le same = refl
row-are f (suc n) ls le same = rw (row-are f n ls (omega arith) (λ j less. same j (omega arith)), same n (omega arith)) (sym (take-suc ls n 0 le))

pub row-length : (f : ℕ → ℕ) (n : ℕ) → length (row_of f n) ≡ n
unfolding row_of
row-length f zero = refl
row-length f (suc n) = omega (arith, length-append (row_of f n) (f n ∷ []), row-length f n)

-- so many words from a place on
pub row-taken : (words : List ℕ) (from n : ℕ) → from + n ≤ length words → row_of (λ j. get_or words (from + j) 0) n ≡ take n (drop from words)
row-taken words from n room = row-are (λ j. get_or words (from + j) 0) n (drop from words) (omega (arith, length-drop from words)) (λ j less. sym (get_or-drop from words j 0))

pub row_at : (f : ℕ → ℕ) (n j : ℕ) → j < n → get_or (row_of f n) j 0 ≡ f j
unfolding row_of
row_at f zero j less = absurd (omega arith)
row_at f (suc n) j less = below-or-last j n less
    (λ below. get_or-append (row_of f n) (f n ∷ []) 0 j (omega (arith, row-length f n)) ∙ row_at f n j below)
    (λ last. rw last (get_or_at (row_of f n) (f n) [] 0 n (row-length f n)))

pub row-start : (f : ℕ → ℕ) (n m : ℕ) → n ≤ m → take n (row_of f m) ≡ row_of f n
row-start f n m le = sym (row-are f n (row_of f m) (omega (arith, row-length f m)) (λ j less. sym (row_at f m j (omega arith))))
