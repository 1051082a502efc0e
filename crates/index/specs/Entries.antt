-- Tables of entries of one width: the words of each entry, and one entry more.
use Prim.Native.Nat.{ℕ, zero, suc, ◌+◌, ◌*◌, ◌≤◌, ◌<◌}
use mathlib.Core.List.{List, [], ◌∷◌, ◌++◌, append-nil, append_assoc, map}
use Rattle.std.specs.Prelude.{◌≡◌, refl}
use Rattle.std.proofs.Math.Path.{sym, ap}
use Rattle.std.proofs.Common.{◌∙◌, arith, mul-le-mul_left}
use Rattle.std.proofs.Math.Nat.{mul-suc, mul-zero}
use Rattle.std.proofs.Math.ListN.{length, get_or, length-append, get_or-append}
use Rattle.std.proofs.Math.Seq.{get_or-append-add}
use Rattle.language.specs.Format.{spell_all}
use Rattle.language.specs.Layout.{padded}
use Rattle.index.specs.Padded.{padded-at}

pub spell-append : {A : Type 0} (entry : A → List ℕ) (xs ys : List A) → spell_all entry (xs ++ ys) ≡ spell_all entry xs ++ spell_all entry ys
unfolding spell_all
spell-append entry [] ys = refl
spell-append entry (x ∷ xs) ys = ap (λ l. entry x ++ l) (spell-append entry xs ys) ∙ sym (append_assoc (entry x) (spell_all entry xs) (spell_all entry ys))

-- one more
pub spell-more : {A : Type 0} (entry : A → List ℕ) (xs : List A) (x : A) → spell_all entry (xs ++ (x ∷ [])) ≡ spell_all entry xs ++ entry x
unfolding spell_all
spell-more entry xs x = spell-append entry xs (x ∷ []) ∙ ap (λ l. spell_all entry xs ++ l) (append-nil (entry x))

-- entries of one word are a list of words
pub spell-words : {A : Type 0} (word : A → ℕ) (xs : List A) → spell_all (λ x. word x ∷ []) xs ≡ map word xs
unfolding spell_all
spell-words word [] = refl
spell-words word (x ∷ xs) = ap (λ l. word x ∷ l) (spell-words word xs)

-- ---- where each entry has w words
module _ {A : Type 0} (w : ℕ) (entry : A → List ℕ) (wide : (x : A) → length (entry x) ≡ w) where
  pub spell-length : (xs : List A) → length (spell_all entry xs) ≡ w * length xs
  unfolding spell_all
  spell-length [] = sym (mul-zero w)
  spell-length (x ∷ xs) = length-append (entry x) (spell_all entry xs) ∙ omega (arith, wide x, spell-length xs, mul-suc w (length xs))

  pub spell-at : (xs : List A) (i j : ℕ) (d : A) → i < length xs → j < w → get_or (spell_all entry xs) (w * i + j) 0 ≡ get_or (entry (get_or xs i d)) j 0
  unfolding spell_all
  spell-at [] i j d h k = absurd (omega arith)
  spell-at (x ∷ xs) zero j d h k =
      let same : w * 0 + j ≡ j = omega (arith, mul-zero w) in
      ap (λ m. get_or (entry x ++ spell_all entry xs) m 0) same ∙ get_or-append (entry x) (spell_all entry xs) 0 j (omega (arith, wide x))
  spell-at (x ∷ xs) (suc i) j d h k =
      let on : w * suc i + j ≡ length (entry x) + (w * i + j) = omega (arith, wide x, mul-suc w i) in
      ap (λ m. get_or (entry x ++ spell_all entry xs) m 0) on ∙ get_or-append-add (entry x) (spell_all entry xs) (w * i + j) 0 ∙ spell-at xs i j d (omega arith) k

  -- the word j of entry i, in a table with room for all entries
  pub table_at : (n : ℕ) (xs : List A) (i j : ℕ) (d : A) → w * length xs ≤ n → i < length xs → j < w → get_or (padded n (spell_all entry xs)) (w * i + j) 0 ≡ get_or (entry (get_or xs i d)) j 0
  table_at n xs i j d room h k = padded-at n (spell_all entry xs) (w * i + j) (omega (arith, mul-suc w i, mul-le-mul_left w h)) ∙ spell-at xs i j d h k

  -- the same while more stands behind the entries
  pub table-so-far : (n : ℕ) (xs : List A) (more : List ℕ) (i j : ℕ) (d : A) → w * length xs ≤ n → i < length xs → j < w → get_or (padded n (spell_all entry xs ++ more)) (w * i + j) 0 ≡ get_or (entry (get_or xs i d)) j 0
  table-so-far n xs more i j d room h k =
      let less : w * i + j < w * length xs = omega (arith, mul-suc w i, mul-le-mul_left w h) in
      padded-at n (spell_all entry xs ++ more) (w * i + j) (omega arith) ∙ get_or-append (spell_all entry xs) more 0 (w * i + j) (omega (arith, spell-length xs)) ∙ spell-at xs i j d h k
