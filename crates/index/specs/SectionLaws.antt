-- A section of the index: its words, what it is after it was written, and that what is outside of it is as it was.
use Rattle.std.specs.Prelude.{ℕ, zero, suc, ◌+◌, ◌-◌, ◌≤◌, ◌<◌, List, [], ◌∷◌, ◌++◌, ◌≡◌, refl, length, get_or, take, drop, set, replicate}
use Rattle.std.proofs.Math.Path.{sym, ap}
use Rattle.std.proofs.Common.{◌∙◌, zero-add, suc-add, arith, length-take, length-drop, length-take-le, get_or-take, get_or-drop, drop-drop, drop_at}
use Rattle.std.proofs.Math.ListN.{get_or-eq_default}
use Rattle.std.proofs.Math.Seq.{take-nil, take_at}
use Rattle.theory.specs.Lists.{take-fewer}
use Rattle.index.specs.declared.Counts.{Counts}
use Rattle.index.specs.Sections.{section, count_words, the_counts_of}

-- ---- a word of a section
pub section-word : (from n i : ℕ) (index : List ℕ) → i < n → get_or index (from + i) 0 ≡ get_or (section from n index) i 0
unfolding section
section-word from n i index less = sym (get_or-drop from index i 0) ∙ sym (get_or-take n (drop from index) i 0 less)

pub section-beyond : (from n i : ℕ) (index : List ℕ) → n ≤ i → 0 ≡ get_or (section from n index) i 0
unfolding section
section-beyond from n i index least = sym (get_or-eq_default (take n (drop from index)) 0 {n = i} (omega (arith, length-take n (drop from index))))

-- ---- the words outside of a section are as they were
pub record Outside (from n : ℕ) (index index' : List ℕ) : Type 0 where
  pub before : take from index' ≡ take from index
  pub behind : drop (from + n) index' ≡ drop (from + n) index

pub outside-then : {from n : ℕ} {index index₁ index₂ : List ℕ} → Outside from n index index₁ → Outside from n index₁ index₂ → Outside from n index index₂
outside-then a b = record { before = b.before ∙ a.before; behind = b.behind ∙ a.behind }

drop_of_take : (a k : ℕ) (l : List ℕ) → drop a (take (a + k) l) ≡ take k (drop a l)
drop_of_take zero k l = ap (λ n. take n l) (zero-add k)
drop_of_take (suc a) k [] = rw (suc-add a k) (sym (take-nil k))
drop_of_take (suc a) k (x ∷ l) = rw (suc-add a k) (drop_of_take a k l)

drop-further : (a b : ℕ) → b ≤ a → (l : List ℕ) → drop a l ≡ drop (a - b) (drop b l)
drop-further a b le l = let place : b + (a - b) ≡ a = omega arith in ap (λ i. drop i l) (sym place) ∙ sym (drop-drop (a - b) b l)

module _ {from n : ℕ} {index index' : List ℕ} (o : Outside from n index index') (a k : ℕ) where
  -- a section before the one that was written, and one behind it
  pub kept-before : a + k ≤ from → section a k index' ≡ section a k index
  unfolding section
  kept-before le = sym (drop_of_take a k index') ∙ ap (drop a) (take-fewer (a + k) from index' index le o.before) ∙ drop_of_take a k index

  pub kept-behind : from + n ≤ a → section a k index' ≡ section a k index
  unfolding section
  kept-behind le = ap (take k) (drop-further a (from + n) le index' ∙ ap (drop (a - (from + n))) o.behind ∙ sym (drop-further a (from + n) le index))

-- ---- a section that was lent and came back
module _ (from n : ℕ) (part index : List ℕ) (long : from + n ≤ length index) (size : length part ≡ n) where
  before-is : take from (take from index ++ (part ++ drop n (drop from index))) ≡ take from index
  before-is = take_at (take from index) (part ++ drop n (drop from index)) from (length-take-le from index (omega arith))

  from_is : drop from (take from index ++ (part ++ drop n (drop from index))) ≡ part ++ drop n (drop from index)
  from_is = drop_at (take from index) (part ++ drop n (drop from index)) from (length-take-le from index (omega arith))

  pub section-pasted : section from n (take from index ++ (part ++ drop n (drop from index))) ≡ part
  unfolding section
  section-pasted = ap (take n) from_is ∙ take_at part (drop n (drop from index)) n size

  pub outside-pasted : Outside from n index (take from index ++ (part ++ drop n (drop from index)))
  outside-pasted = record {
    before = before-is;
    behind = sym (drop-drop n from (take from index ++ (part ++ drop n (drop from index)))) ∙ ap (drop n) from_is ∙ drop_at part (drop n (drop from index)) n size ∙ drop-drop n from index;
  }

-- what a function makes of the section that it is lent, it makes of the whole
pub section-lent : (C : List ℕ → List ℕ → Type 0) (from n : ℕ) (part index : List ℕ) → from + n ≤ length index → length part ≡ length (take n (drop from index)) → C (take n (drop from index)) part →
    C (section from n index) (section from n (take from index ++ (part ++ drop n (drop from index)))) × Outside from n index (take from index ++ (part ++ drop n (drop from index)))
unfolding section
section-lent C from n part index long same x =
    let size : length part ≡ n = same ∙ length-take-le n (drop from index) (omega (arith, length-drop from index)) in
    (rw (section-pasted from n part index long size) x, outside-pasted from n part index long size)

-- ---- an index of zeros
pub drop-zeros : (a m : ℕ) → drop {A = ℕ} a (replicate m 0) ≡ replicate (m - a) 0
drop-zeros zero m = let none : m ≡ m - 0 = omega arith in ap (λ k. replicate k 0) none
drop-zeros (suc a) zero = let none : 0 - suc a ≡ 0 = omega arith in rw none refl
drop-zeros (suc a) (suc m) = let less : suc m - suc a ≡ m - a = omega arith in rw less (drop-zeros a m)

take-zeros : (a m : ℕ) → a ≤ m → take {A = ℕ} a (replicate m 0) ≡ replicate a 0
take-zeros zero m le = refl
take-zeros (suc a) zero le = absurd (omega arith)
take-zeros (suc a) (suc m) le = ap (λ (l : List ℕ). 0 ∷ l) (take-zeros a m (omega arith))

pub section-zero : (from n m : ℕ) → from + n ≤ m → section from n (replicate m 0) ≡ replicate n 0
unfolding section
section-zero from n m le = ap (take n) (drop-zeros from m) ∙ take-zeros n (m - from) (omega arith)

-- ---- the counts, written word by word
pub record CountsPut (n : Counts) (index index' : List ℕ) : Type 0 where
  pub counts : the_counts_of index' ≡ n.types ∷ n.functions ∷ n.inputs ∷ n.nodes ∷ []
  pub outside : Outside 0 count_words index index'

pub counts-put : (n : Counts) (index : List ℕ) → count_words ≤ length index → CountsPut n index (set (set (set (set index 0 n.types) 1 n.functions) 2 n.inputs) 3 n.nodes)
unfolding section
counts-put n [] long = absurd (omega arith)
counts-put n (a ∷ []) long = absurd (omega arith)
counts-put n (a ∷ b ∷ []) long = absurd (omega arith)
counts-put n (a ∷ b ∷ c ∷ []) long = absurd (omega arith)
counts-put n (a ∷ b ∷ c ∷ d ∷ l) long = record { counts = refl; outside = record { before = refl; behind = refl } }
