-- Looking an instance up: comparing sizes, comparing a record, one record after the other, the record that a hint names first.
use Rattle.std.specs.Prelude.{ℕ, zero, suc, ◌+◌, ◌-◌, ◌*◌, ◌≤◌, ◌<◌, Bool, true, false, ◌≡◌, refl, length, get_or, take, drop, eqb, Some, None}
use mathlib.Core.List.{List, [], ◌∷◌, Memᴰ as In}
use Rattle.std.proofs.Math.Option.{some}
use Rattle.std.proofs.Math.Path.{sym, ap}
use Rattle.std.proofs.Common.{ap₂, ◌∙◌, add-one, arith, drop_of_length-le, drop-cons, ext_get_or, eqb-true, eq-eqb, ne_eqb}
use Rattle.std.proofs.lemmas.Bool.{eqb-false}
use Rattle.language.specs.Limits.{parameters_most}
use Rattle.language.specs.Result.{both}
use Rattle.language.specs.Sizes.{same_sizes}
use Rattle.language.specs.Layout.{padded}
use Rattle.language.specs.Checker.{Instance, find}
use Rattle.language.specs.Within.{All}
use Rattle.theory.specs.Lists.{both_left, both_right}
use Rattle.theory.specs.Alls.{all_get_d, all_in}
use Rattle.theory.specs.Places.{look_at}
use Rattle.theory.specs.SameTests.{same-sizes, sizes-same}
use Rattle.theory.specs.Different.{Distinct, distinct_cons}
use Rattle.theory.specs.Instances.{key, key_of, keys_of}
use Rattle.theory.specs.InstanceList.{key-stands}
use Rattle.theory.specs.Padding.{padded-length, padded-front}
use Rattle.index.specs.Padded.{padded-at}
use Rattle.estimate.specs.declared.Estimate.{Estimate as Held}
use Rattle.instances.specs.Listed.{instance_words_count, numbers_from, Listed, SizesAre, SameArity, Agrees, found, absent, Finds}
use Rattle.instances.specs.Matches.{Compared, all_same, one_other, no_instance, at, Matches, Numbers}
use Rattle.instances.specs.ListLaws.{function-word, size_word, number_word}

-- ---- comparing sizes: those before j are the same
pub record SameBefore (words : List ℕ) (from : ℕ) (sizes : List ℕ) (j : ℕ) : Type 0 where
  pub says : (k : ℕ) → k < j → get_or words (from + k) 0 ≡ get_or sizes k 0

module _ {words : List ℕ} {from : ℕ} {sizes : List ℕ} where
  pub same_start : SameBefore words from sizes 0
  same_start = record { says = λ k h. absurd (omega arith) }

  pub same-on : {j size : ℕ} → SameBefore words from sizes j → size ≡ get_or sizes j 0 → get_or words (from + j) 0 ≡ size → SameBefore words from sizes (j + 1)
  same-on {j} v q e = record { says = λ k h. go k h (eqb k j) refl }
    where
      go : (k : ℕ) → k < j + 1 → (b : Bool) → eqb k j ≡ b → get_or words (from + k) 0 ≡ get_or sizes k 0
      go k h true t = let same : k ≡ j = eqb-true k j t in rw same (e ∙ q)
      go k h false t = let other : k ≡ j → ⊥ = eqb-false k j t in v.says k (omega arith)

  pub same_end : {j : ℕ} → SameBefore words from sizes j → parameters_most ≤ j → Compared words from sizes true
  same_end v h = all_same (λ k less. v.says k (omega arith))

  pub same_not : {j size : ℕ} → j < parameters_most → size ≡ get_or sizes j 0 → (get_or words (from + j) 0 ≡ size → ⊥) → Compared words from sizes false
  same_not {j} h q other = one_other j h (λ e. other (e ∙ sym q))

-- ---- comparing a record
-- as many sizes, filled up the same, are the same
filled-same : (n : ℕ) (ks js : List ℕ) → length ks ≡ length js → length js ≤ n → padded n ks ≡ padded n js → ks ≡ js
filled-same n ks js long few e = sym (padded-front n ks (omega arith)) ∙ ap (λ m. take m (padded n ks)) long ∙ ap (take (length js)) e ∙ padded-front n js few

false_of : (b : Bool) → (b ≡ true → ⊥) → false ≡ b
false_of true h = absurd (h refl)
false_of false h = refl

-- a record's sizes and those asked for, word by word
module _ {words : List ℕ} {i : ℕ} {sizes : List ℕ} (L : List Instance) (ks : List ℕ) (v : Listed words L) (h : i < length L) (s : SizesAre sizes ks) where
  size-here : (j : ℕ) → j < parameters_most → get_or words (instance_words_count * i + 1 + j) 0 ≡ get_or (padded parameters_most (at L i).sizes) j 0
  size-here j less = size_word L v i h j less

  size-asked : (j : ℕ) → j < parameters_most → get_or sizes j 0 ≡ get_or (padded parameters_most ks) j 0
  size-asked j less = sym (padded-at parameters_most sizes j less) ∙ ap (λ (l : List ℕ). get_or l j 0) s.is

  sizes-compared : {r : Bool} → length (at L i).sizes ≡ length ks → Compared words (instance_words_count * i + 1) sizes r → r ≡ same_sizes (at L i).sizes ks
  sizes-compared long (all_same p) =
      let here = padded parameters_most (at L i).sizes in
      let size : length here ≡ parameters_most = padded-length parameters_most (at L i).sizes in
      let same : here ≡ padded parameters_most ks = ext_get_or 0 here (padded parameters_most ks) (size ∙ sym (padded-length parameters_most ks))
      (λ j less. let few : j < parameters_most = omega (arith, size) in sym (size-here j few) ∙ p j few ∙ size-asked j few) in
      sym (sizes-same (filled-same parameters_most (at L i).sizes ks long s.few same))
  sizes-compared long (one_other j less other) =
      false_of _ (λ t. other (size-here j less ∙ ap (λ (l : List ℕ). get_or (padded parameters_most l) j 0) (same-sizes (at L i).sizes ks t) ∙ sym (size-asked j less)))

module _ {words : List ℕ} {i f : ℕ} {sizes : List ℕ} where
  pub other-function : (get_or words (instance_words_count * i) 0 ≡ f → ⊥) → Matches words i f sizes false
  unfolding both
  other-function other = record { says = λ L ks v h s a. rw (ne_eqb (at L i).function f (λ e. other (function-word L v i h ∙ e))) }

  pub same-function : {r : Bool} → get_or words (instance_words_count * i) 0 ≡ f → Compared words (instance_words_count * i + 1) sizes r → Matches words i f sizes r
  unfolding both
  same-function e u = record {
    says = λ L ks v h s a.
        let same : (at L i).function ≡ f = sym (function-word L v i h) ∙ e in
        rw (eq-eqb (at L i).function f same) (sizes-compared L ks v h s (a same) u);
  }

pub numbers-read : {words : List ℕ} {i : ℕ} {x : Held} → x.env ≡ get_or words (instance_words_count * i + numbers_from) 0 → x.heap ≡ get_or words (instance_words_count * i + numbers_from + 1) 0 → x.stack ≡ get_or words (instance_words_count * i + numbers_from + 2) 0 → Numbers words i x
numbers-read {words} {i} p q o = record {
  says = λ L v h.
      let first : instance_words_count * i + numbers_from ≡ instance_words_count * i + numbers_from + 0 = omega arith in
      record { env = p ∙ ap (λ m. get_or words m 0) first ∙ number_word L v i h 0 (omega arith); heap = q ∙ number_word L v i h 1 (omega arith); stack = o ∙ number_word L v i h 2 (omega arith) };
}

-- ---- one record after the other: those before i are not it
pub record Passed (words : List ℕ) (used f : ℕ) (sizes : List ℕ) (i : ℕ) : Type 0 where
  pub says : (L : List Instance) (ks : List ℕ) → Listed words L → used ≡ length L → SizesAre sizes ks → All (SameArity f ks) L → find L f ks ≡ find (drop i L) f ks

find-here : (f : ℕ) (ks : List ℕ) (q : Instance) (L : List Instance) → both (eqb q.function f) (same_sizes q.sizes ks) ≡ true → find (q ∷ L) f ks ≡ some q.numbers
unfolding find
find-here f ks q L e = rw (e, find)

find-later : (f : ℕ) (ks : List ℕ) (q : Instance) (L : List Instance) → both (eqb q.function f) (same_sizes q.sizes ks) ≡ false → find (q ∷ L) f ks ≡ find L f ks
unfolding find
find-later f ks q L e = rw (e, find)

-- the record at a place is the instance that is found
found_at : {f : ℕ} {ks : List ℕ} (L : List Instance) (i : ℕ) → i < length L → both (eqb (at L i).function f) (same_sizes (at L i).sizes ks) ≡ true → find L f ks ≡ some (at L i).numbers → Agrees L f ks (Some i)
found_at {f} {ks} L i h e is = found (look_at L i no_instance h) (eqb-true (at L i).function f (both_left _ _ e)) (same-sizes (at L i).sizes ks (both_right _ _ e)) is

module _ {words : List ℕ} {used f : ℕ} {sizes : List ℕ} where
  pub passed_start : Passed words used f sizes 0
  passed_start = record { says = λ L ks v u s a. refl }

  module _ {i : ℕ} (p : Passed words used f sizes i) where
    pub passed-found : {r : Bool} → i < used → Matches words i f sizes r → r ≡ true → Finds words used f sizes (Some i)
    passed-found less m e = record {
      says = λ L ks v u d s a.
          let h : i < length L = omega (arith, u) in
          let this : both (eqb (at L i).function f) (same_sizes (at L i).sizes ks) ≡ true = sym (m.says L ks v h s (all_get_d a i no_instance h)) ∙ e in
          found_at L i h this (p.says L ks v u s a ∙ ap (λ M. find M f ks) (drop-cons L i no_instance h) ∙ find-here f ks (at L i) (drop (suc i) L) this);
    }

    pub passed_on : {r : Bool} → i < used → Matches words i f sizes r → r ≡ false → Passed words used f sizes (i + 1)
    passed_on less m e = record {
      says = λ L ks v u s a.
          let h : i < length L = omega (arith, u) in
          p.says L ks v u s a ∙ ap (λ M. find M f ks) (drop-cons L i no_instance h) ∙ find-later f ks (at L i) (drop (suc i) L) (sym (m.says L ks v h s (all_get_d a i no_instance h)) ∙ e) ∙ rw add-one;
    }

    pub passed-end : used ≤ i → Finds words used f sizes None
    unfolding find
    passed-end le = record {
      says = λ L ks v u d s a. absent (p.says L ks v u s a ∙ ap (λ M. find M f ks) (drop_of_length-le L {i = i} (omega (arith, u))));
    }

-- ---- the record that a hint names: where no instance stands twice, the one that is found
key-asked : (f : ℕ) (ks : List ℕ) (q : Instance) → both (eqb q.function f) (same_sizes q.sizes ks) ≡ true → key_of q ≡ key f ks
key-asked f ks q e = ap₂ key (eqb-true q.function f (both_left _ _ e)) (same-sizes q.sizes ks (both_right _ _ e))

at-stands : (L : List Instance) (i : ℕ) → i < length L → In (at L i) L
at-stands L i h = all_get_d (all_in L (λ q s. s)) i no_instance h

find-only : (f : ℕ) (ks : List ℕ) (L : List Instance) → Distinct (keys_of L) → (i : ℕ) → i < length L → both (eqb (at L i).function f) (same_sizes (at L i).sizes ks) ≡ true → find L f ks ≡ some (at L i).numbers
find-only f ks [] d i h e = absurd (omega arith)
find-only f ks (q ∷ L) d zero h e = find-here f ks q L e
find-only f ks (q ∷ L) (distinct_cons new d) (suc i) h e = let less : i < length L = omega arith in go (find-only f ks L d i less e) less (both (eqb q.function f) (same_sizes q.sizes ks)) refl
  where
    go : find L f ks ≡ some (at L i).numbers → i < length L → (b : Bool) → both (eqb q.function f) (same_sizes q.sizes ks) ≡ b → find (q ∷ L) f ks ≡ some (at L i).numbers
    go rest less true t = absurd (new (rw (key-asked f ks q t ∙ sym (key-asked f ks (at L i) e)) (key-stands (at-stands L i less))))
    go rest less false t = find-later f ks q L t ∙ rest

pub hint-found : {words sizes : List ℕ} {used f k : ℕ} {r : Bool} → 0 < k → k ≤ used → Matches words (k - 1) f sizes r → r ≡ true → Finds words used f sizes (Some (k - 1))
hint-found {f} {k} some-hint low m e = record {
  says = λ L ks v u d s a.
      let h : k - 1 < length L = omega (arith, u) in
      let this : both (eqb (at L (k - 1)).function f) (same_sizes (at L (k - 1)).sizes ks) ≡ true = sym (m.says L ks v h s (all_get_d a (k - 1) no_instance h)) ∙ e in
      found_at L (k - 1) h this (find-only f ks L d (k - 1) h this);
}
