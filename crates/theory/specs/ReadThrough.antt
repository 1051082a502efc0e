-- What is read directly or by others: the computed table holds exactly that.
use Prim.Native.Nat.{ℕ, zero, suc, ◌+◌, ◌<◌}
use mathlib.Core.List.{List, [], ◌++◌, map}
use Rattle.std.specs.Prelude.{Bool, true, false, ◌≡◌, length}
use Rattle.std.proofs.Math.Path.{refl, ap}
use Rattle.std.proofs.Common.{sym, ◌∙◌, subst, arith, zero-add, suc-add}
use Rattle.std.proofs.Math.Nat.{add-zero}
use Rattle.std.proofs.Math.ListN.{get_or, get_or-map, length-map}
use Rattle.language.specs.Result.{both, one_of, choose}
use Rattle.language.specs.Slide.{mem}
use Rattle.language.specs.Order.{read_by, Through, directly, by-others, read_through}
use Rattle.theory.specs.Lists.{both_left, both_right, both_true, never_true}
use Rattle.theory.specs.Choices.{one_left, one_right, one_none, one-cases}
use Rattle.theory.specs.Members.{mem-append}
use Rattle.theory.specs.Places.{equal_or_not}

mem-chosen : (j : ℕ) (b : Bool) (js ks : List ℕ) → mem j (choose b (js ++ ks) js) ≡ one_of (mem j js) (both b (mem j ks))
unfolding choose both
mem-chosen j true js ks = mem-append j js ks
mem-chosen j false js ks = sym (one_none (mem j js))

module _ (R : List (List ℕ)) where
  -- node i reads node j, directly or through nodes below k
  abbrev pub below : ℕ → ℕ → ℕ → Bool
  below k i j = mem j (read_by (read_through k R) i)

  pub below_step : (k i j : ℕ) → below (suc k) i j ≡ one_of (below k i j) (both (below k i k) (below k k j))
  unfolding read_through mem choose one_of
  below_step k i j =
      let T = read_through k R in
      ap (mem j) (row T) ∙ mem-chosen j (mem k (read_by T i)) (read_by T i) (read_by T k)
    where
      row : (T : List (List ℕ)) → get_or (map (λ js. choose (mem k js) (js ++ read_by T k) js) T) i [] ≡ choose (mem k (read_by T i)) (read_by T i ++ read_by T k) (read_by T i)
      row T = get_or-map (λ js. choose (mem k js) (js ++ read_by T k) js) T i []

  pub length-through : (k : ℕ) → length (read_through k R) ≡ length R
  unfolding read_through
  length-through zero = refl
  length-through (suc k) = length-map (read_through k R) _ ∙ length-through k

  pub below_more : (k i j : ℕ) → below k i j ≡ true → below (suc k) i j ≡ true
  below_more k i j e = below_step k i j ∙ one_left _ e

  pub below-joined : (k i j : ℕ) → below k i k ≡ true → below k k j ≡ true → below (suc k) i j ≡ true
  below-joined k i j e f = below_step k i j ∙ one_right _ (both_true e f)

  pub below-cases : {X : Type 0} (k i j : ℕ) → below (suc k) i j ≡ true → (below k i j ≡ true → X) → (below k i k ≡ true → below k k j ≡ true → X) → X
  below-cases k i j e f g = one-cases (below k i j) (both (below k i k) (below k k j)) (sym (below_step k i j) ∙ e) f (λ z. g (both_left _ _ z) (both_right _ _ z))

  -- ---- through nodes below k: one reads on
  pub below-trans : (k m i j : ℕ) → m < k → below k i m ≡ true → below k m j ≡ true → below k i j ≡ true
  below-trans zero m i j less e f = absurd (omega arith)
  below-trans (suc k) m i j less e f = below-cases k i m e
      (λ im. below-cases k m j f
      (λ mj. at-or-below (λ at. below-joined k i j (subst (λ x. below k i x ≡ true) at im) (subst (λ x. below k x j ≡ true) at mj)) (λ low. below_more k i j (below-trans k m i j low im mj)))
      (λ mk kj. at-or-below (λ at. below-joined k i j (subst (λ x. below k i x ≡ true) at im) kj) (λ low. below-joined k i j (below-trans k m i k low im mk) kj)))
      (λ ik km. below-cases k m j f
      (λ mj. at-or-below (λ at. below-joined k i j ik (subst (λ x. below k x j ≡ true) at mj)) (λ low. below-joined k i j ik (below-trans k m k j low km mj)))
      (λ mk kj. below-joined k i j ik kj))
    where
      at-or-below : {X : Type 0} → (m ≡ k → X) → (m < k → X) → X
      at-or-below at low = equal_or_not m k at (λ other. low (omega arith))

  pub below-further : (k l i j : ℕ) → below k i j ≡ true → below (l + k) i j ≡ true
  below-further k zero i j e = rw zero-add e
  below-further k (suc l) i j e = rw suc-add (below_more (l + k) i j (below-further k l i j e))

  -- ---- the table holds what is read directly or by others
  pub through-trans : {i j k : ℕ} → Through R i k → Through R k j → Through R i j
  through-trans (directly e) q = by-others e q
  through-trans (by-others e p) q = by-others e (through-trans p q)

  pub below-through : (k i j : ℕ) → below k i j ≡ true → Through R i j
  unfolding read_through
  below-through zero i j e = directly e
  below-through (suc k) i j e = below-cases k i j e (below-through k i j) (λ f g. through-trans (below-through k i k f) (below-through k k j g))

  -- where every reading is of a lower node, no node reads itself
  module _ (lower : (i j : ℕ) → mem j (read_by R i) ≡ true → j < i) where
    through-lower : {i j : ℕ} → Through R i j → j < i
    through-lower (directly {i} {j} e) = lower i j e
    through-lower (by-others {i} {j} {k} e p) = omega (arith, lower i k e, through-lower p)

    pub none_itself : (i : ℕ) → below (length R) i i ≡ false
    none_itself i = never_true _ (λ e. omega (arith, through-lower (below-through (length R) i i e)))

  -- every reading names a node
  abbrev pub Named : Type 0
  Named = (i j : ℕ) → mem j (read_by R i) ≡ true → j < length R

  pub direct-below : (i j : ℕ) → mem j (read_by R i) ≡ true → below (length R) i j ≡ true
  unfolding read_through
  direct-below i j e = rw add-zero at (below-further 0 (length R) i j e)

  pub through-below : Named → {i j : ℕ} → Through R i j → below (length R) i j ≡ true
  through-below named (directly {i} {j} e) = direct-below i j e
  through-below named (by-others {i} {j} {k} e p) = below-trans (length R) k i j (named i k e) (direct-below i k e) (through-below named p)
