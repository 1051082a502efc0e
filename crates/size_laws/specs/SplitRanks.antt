-- How many splits may still come: what is missing of each size to the largest one, read as one number, which falls with every
-- split. So the walk ends on any bytes.
use Rattle.std.specs.Prelude.{ℕ, zero, suc, ◌+◌, ◌*◌, ◌-◌, ◌≤◌, ◌<◌, List, [], ◌∷◌, ◌++◌, Bool, true, false, ◌≡◌, refl, length, take, drop, leb, ltb}
use Rattle.std.proofs.Common.{append_assoc, sym, ap, ◌∙◌, subst, arith, mul-suc, mul-le-mul_left, length-drop, length-take-le, take_at, drop_at, leb-true, leb-false, ltb-true}
use Rattle.std.proofs.Math.Option.{Option, none, some}
use Rattle.language.specs.Limits.{size_most}
use Rattle.language.specs.Result.{choose}
use Rattle.theory.specs.Lists.{false-is-not-true, both_right}
use Rattle.theory.specs.Tests.{Whenever, w_some, w_none, whenever-when, whenever-is}
use Rattle.splits.specs.Next.{may_move, last_as, before, next}
use Rattle.splits.specs.Moves.{Moves}
use Rattle.splits.specs.MoveLaws.{drop_of_take}
use Rattle.splits.specs.Walks.{next-long}
use Rattle.text.specs.declared.Cursor.{Cursor}
use Rattle.size_steps.specs.declared.Site.{Site}
use Rattle.size_steps.specs.Sites.{moved_on_of, widened_by, Kept}

-- how many lists of so many digits there are, a digit for each number up to the largest size; and how many come behind this one
unfoldable pub whole : ℕ → ℕ
whole zero = 1
whole (suc n) = suc size_most * whole n

unfoldable pub splits_left : List ℕ → ℕ
splits_left [] = 0
splits_left (k ∷ ks) = whole (length ks) * (size_most - k) + splits_left ks

head-less : (k w r : ℕ) → r < w → w * (size_most - k) + r < suc size_most * w
head-less k w r less = let most : suc (size_most - k) ≤ suc size_most = omega arith in omega (arith, less, mul-suc w (size_most - k), mul-le-mul_left w most)

left_less : (ks : List ℕ) → splits_left ks < whole (length ks)
unfolding splits_left whole
left_less [] = omega arith
left_less (k ∷ ks) = head-less k (whole (length ks)) (splits_left ks) (left_less ks)

-- ---- behind the next split there are fewer
record Fewer (ks js : List ℕ) : Type 0 where
  long : length js ≡ length ks
  fewer : splits_left js < splits_left ks

last-as-long : (p : ℕ) (ks : List ℕ) → length (last_as p ks) ≡ length ks
unfolding last_as
last-as-long p [] = refl
last-as-long p (k ∷ []) = refl
last-as-long p (k ∷ j ∷ ks) = ap suc (last-as-long p (j ∷ ks))

fewer-behind : (k : ℕ) (ks js : List ℕ) → Fewer ks js → Fewer (k ∷ ks) (k ∷ js)
unfolding splits_left
fewer-behind k ks js g = record { long = ap suc g.long; fewer = rw g.long (omega (arith, g.fewer)) }

-- a size below the largest one is one more
one_less : (k w : ℕ) → k < size_most → w * (size_most - k) ≡ w * (size_most - suc k) + w
one_less k w less = let same : size_most - k ≡ suc (size_most - suc k) = omega (arith, less) in ap (λ d. w * d) same ∙ omega (arith, mul-suc w (size_most - suc k))

fewer-before : (k : ℕ) (ks js : List ℕ) → length js ≡ length ks → k < size_most → Fewer (k ∷ ks) (suc k ∷ js)
unfolding splits_left
fewer-before k ks js long less = record { long = ap suc long; fewer = rw long (omega (arith, one_less k (whole (length ks)) less, subst (λ n. splits_left js < whole n) long (left_less js))) }

before-fewer : (k : ℕ) (ks : List ℕ) (o : Option (List ℕ)) → Whenever (Fewer ks) o → Whenever (Fewer (k ∷ ks)) (before k ks o)
unfolding before may_move
before-fewer k ks (some js) (w_some g) = w_some (fewer-behind k ks js g)
before-fewer k [] none w = w_none
before-fewer k (p ∷ ks) none w = whenever-when (may_move k p) _ (λ e. fewer-before k (p ∷ ks) _ (last-as-long (p - 1) (1 ∷ ks)) (ltb-true k size_most (both_right (ltb 1 p) (ltb k size_most) e)))

next-fewer : (ks : List ℕ) → Whenever (Fewer ks) (next ks)
unfolding next
next-fewer [] = w_none
next-fewer (k ∷ ks) = before-fewer k ks (next ks) (next-fewer ks)

module _ (sizes : List ℕ) (at r : ℕ) (room : at + r ≤ length sizes) where
  written-there : {js sizes' : List ℕ} → length js ≡ r → sizes' ≡ take at sizes ++ js ++ drop (at + r) sizes → take r (drop at sizes') ≡ js
  written-there {js} {sizes'} long e =
      ap (λ (l : List ℕ). take r (drop at l)) (e ∙ append_assoc (take at sizes) js (drop (at + r) sizes))
      ∙ ap (take r) (drop_at (take at sizes) (js ++ drop (at + r) sizes) at (length-take-le at sizes (omega arith))) ∙ take_at js (drop (at + r) sizes) r long

  there-long : length (take r (drop at sizes)) ≡ r
  there-long = length-take-le r (drop at sizes) (omega (arith, length-drop at sizes, room))

  moved-falls : {sizes' : List ℕ} (o : Option (List ℕ)) → next (take r (drop at sizes)) ≡ o → Moves sizes at r true sizes' → splits_left (take r (drop at sizes')) < splits_left (take r (drop at sizes))
  moved-falls none e m = false-is-not-true (sym (m.ends room e).0)
  moved-falls (some js) e m = rw (written-there (next-long _ e ∙ there-long) (m.moves room e).1) (whenever-is (next-fewer (take r (drop at sizes))) e).fewer

-- ---- fewer splits are left whenever there is a next one
pub splits-fall : {sizes sizes' : List ℕ} (at r : ℕ) → Moves sizes at r true sizes' → splits_left (take r (drop at sizes')) < splits_left (take r (drop at sizes))
splits-fall {sizes} {sizes'} at r m = go (leb (at + r) (length sizes)) refl
  where
    go : (b : Bool) → leb (at + r) (length sizes) ≡ b → splits_left (take r (drop at sizes')) < splits_left (take r (drop at sizes))
    go true e = moved-falls sizes at r (leb-true _ _ e) (next (take r (drop at sizes))) refl m
    go false e = false-is-not-true (sym (m.beyond (leb-false _ _ e)).0)

-- ---- the measure of the loop: its test, and the split in the list
unfoldable pub walk_left : Bool → List ℕ → ℕ
walk_left more ks = choose more (suc (splits_left ks)) 0

pub walk-falls : {sizes sizes' : List ℕ} {moved : Bool} (at r : ℕ) → Moves sizes at r moved sizes' → walk_left moved (take r (drop at sizes')) < walk_left true (take r (drop at sizes))
unfolding walk_left choose
walk-falls {moved = true} at r m = omega (arith, splits-fall at r m)
walk-falls {moved = false} at r m = omega arith

-- ---- a turn keeps the sizes up to the split's end, and then writes the next split
module _ (p : Site) (n own : ℕ) {m o : Site} {used : ℕ} {at : Cursor} {scope sizes scope₁ sizes₁ : List ℕ} (moved : m ≡ moved_on_of p at used) (wide : o ≡ widened_by m n own) (kept : Kept o scope sizes scope₁ sizes₁) where
  pub same-split : take own (drop p.sizes sizes₁) ≡ take own (drop p.sizes sizes)
  same-split =
      let place = wide ∙ ap (λ (z : Site). widened_by z n own) moved in
      let same : take (p.sizes + own) sizes₁ ≡ take (p.sizes + own) sizes = (subst (λ (z : Site). Kept z scope sizes scope₁ sizes₁) place kept).sizes_too in
      sym (drop_of_take p.sizes own sizes₁) ∙ ap (drop p.sizes) same ∙ drop_of_take p.sizes own sizes

  pub turn-falls : {next : Bool} {sizes₂ : List ℕ} → Moves sizes₁ p.sizes own next sizes₂ → walk_left next (take own (drop p.sizes sizes₂)) < walk_left true (take own (drop p.sizes sizes))
  turn-falls moves = rw (sym same-split) (walk-falls p.sizes own moves)

-- by the test of the loop
pub less_as : {more : Bool} {n : ℕ} (ks : List ℕ) → more ≡ true → n < walk_left true ks → n < walk_left more ks
less_as ks e less = rw e less
