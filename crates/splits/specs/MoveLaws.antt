-- The steps of a move: looking for the place that gives, from the right; and the stores at and before it, which make the next split.
use Rattle.std.specs.Prelude.{ℕ, zero, suc, ◌+◌, ◌-◌, ◌≤◌, ◌<◌, List, [], ◌∷◌, ◌++◌, true, false, ◌≡◌, refl, ltb, length, get_or, take, drop, set}
use Rattle.std.proofs.Common.{append_assoc, sym, ap, ◌∙◌, zero-add, suc-add, add-one, arith, take-append-drop, length-take-le, take-take, lt-ltb, le-ltb, ltb-true}
use Rattle.std.proofs.Math.Option.{none, some}
use Rattle.std.proofs.Math.Seq.{slice, slice-cons, slice_empty, length-slice, take-nil}
use Rattle.std.proofs.lemmas.List.{drop-append-le}
use Rattle.language.specs.Limits.{size_most}
use Rattle.language.specs.Result.{both, when}
use Rattle.theory.specs.Lists.{none-is-not-some, both_left, both_right}
use Rattle.splits.specs.Next.{may_move, last_as, before, next}
use Rattle.splits.specs.Moves.{Moves, Pivot}

-- ---- the test of two sizes
pub may-move-too-little : (k p : ℕ) → p ≤ 1 → false ≡ may_move k p
unfolding may_move both
may-move-too-little k p h = rw (le-ltb 1 p h)

pub may-move-if-below : (k p : ℕ) → 1 < p → ltb k size_most ≡ may_move k p
unfolding may_move both
may-move-if-below k p h = rw (lt-ltb 1 p h)

may-move-small : (k p : ℕ) → may_move k p ≡ true → k < size_most
unfolding may_move
may-move-small k p e = ltb-true k size_most (both_right (ltb 1 p) (ltb k size_most) e)

may-move-some : (k p : ℕ) → may_move k p ≡ true → 1 < p
unfolding may_move
may-move-some k p e = ltb-true 1 p (both_left (ltb 1 p) (ltb k size_most) e)

-- ---- the next of sizes behind others
next-behind : (xs ks : List ℕ) {js : List ℕ} → next ks ≡ some js → next (xs ++ ks) ≡ some (xs ++ js)
unfolding next before
next-behind [] ks e = e
next-behind (x ∷ xs) ks e = ap (before x (xs ++ ks)) (next-behind xs ks e)

-- two sizes of which the second gives, or does not
next-given : (k p : ℕ) (ks : List ℕ) → next (p ∷ ks) ≡ none → may_move k p ≡ true → next (k ∷ p ∷ ks) ≡ some (suc k ∷ last_as (p - 1) (1 ∷ ks))
unfolding next before when
next-given k p ks e g = ap (before k (p ∷ ks)) e ∙ rw g

next-quiet : (k p : ℕ) (ks : List ℕ) → next (p ∷ ks) ≡ none → may_move k p ≡ false → next (k ∷ p ∷ ks) ≡ none
unfolding next before when
next-quiet k p ks e g = ap (before k (p ∷ ks)) e ∙ rw g

-- ---- looking from the right: no place behind j gives to the one before it
pub record Looks (sizes : List ℕ) (at end j : ℕ) : Type 0 where
  pub from : at ≤ j
  pub within : j < end
  pub room : end ≤ length sizes
  pub quiet : next (slice j end sizes) ≡ none

two-and-rest : (sizes : List ℕ) (end j : ℕ) → end ≤ length sizes → 0 < j → j < end → slice (j - 1) end sizes ≡ get_or sizes (j - 1) 0 ∷ get_or sizes j 0 ∷ slice (suc j) end sizes
two-and-rest sizes end j room pos less =
    let here : suc (j - 1) ≡ j = omega arith in
    slice-cons (j - 1) end sizes 0 (omega arith) room ∙ ap (λ i. get_or sizes (j - 1) 0 ∷ slice i end sizes) here ∙ ap (λ l. get_or sizes (j - 1) 0 ∷ l) (slice-cons j end sizes 0 less room)

pub looks-start : (sizes : List ℕ) (at end : ℕ) → at < end → end ≤ length sizes → Looks sizes at end (end - 1)
unfolding next before
looks-start sizes at end h room = record { from = omega arith; within = omega arith; room = room; quiet = ap next one }
  where
    behind : suc (end - 1) ≡ end
    behind = omega arith

    one : slice (end - 1) end sizes ≡ get_or sizes (end - 1) 0 ∷ []
    one = slice-cons (end - 1) end sizes 0 (omega arith) room ∙ ap (λ i. get_or sizes (end - 1) 0 ∷ slice i end sizes) behind ∙ ap (λ l. get_or sizes (end - 1) 0 ∷ l) (slice_empty end sizes)

module _ {sizes : List ℕ} {at end j : ℕ} (v : Looks sizes at end j) where
  from-j : next (get_or sizes j 0 ∷ slice (suc j) end sizes) ≡ none
  from-j = sym (ap next (slice-cons j end sizes 0 v.within v.room)) ∙ v.quiet

  pub looks_on : at < j → may_move (get_or sizes (j - 1) 0) (get_or sizes j 0) ≡ false → Looks sizes at end (j - 1)
  looks_on h g = record {
    from = omega arith;
    within = omega (arith, v.within);
    room = v.room;
    quiet = ap next (two-and-rest sizes end j v.room (omega arith) v.within) ∙ next-quiet _ _ _ from-j g;
  }

-- ---- parts of a list
pub drop_of_take : (n m : ℕ) (l : List ℕ) → drop n (take (n + m) l) ≡ take m (drop n l)
drop_of_take zero m l = rw zero-add
drop_of_take (suc n) m [] = ap (λ k. drop (suc n) k) (take-nil (suc n + m)) ∙ sym (take-nil m)
drop_of_take (suc n) m (x ∷ l) = rw suc-add (drop_of_take n m l)

take-and-slice : (f t : ℕ) (l : List ℕ) → f ≤ t → take f l ++ slice f t l ≡ take t l
take-and-slice f t l h = ap (λ k. k ++ slice f t l) (sym (take-take f t l h)) ∙ take-append-drop f (take t l)

slice-and-drop : (f t : ℕ) (l : List ℕ) → f ≤ t → t ≤ length l → slice f t l ++ drop t l ≡ drop f l
slice-and-drop f t l h room = sym (drop-append-le f (take t l) (drop t l) (omega (arith, length-take-le t l room))) ∙ ap (drop f) (take-append-drop t l)

slice-and-slice : (f m t : ℕ) (l : List ℕ) → f ≤ m → m ≤ t → t ≤ length l → slice f m l ++ slice m t l ≡ slice f t l
slice-and-slice f m t l h k room =
    ap (λ i. drop f i ++ slice m t l) (sym (take-take m t l k)) ∙ slice-and-drop f m (take t l) h (omega (arith, length-take-le t l room))

-- ---- the three stores
last_stored : (p : ℕ) (k : ℕ) (ys zs : List ℕ) → set (k ∷ (ys ++ zs)) (length ys) p ≡ last_as p (k ∷ ys) ++ zs
unfolding last_as
last_stored p k [] zs = refl
last_stored p k (y ∷ ys) zs = ap (λ l. k ∷ l) (last_stored p y ys zs)

stored : (xs ys zs : List ℕ) (k p q : ℕ) →
    set (set (set (xs ++ (k ∷ p ∷ (ys ++ zs))) (length xs) (suc k)) (suc (length xs)) 1) (suc (length xs) + length ys) q ≡ xs ++ (suc k ∷ (last_as q (1 ∷ ys) ++ zs))
stored [] ys zs k p q = rw (suc-add, zero-add) (ap (λ l. suc k ∷ l) (last_stored q 1 ys zs))
stored (x ∷ xs) ys zs k p q = rw suc-add (ap (λ l. x ∷ l) (stored xs ys zs k p q))

stored_at : (xs ys zs : List ℕ) (k p q i j e : ℕ) → length xs ≡ i → suc i ≡ j → j + length ys ≡ e →
    set (set (set (xs ++ (k ∷ p ∷ (ys ++ zs))) i (k + 1)) j 1) e q ≡ xs ++ (suc k ∷ (last_as q (1 ∷ ys) ++ zs))
stored_at xs ys zs k p q i j e a b c = rw (sym c, sym b, sym a, add-one) (stored xs ys zs k p q)

-- the place that gives is behind the first, its size more than 1, and the one before it may grow
module _ {sizes : List ℕ} {at end j : ℕ} (g : Pivot sizes at end j) (ne : j ≡ at → ⊥) where
  pub pivot-behind : at < j
  pivot-behind = omega (arith, g.from, ne)

  pub pivot-grows : get_or sizes (j - 1) 0 < size_most
  pivot-grows = may-move-small _ _ (g.giving pivot-behind)

  pub pivot-some : 1 < get_or sizes j 0
  pivot-some = may-move-some _ _ (g.giving pivot-behind)

module _ (sizes : List ℕ) (at end j : ℕ) (room : end ≤ length sizes) (h : at < j) (g : Pivot sizes at end j) where
  abbrev size : ℕ
  size = get_or sizes (j - 1) 0

  abbrev lowered : ℕ
  lowered = get_or sizes j 0

  -- the sizes before the one that grows, within the split; those behind the one that gives
  abbrev early : List ℕ
  early = slice at (j - 1) sizes

  abbrev late : List ℕ
  late = slice (suc j) end sizes

  abbrev made : List ℕ
  made = early ++ (suc size ∷ last_as (lowered - 1) (1 ∷ late))

  next-made : next (slice at end sizes) ≡ some made
  next-made =
      ap next (sym (slice-and-slice at (j - 1) end sizes (omega arith) (omega (arith, g.within)) room) ∙ ap (λ l. early ++ l) (two-and-rest sizes end j room (omega arith) g.within))
      ∙ next-behind early (size ∷ lowered ∷ late) (next-given size lowered late (sym (ap next (slice-cons j end sizes 0 g.within room)) ∙ g.quiet) (g.giving h))

  parts : sizes ≡ take (j - 1) sizes ++ (size ∷ lowered ∷ (late ++ drop end sizes))
  parts =
      sym (take-append-drop (j - 1) sizes)
      ∙ ap (λ l. take (j - 1) sizes ++ l)
      (sym (slice-and-drop (j - 1) end sizes (omega (arith, g.within)) room) ∙ ap (λ l. l ++ drop end sizes) (two-and-rest sizes end j room (omega arith) g.within))

  sizes-made : set (set (set sizes (j - 1) (size + 1)) j 1) (end - 1) (lowered - 1) ≡ take at sizes ++ made ++ drop end sizes
  sizes-made =
      ap (λ l. set (set (set l (j - 1) (size + 1)) j 1) (end - 1) (lowered - 1)) parts
      ∙ stored_at (take (j - 1) sizes) late (drop end sizes) size lowered (lowered - 1) (j - 1) j (end - 1) (length-take-le (j - 1) sizes (omega (arith, g.within))) (omega arith) (omega (arith, length-slice (suc j) end sizes room, g.within))
      ∙ ap (λ l. l ++ (suc size ∷ (last_as (lowered - 1) (1 ∷ late) ++ drop end sizes))) (sym (take-and-slice at (j - 1) sizes (omega arith)))
      ∙ sym (append_assoc (take at sizes ++ early) (suc size ∷ last_as (lowered - 1) (1 ∷ late)) (drop end sizes))
      ∙ ap (λ l. l ++ drop end sizes) (append_assoc (take at sizes) early (suc size ∷ last_as (lowered - 1) (1 ∷ late)))

-- ---- the promise, return by return
module _ (sizes : List ℕ) (at r : ℕ) where
  moves_not : next (take r (drop at sizes)) ≡ none → Moves sizes at r false sizes
  moves_not e = record { moves = λ _ f. none-is-not-some (sym e ∙ f); ends = λ _ _. (refl, refl); beyond = λ _. (refl, refl) }

  pub moves-nothing : r ≡ 0 → Moves sizes at r false sizes
  unfolding next
  moves-nothing e = moves_not (rw e refl)

  pub moves-none : (j : ℕ) → Pivot sizes at (at + r) j → j ≡ at → Moves sizes at r false sizes
  moves-none j g e = moves_not (ap next (sym (drop_of_take at r sizes)) ∙ (rw e at g.quiet))

  pub moves-on : (j : ℕ) → at + r ≤ length sizes → Pivot sizes at (at + r) j → (j ≡ at → ⊥) →
      Moves sizes at r true (set (set (set sizes (j - 1) (get_or sizes (j - 1) 0 + 1)) j 1) (at + r - 1) (get_or sizes j 0 - 1))
  moves-on j room g ne = record {
    moves = λ {js} _ e. (refl, sizes-made sizes at (at + r) j room less g ∙ ap (λ ks. take at sizes ++ ks ++ drop (at + r) sizes) (same js e));
    ends = λ _ e. none-is-not-some (sym e ∙ is);
    beyond = λ h. absurd (omega arith);
  }
    where
      less : at < j
      less = pivot-behind g ne

      is : next (take r (drop at sizes)) ≡ some (made sizes at (at + r) j room less g)
      is = ap next (sym (drop_of_take at r sizes)) ∙ next-made sizes at (at + r) j room less g

      same : (js : List ℕ) → next (take r (drop at sizes)) ≡ some js → made sizes at (at + r) j room less g ≡ js
      same js e = let z : some (made sizes at (at + r) j room less g) ≡ some js = sym is ∙ e in cc
