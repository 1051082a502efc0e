-- Where no node reads itself, directly or by others, the computed order has each node exactly once, behind all that it reads.
use Prim.Native.Nat.{ℕ, zero, suc, ◌+◌, ◌≤◌, ◌<◌}
use mathlib.Core.List.{List, [], ◌∷◌, ◌++◌}
use Rattle.std.specs.Prelude.{Bool, not, ◌≡◌, refl, length, eqb}
use Rattle.std.proofs.Math.Bool.{true, false}
use Rattle.std.proofs.Math.Option.{Option, none, some}
use Rattle.std.proofs.Common.{sym, ap, ◌∙◌, arith}
use Rattle.std.proofs.Math.Path.{subst}
use borrow.Author.Tests.{not-true, eqb-true}
use Rattle.language.specs.Result.{both, choose}
use Rattle.language.specs.Within.{All, all_nil, all_cons}
use Rattle.language.specs.Slide.{mem}
use Rattle.language.specs.Order.{read_by, all_mem, ready, lowest, and_then, order_from, Follows, f_none, f_next, Respects}
use Rattle.theory.specs.Lists.{both_left, both_right, both_true, both-never, false-is-not-true, not_of_false, never_true}
use Rattle.theory.specs.Choices.{by-test, one_left, one_right, one-cases}
use Rattle.theory.specs.Members.{mem-head, mem-tail, mem-append}
use Rattle.theory.specs.Places.{equal_or_not}
use Rattle.theory.specs.Totals.{total, total-less, weight-in-total}
use Rattle.theory.specs.ReadThrough.{below, below-trans, direct-below, Named}

-- ---- members of a list with one more
pub mem-snoc : (j i : ℕ) (done : List ℕ) → mem j done ≡ true → mem j (done ++ (i ∷ [])) ≡ true
mem-snoc j i done e = mem-append j done (i ∷ []) ∙ one_left (mem j (i ∷ [])) e

pub mem-snoc-last : (i : ℕ) (done : List ℕ) → mem i (done ++ (i ∷ [])) ≡ true
mem-snoc-last i done = mem-append i done (i ∷ []) ∙ one_right (mem i done) (mem-head i [])

pub mem-snoc-cases : {X : Type 0} (j i : ℕ) (done : List ℕ) → mem j (done ++ (i ∷ [])) ≡ true → (mem j done ≡ true → X) → (j ≡ i → X) → X
unfolding mem
mem-snoc-cases j i done e f g = one-cases (mem j done) (mem j (i ∷ [])) (sym (mem-append j done (i ∷ [])) ∙ e) f
    (λ z. one-cases (eqb j i) false z (λ y. g (eqb-true j i y)) (λ y. false-is-not-true y))

pub undone-before : (j i : ℕ) (done : List ℕ) → mem j (done ++ (i ∷ [])) ≡ false → mem j done ≡ false
undone-before j i done e = never_true (mem j done) (λ z. false-is-not-true (sym e ∙ mem-snoc j i done z))

-- ---- what follows are nodes
pub follow-nodes : {R : List (List ℕ)} {done is : List ℕ} → Follows R done is → All (λ i. i < length R) is
follow-nodes f_none = all_nil
follow-nodes (f_next less new all rest) = all_cons less (follow-nodes rest)

-- ---- all of these are members
pub all-of-mems : (js done : List ℕ) → all_mem js done ≡ true → All (λ j. mem j done ≡ true) js
unfolding all_mem
all-of-mems [] done e = all_nil
all-of-mems (j ∷ js) done e = all_cons (both_left (mem j done) (all_mem js done) e) (all-of-mems js done (both_right (mem j done) (all_mem js done) e))

-- one of these is not a member
record Missing (js done : List ℕ) : Type 0 where
  one : ℕ
  there : mem one js ≡ true
  undone : mem one done ≡ false

missing : (js done : List ℕ) → all_mem js done ≡ false → Missing js done
unfolding all_mem both
missing [] done e = false-is-not-true (sym e)
missing (j ∷ js) done e = by-test (mem j done)
    (λ z. let m = missing js done (sym (ap (λ b. both b (all_mem js done)) z) ∙ e) in record { one = m.one; there = mem-tail m.one j js m.there; undone = m.undone })
    (λ z. record { one = j; there = mem-head j js; undone = z })

-- ---- the lowest number that passes
pub data Lowest (f : ℕ → Bool) (n i : ℕ) : Option ℕ → Type 0 where
  l_none : ((j : ℕ) → i ≤ j → j < i + n → f j ≡ false) → Lowest f n i none
  l_some : {j : ℕ} → i ≤ j → j < i + n → f j ≡ true → ((k : ℕ) → i ≤ k → k < j → f k ≡ false) → Lowest f n i (some j)

pub lowest-is : (f : ℕ → Bool) (n i : ℕ) → Lowest f n i (lowest f n i)
unfolding lowest choose
lowest-is f zero i = l_none (λ j le less. absurd (omega arith))
lowest-is f (suc n) i = by-test (f i)
    (λ e. rw e (l_some {j = i} (omega arith) (omega arith) e (λ k le less. absurd (omega arith))))
    (λ e. rw e (behind e (lowest-is f n (suc i))))
  where
    at_first : f i ≡ false → (k : ℕ) → i ≤ k → (suc i ≤ k → f k ≡ false) → f k ≡ false
    at_first e k le g = equal_or_not i k (λ z. subst (λ x. f x ≡ false) z e) (λ z. g (omega arith))

    behind : {o : Option ℕ} → f i ≡ false → Lowest f n (suc i) o → Lowest f (suc n) i o
    behind e (l_none none_of) = l_none (λ j le less. at_first e j le (λ later. none_of j later (omega arith)))
    behind e (l_some {j} le less at low) = l_some {j = j} (omega arith) (omega arith) at (λ k le' less'. at_first e k le' (λ later. low k later less'))

total-of-all : (f : ℕ → Bool) (n : ℕ) → total (λ k. 1) f n ≤ n
unfolding total choose
total-of-all f zero = omega arith
total-of-all f (suc n) = omega (arith, chosen (f n), total-of-all f n)
  where
    chosen : (b : Bool) → choose b 1 0 ≤ 1
    chosen true = omega arith
    chosen false = omega arith

module _ (R : List (List ℕ)) where
  -- no node reads itself: its row of the table does not name it
  abbrev pub NoneItself : Type 0
  NoneItself = (i : ℕ) → i < length R → below R (length R) i i ≡ false

  abbrev undone : List ℕ → ℕ → Bool
  undone done j = not (mem j done)

  -- the nodes not done that node i reads, directly or by others
  abbrev ahead : List ℕ → ℕ → ℕ → Bool
  ahead done i j = both (undone done j) (below R (length R) i j)

  -- ---- every node behind all that it reads: by the way the order is made
  pub order-follows : (m : ℕ) (done : List ℕ) → Follows R done (order_from R m done)
  unfolding order_from and_then ready
  order-follows zero done = f_none
  order-follows (suc m) done = next (λ j. order-follows m (done ++ (j ∷ []))) (lowest-is (ready R done) (length R) 0)
    where
      next : {o : Option ℕ} → ((j : ℕ) → Follows R (done ++ (j ∷ [])) (order_from R m (done ++ (j ∷ [])))) → Lowest (ready R done) (length R) 0 o → Follows R done (and_then o (λ i. order_from R m (done ++ (i ∷ []))))
      next again (l_none none_of) = f_none
      next again (l_some {j} le less at low) = f_next {i = j} (omega arith) (not-true (mem j done) (both_left (undone done j) (all_mem (read_by R j) done) at))
          (all-of-mems (read_by R j) done (both_right (undone done j) (all_mem (read_by R j) done) at)) (again j)

  -- ---- no node is left: some node is always ready
  record SomeReady (done : List ℕ) : Type 0 where
    node : ℕ
    is_node : node < length R
    is : ready R done node ≡ true

  module _ (named : Named R) (none_itself : NoneItself) where
    -- of two nodes of which the first reads the second, the second has fewer ahead of it
    fewer-ahead : (done : List ℕ) (i j : ℕ) → mem j (read_by R i) ≡ true → mem j done ≡ false → total (λ k. 1) (ahead done j) (length R) + 1 ≤ total (λ k. 1) (ahead done i) (length R)
    fewer-ahead done i j reads e =
        let direct = direct-below R i j reads in
        let less = named i j reads in
        total-less (λ k. 1) (λ k z. both_true (both_left _ _ z) (below-trans R (length R) j i k less direct (both_right _ _ z))) (length R) j less
        (both-never (undone done j) (none_itself j less)) (both_true (not_of_false e) direct)

    some-ready : (m : ℕ) (done : List ℕ) (i : ℕ) → i < length R → mem i done ≡ false → total (λ k. 1) (ahead done i) (length R) < m → SomeReady done
    unfolding ready
    some-ready zero done i less e few = absurd (omega arith)
    some-ready (suc m) done i less e few = by-test (all_mem (read_by R i) done)
        (λ z. record { node = i; is_node = less; is = both_true (not_of_false e) z })
        (λ z. let w = missing (read_by R i) done z in some-ready m done w.one (named i w.one w.there) w.undone (omega (arith, fewer-ahead done i w.one w.there w.undone)))

    -- with one more done, fewer are not
    fewer-left : (done : List ℕ) (j : ℕ) → j < length R → mem j done ≡ false → total (λ k. 1) (undone (done ++ (j ∷ []))) (length R) + 1 ≤ total (λ k. 1) (undone done) (length R)
    fewer-left done j less e = total-less (λ k. 1) (λ k z. not_of_false (undone-before k j done (not-true (mem k (done ++ (j ∷ []))) z))) (length R) j less
        (ap not (mem-snoc-last j done)) (not_of_false e)

    order-every : (m : ℕ) (done : List ℕ) → total (λ k. 1) (undone done) (length R) ≤ m → (i : ℕ) → i < length R → mem i done ≡ false → mem i (order_from R m done) ≡ true
    unfolding order_from and_then ready
    order-every zero done few i less e = absurd (omega (arith, weight-in-total (λ k. 1) (undone done) (length R) i less (not_of_false e)))
    order-every (suc m) done few i less e = next (λ j short left. order-every m (done ++ (j ∷ [])) short i less left) (lowest-is (ready R done) (length R) 0)
      where
        next : {o : Option ℕ} → ((j : ℕ) → total (λ k. 1) (undone (done ++ (j ∷ []))) (length R) ≤ m → mem i (done ++ (j ∷ [])) ≡ false → mem i (order_from R m (done ++ (j ∷ []))) ≡ true) →
            Lowest (ready R done) (length R) 0 o → mem i (and_then o (λ j. order_from R m (done ++ (j ∷ [])))) ≡ true
        next again (l_none none_of) =
            let r = some-ready (suc (total (λ k. 1) (ahead done i) (length R))) done i less e (omega arith) in
            false-is-not-true (sym (none_of r.node (omega arith) (omega (arith, r.is_node))) ∙ r.is)
        next again (l_some {j} le small at low) =
            let left = not-true (mem j done) (both_left (undone done j) (all_mem (read_by R j) done) at) in
            by-test (mem i (done ++ (j ∷ [])))
            (λ z. mem-snoc-cases i j done z (λ y. false-is-not-true (sym e ∙ y)) (λ y. subst (λ x. mem x (j ∷ order_from R m (done ++ (j ∷ []))) ≡ true) (sym y) (mem-head j (order_from R m (done ++ (j ∷ []))))))
            (λ z. mem-tail i j (order_from R m (done ++ (j ∷ []))) (again j (omega (arith, fewer-left done j (omega arith) left)) z))

    pub order-respects : Respects R (order_from R (length R) [])
    unfolding mem
    order-respects = record {
      follows = order-follows (length R) [];
      every = λ i less. order-every (length R) [] (total-of-all (undone []) (length R)) i less refl;
    }
