-- The splits of a size are a chain from the first one by `next` to the end.
use Rattle.std.specs.Prelude.{ℕ, zero, suc, ◌+◌, ◌-◌, ◌≤◌, ◌<◌, List, [], ◌∷◌, ◌++◌, map, Bool, true, false, ◌≡◌, refl, replicate, ltb}
use Rattle.std.proofs.Common.{append-nil, sym, ap, subst, ◌∙◌, arith, lt-ltb, ltb-true, ltb-false}
use Rattle.std.proofs.Math.Option.{none, some}
use Rattle.std.proofs.Math.Nat.{sub-zero}
use Rattle.language.specs.Limits.{size_most}
use Rattle.language.specs.Result.{both, when}
use Rattle.language.specs.Splits.{firsts, splits_of, splits}
use Rattle.theory.specs.Lists.{both_true}
use Rattle.splits.specs.Next.{first_of, may_move, last_as, before, next, Chain, last, more}

-- ---- a stretch of the chain, up to ls
data Stretch : List ℕ → List (List ℕ) → List ℕ → Type 0 where
  stop : {ks : List ℕ} → Stretch ks (ks ∷ []) ks
  step : {ks js ls : List ℕ} {l : List (List ℕ)} → next ks ≡ some js → Stretch js l ls → Stretch ks (ks ∷ l) ls

ended : {ks ls : List ℕ} {l : List (List ℕ)} → Stretch ks l ls → next ls ≡ none → Chain ks l
ended stop e = last e
ended (step f s) e = more f (ended s e)

joined : {ks js ls ms : List ℕ} {l m : List (List ℕ)} → Stretch ks l ls → next ls ≡ some js → Stretch js m ms → Stretch ks (l ++ m) ms
joined stop e t = step e t
joined (step f s) e t = step f (joined s e t)

behind : (p : ℕ) {ks ls : List ℕ} {l : List (List ℕ)} → Stretch ks l ls → Stretch (p ∷ ks) (map (λ js. p ∷ js) l) (p ∷ ls)
unfolding next before
behind p stop = stop
behind p (step {ks} f s) = step (ap (before p ks) f) (behind p s)

-- ---- the last split: what is left, 1, 1, ..
last_of : ℕ → ℕ → List ℕ
last_of r n = (n - r) ∷ replicate r 1

last-has-no-next : (k r : ℕ) → next (k ∷ replicate r 1) ≡ none
unfolding next before may_move both when
last-has-no-next k zero = refl
last-has-no-next k (suc r) = ap (before k (replicate (suc r) 1)) (last-has-no-next 1 r)

ones-with-last : (p r : ℕ) → last_as p (replicate (suc r) 1) ≡ replicate r 1 ++ (p ∷ [])
unfolding last_as
ones-with-last p zero = refl
ones-with-last p (suc r) = ap (λ ks. 1 ∷ ks) (ones-with-last p r)

may-move-more : (k p : ℕ) → 1 < p → k < size_most → may_move k p ≡ true
unfolding may_move
may-move-more k p h less = both_true (lt-ltb 1 p h) (lt-ltb k size_most less)

-- after the last split behind p comes the first one behind p + 1
over-the-last : (p r q : ℕ) → r < q → p < size_most → next (p ∷ last_of r (suc q)) ≡ some (suc p ∷ first_of (suc r) q)
unfolding next before when first_of last_of
over-the-last p r q h less =
    ap (before p (last_of r (suc q))) (last-has-no-next (suc q - r) r)
    ∙ ap (λ b. when b (suc p ∷ last_as (suc q - r - 1) (replicate (suc r) 1))) (may-move-more p (suc q - r) (omega arith) less)
    ∙ ap (λ ks. some (suc p ∷ ks)) (ones-with-last (suc q - r - 1) r)
    ∙ ap (λ k. some (suc p ∷ (replicate r 1 ++ (k ∷ [])))) (omega arith)

-- ---- all splits
one-size-more : (r q : ℕ) → splits_of (suc r) (suc q) ≡ firsts (splits_of r) 1 q
unfolding splits_of
one-size-more r q = ap (firsts (splits_of r) 1) (omega arith)

no_room : (r p q : ℕ) → q ≤ r → firsts (splits_of r) p q ≡ []
unfolding firsts
no_room r p zero h = refl
no_room zero p (suc q) h = absurd (omega arith)
no_room (suc r) p (suc q) h =
    ap (λ l. map (λ ks. p ∷ ks) l ++ firsts (splits_of (suc r)) (suc p) q) (one-size-more r q ∙ no_room r 1 q (omega arith)) ∙ no_room (suc r) (suc p) q (omega arith)

-- behind p, and then behind p + 1 if there is room for it
first-and-rest : (r p q : ℕ) → r < suc q → p < size_most → Stretch (first_of (suc r) (suc q)) (splits_of r (suc q)) (last_of r (suc q)) →
    (r < q → Stretch (suc p ∷ first_of (suc r) q) (firsts (splits_of r) (suc p) q) (last_of (suc r) (suc p + q))) → Stretch (p ∷ first_of (suc r) (suc q)) (firsts (splits_of r) p (suc q)) (last_of (suc r) (p + suc q))
unfolding firsts last_of
first-and-rest r p q h less here rest = go (ltb r q) refl
  where
    go : (b : Bool) → ltb r q ≡ b → Stretch (p ∷ first_of (suc r) (suc q)) (firsts (splits_of r) p (suc q)) (last_of (suc r) (p + suc q))
    go true e =
        let sums : suc p + q ≡ p + suc q = omega arith in
        subst (λ n. Stretch (p ∷ first_of (suc r) (suc q)) (firsts (splits_of r) p (suc q)) (last_of (suc r) n)) sums (joined (behind p here) (over-the-last p r q (ltb-true r q e) less) (rest (ltb-true r q e)))
    go false e =
        let left : suc q - r ≡ 1 = omega (arith, ltb-false r q e) in
        let first : p ≡ p + suc q - suc r = omega (arith, ltb-false r q e) in
        rw (no_room r (suc p) q (ltb-false r q e), append-nil, sym first) (rw left at (behind p here))

-- from the first size p on, when all sizes sum to p + q
from_first : (r : ℕ) → ((n : ℕ) → r < n → n ≤ size_most → Stretch (first_of (suc r) n) (splits_of r n) (last_of r n)) → (p q : ℕ) → r < q → p + q ≤ size_most →
    Stretch (p ∷ first_of (suc r) q) (firsts (splits_of r) p q) (last_of (suc r) (p + q))
from_first r inner p zero h most = absurd (omega arith)
from_first r inner p (suc q) h most = first-and-rest r p q h (omega arith) (inner (suc q) h (omega arith)) (λ less. from_first r inner (suc p) q less (omega arith))

stretch : (r n : ℕ) → r < n → n ≤ size_most → Stretch (first_of (suc r) n) (splits_of r n) (last_of r n)
unfolding first_of last_of splits_of
stretch zero n h most = rw sub-zero stop
stretch (suc r) zero h most = absurd (omega arith)
stretch (suc r) (suc q) h most =
    let sums : 1 + q ≡ suc q = omega arith in
    let left : q - r ≡ suc q - suc r = omega arith in
    rw (one-size-more r q, sym left) (rw (sums, sym left) at (from_first r (stretch r) 1 q (omega arith) (omega arith)))

-- ---- the splits of n into r sizes
pub splits-chain : (r n : ℕ) → r ≤ n → n ≤ size_most → Chain (first_of r n) (splits r n)
unfolding first_of splits last_of next
splits-chain zero n h most = last refl
splits-chain (suc r) n h most = ended (stretch r n h most) (last-has-no-next (n - r) r)
