-- A caller that walks from the first split to the last one: the chain of what is still to come starts at the sizes in the list.
use Rattle.std.specs.Prelude.{ℕ, suc, ◌+◌, ◌-◌, ◌≤◌, List, [], ◌∷◌, ◌++◌, Bool, true, false, ◌≡◌, refl, length, take, drop, leb}
use Rattle.std.proofs.Common.{append_assoc, sym, ap, ◌∙◌, arith, length-append, length-drop, length-take-le, take_at, drop_at, leb-true, leb-false}
use Rattle.std.proofs.Math.Option.{Option, none, some}
use Rattle.language.specs.Limits.{size_most}
use Rattle.language.specs.Splits.{splits}
use Rattle.theory.specs.Lists.{false-is-not-true}
use Rattle.theory.specs.Tests.{Whenever, w_some, w_none, whenever-when, whenever-is}
use Rattle.splits.specs.Next.{first_of, may_move, last_as, before, next, Chain, last, more}
use Rattle.splits.specs.Moves.{Starts, Moves}
use Rattle.splits.specs.StartLaws.{first_long}
use Rattle.splits.specs.SplitsChain.{splits-chain}

-- ---- the next split has as many sizes
last-as-long : (p : ℕ) (ks : List ℕ) → length (last_as p ks) ≡ length ks
unfolding last_as
last-as-long p [] = refl
last-as-long p (k ∷ []) = refl
last-as-long p (k ∷ j ∷ ks) = ap suc (last-as-long p (j ∷ ks))

before-long : (k : ℕ) (ks : List ℕ) (o : Option (List ℕ)) → Whenever (λ js. length js ≡ length ks) o → Whenever (λ js. length js ≡ suc (length ks)) (before k ks o)
unfolding before
before-long k ks (some js) (w_some e) = w_some (ap suc e)
before-long k [] none w = w_none
before-long k (p ∷ ks) none w = whenever-when (may_move k p) _ (λ _. ap suc (last-as-long (p - 1) (1 ∷ ks)))

as_long : (ks : List ℕ) → Whenever (λ js. length js ≡ length ks) (next ks)
unfolding next
as_long [] = w_none
as_long (k ∷ ks) = before-long k ks (next ks) (as_long ks)

pub next-long : (ks : List ℕ) {js : List ℕ} → next ks ≡ some js → length js ≡ length ks
next-long ks e = whenever-is (as_long ks) e

-- ---- sizes written over others: they stand there, and all others as before
pub record Kept (sizes : List ℕ) (at r : ℕ) (sizes' : List ℕ) : Type 0 where
  pub long : length sizes' ≡ length sizes
  pub low : take at sizes' ≡ take at sizes
  pub high : drop (at + r) sizes' ≡ drop (at + r) sizes

module _ (sizes : List ℕ) (at r : ℕ) where
  nothing_written : {sizes' : List ℕ} → sizes' ≡ sizes → Kept sizes at r sizes'
  nothing_written e = record { long = ap length e; low = ap (take at) e; high = ap (drop (at + r)) e }

  module _ (js : List ℕ) (room : at + r ≤ length sizes) (long : length js ≡ r) where
    low-long : length (take at sizes) ≡ at
    low-long = length-take-le at sizes (omega arith)

    both_long : length (take at sizes ++ js) ≡ at + r
    both_long = length-append (take at sizes) js ∙ ap (λ k. k + length js) low-long ∙ ap (λ k. at + k) long

    written-kept : {sizes' : List ℕ} → sizes' ≡ take at sizes ++ js ++ drop (at + r) sizes → Kept sizes at r sizes'
    written-kept e = record {
      long = ap length e ∙ length-append (take at sizes ++ js) (drop (at + r) sizes) ∙ omega (arith, both_long, length-drop (at + r) sizes);
      low = ap (take at) (e ∙ append_assoc (take at sizes) js (drop (at + r) sizes)) ∙ take_at (take at sizes) (js ++ drop (at + r) sizes) at low-long;
      high = ap (drop (at + r)) e ∙ drop_at (take at sizes ++ js) (drop (at + r) sizes) (at + r) both_long;
    }

    written-there : {sizes' : List ℕ} → sizes' ≡ take at sizes ++ js ++ drop (at + r) sizes → take r (drop at sizes') ≡ js
    written-there e =
        ap (λ l. take r (drop at l)) (e ∙ append_assoc (take at sizes) js (drop (at + r) sizes))
        ∙ ap (take r) (drop_at (take at sizes) (js ++ drop (at + r) sizes) at low-long) ∙ take_at js (drop (at + r) sizes) r long

part-long : (sizes : List ℕ) (at r : ℕ) → at + r ≤ length sizes → length (take r (drop at sizes)) ≡ r
part-long sizes at r room = length-take-le r (drop at sizes) (omega (arith, length-drop at sizes))

-- ---- what the functions keep
pub starts-keep : {sizes sizes' : List ℕ} {at r n : ℕ} → Starts sizes at r n sizes' → Kept sizes at r sizes'
starts-keep {sizes} {sizes'} {at} {r} {n} s = go (leb (at + r) (length sizes)) (leb r n) refl refl
  where
    go : (a b : Bool) → leb (at + r) (length sizes) ≡ a → leb r n ≡ b → Kept sizes at r sizes'
    go true true e f = written-kept sizes at r (first_of r n) (leb-true _ _ e) (first_long r n) (s.starts (leb-true _ _ e) (leb-true _ _ f))
    go true false e f = nothing_written sizes at r (s.too_many (leb-false _ _ f))
    go false b e f = nothing_written sizes at r (s.beyond (leb-false _ _ e))

pub moves-keep : {sizes sizes' : List ℕ} {at r : ℕ} {moved : Bool} → Moves sizes at r moved sizes' → Kept sizes at r sizes'
moves-keep {sizes} {sizes'} {at} {r} m = go (leb (at + r) (length sizes)) (next (take r (drop at sizes))) refl refl
  where
    go : (a : Bool) (o : Option (List ℕ)) → leb (at + r) (length sizes) ≡ a → next (take r (drop at sizes)) ≡ o → Kept sizes at r sizes'
    go true (some js) e f = written-kept sizes at r js (leb-true _ _ e) (next-long _ f ∙ part-long sizes at r (leb-true _ _ e)) (m.moves (leb-true _ _ e) f).1
    go true none e f = nothing_written sizes at r (m.ends (leb-true _ _ e) f).1
    go false o e f = nothing_written sizes at r (m.beyond (leb-false _ _ e)).1

-- ---- the walk
-- after the first split is written all splits are to come
pub walk-starts : {sizes sizes' : List ℕ} {at r n : ℕ} → at + r ≤ length sizes → r ≤ n → n ≤ size_most → Starts sizes at r n sizes' → Chain (take r (drop at sizes')) (splits r n)
walk-starts {sizes} {at} {r} {n} room le most s = rw (written-there sizes at r (first_of r n) room (first_long r n) (s.starts room le)) (splits-chain r n le most)

-- l is the split in the list and those behind it, the first of which is then in the list
pub record Walked (sizes : List ℕ) (at r : ℕ) (l : List (List ℕ)) (sizes' : List ℕ) : Type 0 where
  pub rest : List (List ℕ)
  pub is : l ≡ take r (drop at sizes) ∷ rest
  pub chain : Chain (take r (drop at sizes')) rest

module _ {sizes sizes' : List ℕ} {at r : ℕ} {l : List (List ℕ)} (room : at + r ≤ length sizes) (chain : Chain (take r (drop at sizes)) l) where
  pub walk-moves : Moves sizes at r true sizes' → Walked sizes at r l sizes'
  walk-moves m = go (take r (drop at sizes)) refl l chain
    where
      go : (ks : List ℕ) → take r (drop at sizes) ≡ ks → (k : List (List ℕ)) → Chain ks k → Walked sizes at r k sizes'
      go ks e k (last f) = false-is-not-true (sym (m.ends room (ap next e ∙ f)).0)
      go ks e k (more {js} {l = rest} f c) =
          let g : next (take r (drop at sizes)) ≡ some js = ap next e ∙ f in
          record {
            rest = rest;
            is = ap (λ i. i ∷ rest) (sym e);
            chain = rw (written-there sizes at r js room (next-long _ g ∙ part-long sizes at r room) (m.moves room g).1) c;
          }

  -- where there is no next split, this one is the last
  pub walk_ends : Moves sizes at r false sizes' → (l ≡ take r (drop at sizes) ∷ []) × (sizes' ≡ sizes)
  walk_ends m = go (take r (drop at sizes)) refl l chain
    where
      go : (ks : List ℕ) → take r (drop at sizes) ≡ ks → (k : List (List ℕ)) → Chain ks k → (k ≡ take r (drop at sizes) ∷ []) × (sizes' ≡ sizes)
      go ks e k (last f) = (ap (λ i. i ∷ []) (sym e), (m.ends room (ap next e ∙ f)).1)
      go ks e k (more f c) = false-is-not-true (m.moves room (ap next e ∙ f)).0
