-- Membership of a number in a list, as the test `mem`, and what holds of every member.
use Rattle.std.specs.Prelude.{ℕ, ◌≤◌, ◌<◌, List, [], ◌∷◌, ◌++◌, map, Bool, true, false, ◌≡◌, refl, eqb}
use Rattle.std.proofs.Common.{sym, subst, arith, eqb-true, eq-eqb, ne_eqb}
use Rattle.language.specs.Result.{one_of}
use Rattle.language.specs.Within.{All, all_nil, all_cons}
use Rattle.language.specs.Slide.{mem}
use Rattle.theory.specs.Lists.{false-is-not-true}
use Rattle.theory.specs.Choices.{one_left, one_right, one-cases}

-- ---- members
pub mem-head : (i : ℕ) (ls : List ℕ) → mem i (i ∷ ls) ≡ true
unfolding mem
mem-head i ls = one_left (mem i ls) (eq-eqb i i refl)

pub mem-tail : (i l : ℕ) (ls : List ℕ) → mem i ls ≡ true → mem i (l ∷ ls) ≡ true
unfolding mem
mem-tail i l ls e = one_right (eqb i l) e

pub mem-append : (i : ℕ) (ls ms : List ℕ) → mem i (ls ++ ms) ≡ one_of (mem i ls) (mem i ms)
unfolding mem one_of
mem-append i [] ms = refl
mem-append i (l ∷ ls) ms = cases (eqb i l) (mem-append i ls ms)
  where
    cases : (b : Bool) → mem i (ls ++ ms) ≡ one_of (mem i ls) (mem i ms) → one_of b (mem i (ls ++ ms)) ≡ one_of (one_of b (mem i ls)) (mem i ms)
    cases true e = refl
    cases false e = e

-- ---- what holds of every member
pub all-mem : {Q : ℕ → Type 0} {ls : List ℕ} → All Q ls → (i : ℕ) → mem i ls ≡ true → Q i
unfolding mem
all-mem all_nil i e = false-is-not-true e
all-mem {Q} (all_cons {a = l} {l = ls} q qs) i e = one-cases (eqb i l) (mem i ls) e (λ z. subst Q (sym (eqb-true i l z)) q) (λ z. all-mem qs i z)

pub mem-all : {Q : ℕ → Type 0} (ls : List ℕ) → ((i : ℕ) → mem i ls ≡ true → Q i) → All Q ls
mem-all [] f = all_nil
mem-all (l ∷ ls) f = all_cons (f l (mem-head l ls)) (mem-all ls (λ i e. f i (mem-tail i l ls e)))

pub map_same : {A B : Type 0} {f g : A → B} (ls : List A) → All (λ a. f a ≡ g a) ls → map f ls ≡ map g ls
map_same [] all_nil = refl
map_same (l ∷ ls) (all_cons e es) = rw (e, map_same ls es)

-- a number above all members is none of them
pub above-not-member : {i : ℕ} {ls : List ℕ} → All (λ l. l < i) ls → (j : ℕ) → i ≤ j → mem j ls ≡ false
unfolding mem one_of
above-not-member all_nil j le = refl
above-not-member (all_cons {a = l} less low) j le = rw (ne_eqb j l (λ e. omega arith)) (above-not-member low j le)
