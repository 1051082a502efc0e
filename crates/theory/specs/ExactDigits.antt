-- Hexadecimal digits: what a pair of upper-case ones spells is read back, and in a strict line nothing else is read.
use Rattle.std.specs.Prelude.{ℕ, ◌+◌, ◌-◌, ◌*◌, ◌/◌, ◌%◌, ◌≤◌, ◌<◌, List, [], ◌∷◌, ◌++◌, Bool, true, false, ◌≡◌, refl, ltb, leb, eqb}
use Rattle.std.proofs.Math.Option.{Option, some}
use Rattle.std.proofs.Common.{ap, ap₂, ◌∙◌, arith, ne_eqb, ltb-true, ltb-false, leb-true, lt-ltb, le-ltb, le-leb}
use Rattle.std.proofs.lemmas.Bool.{lt-leb}
use Rattle.language.specs.Result.{both, when, choose}
use Rattle.language.specs.Codes.{digit_base}
use Rattle.language.specs.Format.{spell_all, pick_digit, digit_of, pair_of}
use Rattle.language.specs.Within.{All, all_nil, all_cons}
use Rattle.language.specs.Text.{digit, pair, pairs, any_digit}
use Rattle.theory.specs.Lists.{both_left, both_right, both-fails}
use Rattle.theory.specs.Tests.{Whenever, w_some, w_none, whenever-map}
use Rattle.theory.specs.Exact.{Byte}

-- ---- a digit
pub spelled-low : (d : ℕ) → d < 10 → digit_of d ≡ 0x30 + d
unfolding digit_of pick_digit
spelled-low d w = rw (lt-ltb d 10 w)

pub spelled-high : (d : ℕ) → 10 ≤ d → digit_of d ≡ 0x37 + d
unfolding digit_of pick_digit
spelled-high d w = rw (le-ltb d 10 w)

read_low : (c : ℕ) → 0x30 ≤ c → c ≤ 0x39 → digit c ≡ some (c - 0x30)
unfolding digit choose both
read_low c l m = rw (le-leb 0x30 c l, le-leb c 0x39 m)

read-high : (c : ℕ) → 0x41 ≤ c → c ≤ 0x46 → digit c ≡ some (c - 0x37)
unfolding digit choose both when
read-high c l m = rw (le-leb 0x30 c (omega arith), lt-leb c 0x39 (omega arith), le-leb 0x41 c l, le-leb c 0x46 m)

digit-back : (d : ℕ) → d < 16 → digit (digit_of d) ≡ some d
digit-back d w = go (ltb d 10) refl
  where
    go : (low : Bool) → ltb d 10 ≡ low → digit (digit_of d) ≡ some d
    go true e = let l : d < 10 = ltb-true d 10 e in rw (spelled-low d l, read_low (0x30 + d) (omega arith) (omega arith)) (ap {B = Option ℕ} some (omega arith))
    go false e = let l : 10 ≤ d = ltb-false d 10 e in rw (spelled-high d l, read-high (0x37 + d) (omega arith) (omega arith)) (ap {B = Option ℕ} some (omega arith))

-- the character c is the digit d
record IsDigit (c d : ℕ) : Type 0 where
  is : c ≡ digit_of d
  small : d < 16

digit-forth : (c : ℕ) → Whenever (IsDigit c) (digit c)
unfolding digit choose when
digit-forth c = go (both (leb 0x30 c) (leb c 0x39)) (both (leb 0x41 c) (leb c 0x46)) refl refl
  where
    low : 0x30 ≤ c → c ≤ 0x39 → IsDigit c (c - 0x30)
    low l m = record { is = rw (spelled-low (c - 0x30) (omega arith)) (omega arith); small = omega arith }

    high : 0x41 ≤ c → c ≤ 0x46 → IsDigit c (c - 0x37)
    high l m = record { is = rw (spelled-high (c - 0x37) (omega arith)) (omega arith); small = omega arith }

    go : (l h : Bool) → both (leb 0x30 c) (leb c 0x39) ≡ l → both (leb 0x41 c) (leb c 0x46) ≡ h → Whenever (IsDigit c) (choose l (some (c - 0x30)) (when h (c - 0x37)))
    go true h t u = w_some (low (leb-true 0x30 c (both_left (leb 0x30 c) (leb c 0x39) t)) (leb-true c 0x39 (both_right (leb 0x30 c) (leb c 0x39) t)))
    go false true t u = w_some (high (leb-true 0x41 c (both_left (leb 0x41 c) (leb c 0x46) u)) (leb-true c 0x46 (both_right (leb 0x41 c) (leb c 0x46) u)))
    go false false t u = w_none

-- ---- a digit of either case
pub any-digit-back : (d : ℕ) → d < digit_base → any_digit (digit_of d) ≡ some d
unfolding any_digit choose
any-digit-back d w = rw (both-fails (leb (digit_of d) 0x66) (lt-leb 0x61 (digit_of d) (upper-case (ltb d 10) refl))) (digit-back d w)
  where
    upper-case : (low : Bool) → ltb d 10 ≡ low → digit_of d < 0x61
    upper-case true e = let l : d < 10 = ltb-true d 10 e in rw (spelled-low d l) (omega arith)
    upper-case false e = let l : 10 ≤ d = ltb-false d 10 e in rw (spelled-high d l) (omega arith)

pub any-digit-small : (c : ℕ) → Whenever (λ d. d < digit_base) (any_digit c)
unfolding any_digit choose
any-digit-small c = go (both (leb 0x61 c) (leb c 0x66)) refl
  where
    go : (lower : Bool) → both (leb 0x61 c) (leb c 0x66) ≡ lower → Whenever (λ d. d < digit_base) (choose lower (some (c - 0x57)) (digit c))
    go true e = let l : c ≤ 0x66 = leb-true c 0x66 (both_right (leb 0x61 c) (leb c 0x66) e) in w_some {a = c - 0x57} (omega arith)
    go false e = whenever-map (λ d is. is.small) (digit-forth c)

-- a character outside the digits is none
pub digit-is-not : (d c : ℕ) → (0x30 ≤ c → (0x39 < c) × (c < 0x41)) → eqb (digit_of d) c ≡ false
digit-is-not d c outside = go (ltb d 10) refl
  where
    go : (low : Bool) → ltb d 10 ≡ low → eqb (digit_of d) c ≡ false
    go true e = let l : d < 10 = ltb-true d 10 e in rw (spelled-low d l) (ne_eqb (0x30 + d) c (λ is. omega (arith, (outside (omega arith)).0)))
    go false e = let l : 10 ≤ d = ltb-false d 10 e in rw (spelled-high d l) (ne_eqb (0x37 + d) c (λ is. omega (arith, (outside (omega arith)).1)))

-- ---- pairs
pub pairs-back : (bs : List ℕ) → All Byte bs → pairs (spell_all pair_of bs) ≡ some bs
unfolding spell_all pair_of pairs pair
pairs-back [] all_nil = refl
pairs-back (b ∷ bs) (all_cons w ws) =
    rw (digit-back (b / 16) (omega arith), digit-back (b % 16) (omega arith), pairs-back bs ws) (ap {B = Option (List ℕ)} (λ (n : ℕ). some (n ∷ bs)) (omega arith))

-- the characters l are the pairs of the bytes bs
pub record ArePairs (l bs : List ℕ) : Type 0 where
  pub is : l ≡ spell_all pair_of bs
  pub small : All Byte bs

join-digits : (a b c d : ℕ) → IsDigit a c → IsDigit b d → a ∷ b ∷ [] ≡ pair_of (c * 16 + d)
unfolding pair_of
join-digits a b c d u v = λ i. (u.is ∙ ap digit_of high) i ∷ (v.is ∙ ap digit_of low) i ∷ []
  where
    high : c ≡ (c * 16 + d) / 16
    high = omega (arith, v.small)

    low : d ≡ (c * 16 + d) % 16
    low = omega (arith, v.small)

pair-forth : {a b : ℕ} {l : List ℕ} {high low : Option ℕ} {rest : Option (List ℕ)} → Whenever (IsDigit a) high → Whenever (IsDigit b) low → Whenever (ArePairs l) rest →
    Whenever (ArePairs (a ∷ b ∷ l)) (pair high low rest)
unfolding pair spell_all
pair-forth {a} {b} (w_some {a = c} u) (w_some {a = d} v) (w_some w) =
    let byte : Byte (c * 16 + d) = omega (arith, u.small, v.small) in w_some (record { is = ap₂ ◌++◌ (join-digits a b c d u v) w.is; small = all_cons byte w.small })
pair-forth (w_some u) (w_some v) w_none = w_none
pair-forth (w_some u) w_none w = w_none
pair-forth w_none v w = w_none

pub pairs-forth : (l : List ℕ) → Whenever (ArePairs l) (pairs l)
unfolding pairs spell_all
pairs-forth [] = w_some (record { is = refl; small = all_nil })
pairs-forth (a ∷ []) = w_none
pairs-forth (a ∷ b ∷ l) = pair-forth (digit-forth a) (digit-forth b) (pairs-forth l)
