-- Laws of sets: of one channel, of a union, of a part; and that the set of a list has what the list has.
use Rattle.std.specs.Prelude.{ℕ, zero, suc, ◌+◌, ◌-◌, ◌*◌, ◌/◌, ◌%◌, ◌^◌, ◌≤◌, ◌<◌, List, [], ◌∷◌, ◌++◌, Bool, true, false, ◌≡◌, refl, eqb}
use Rattle.std.proofs.Common.{sym, ap, ap₂, ◌∙◌, subst, arith, mod-lt, zero-lt-suc, div-add-mod', pow-suc, div-one, pow_pos, pow-add, shr_lt, shr-shr, eq-eqb, ne_eqb}
use Rattle.std.proofs.Math.Numerals.{suc-eq-add-one}
use Rattle.std.proofs.Math.Nat.{mul-mod_left, div-eq_of_lt, div_self}
use Rattle.std.proofs.Math.Arith.{lt-one}
use Rattle.std.specs.Int.Bits.{bit_or, or_zero_r}
use Rattle.std.proofs.lemmas.Nat.{or_lt, or_shr, or_mod, shl-shr}
use Rattle.std.proofs.Math.Pow.{pow-lt, high, low, ones_lt, ones_split}
use Rattle.language.specs.Result.{one_of}
use Rattle.language.specs.Within.{All, all_nil, all_cons}
use Rattle.language.specs.Slide.{mem}
use Rattle.theory.specs.Lists.{false-is-not-true}
use Rattle.theory.specs.Choices.{one_right}
use Rattle.theory.specs.Places.{below_or_not, equal_or_not}
use Rattle.channel_sets.specs.Sets.{in_set, set_of}

-- ---- bits
abbrev bit : ℕ → ℕ → ℕ
bit set c = set / 2 ^ c % 2

bit-less : (set c : ℕ) → bit set c < 2
bit-less set c = mod-lt (set / 2 ^ c) (zero-lt-suc 1)

half-less : (w n : ℕ) → n < 2 ^ suc w → n / 2 < 2 ^ w
half-less w n less = shr_lt w 1 (subst (λ (m : ℕ). n < 2 ^ m) (suc-eq-add-one w) less)

half-bit : (n c : ℕ) → bit (n / 2) c ≡ bit n (1 + c)
half-bit n c = ap (λ (x : ℕ). x % 2) (shr-shr n 1 c)

first_bit : (n : ℕ) → bit n 0 ≡ n % 2
first_bit n = ap (λ (x : ℕ). x % 2) (div-one n)

-- two words with the same bits are equal
bits-same : (w a b : ℕ) → a < 2 ^ w → b < 2 ^ w → ((c : ℕ) → c < w → bit a c ≡ bit b c) → a ≡ b
bits-same zero a b p q same = lt-one p ∙ sym (lt-one q)
bits-same (suc w) a b p q same =
    let halves : a / 2 ≡ b / 2 = bits-same w (a / 2) (b / 2) (half-less w a p) (half-less w b q) (λ c less. half-bit a c ∙ same (1 + c) (omega arith) ∙ sym (half-bit b c)) in
    sym (div-add-mod' a 2) ∙ ap₂ (λ (x y : ℕ). x * 2 + y) halves (sym (first_bit a) ∙ same 0 (omega arith) ∙ first_bit b) ∙ div-add-mod' b 2

or-bit : (a b : ℕ) → a < 2 → b < 2 → eqb (bit_or a b) 1 ≡ one_of (eqb a 1) (eqb b 1)
unfolding one_of
or-bit zero b p q = refl
or-bit (suc zero) zero p q = refl
or-bit (suc zero) (suc zero) p q = refl
or-bit (suc zero) (suc (suc b)) p q = absurd (omega arith)
or-bit (suc (suc a)) b p q = absurd (omega arith)

-- ---- a union
pub in-union : (a b c : ℕ) → in_set (bit_or a b) c ≡ one_of (in_set a c) (in_set b c)
unfolding in_set
in-union a b c = ap (λ (x : ℕ). eqb x 1) (ap (λ (x : ℕ). x % 2) (or_shr a b c) ∙ or_mod (a / 2 ^ c) (b / 2 ^ c) 1) ∙ or-bit (bit a c) (bit b c) (bit-less a c) (bit-less b c)

-- ---- no channel, and one
pub in-empty : (c : ℕ) → in_set 0 c ≡ false
unfolding in_set
in-empty c = ap (λ (x : ℕ). eqb (x % 2) 1) (div-eq_of_lt (pow_pos c))

one_bit : (c : ℕ) → bit (2 ^ c) c ≡ 1
one_bit c = ap (λ (x : ℕ). x % 2) (div_self (pow_pos c))

below-bit : (c d : ℕ) → c < d → bit (2 ^ c) d ≡ 0
below-bit c d less = ap (λ (x : ℕ). x % 2) (div-eq_of_lt (pow-lt less))

above-bit : (c j : ℕ) → bit (2 ^ (suc j + c)) c ≡ 0
above-bit c j = ap (λ (x : ℕ). x % 2) (ap (λ (x : ℕ). x / 2 ^ c) (pow-add 2 (suc j) c) ∙ shl-shr (2 ^ suc j) c ∙ pow-suc 2 j) ∙ mul-mod_left (2 ^ j) 2

pub in-single : (c d : ℕ) → in_set (2 ^ c) d ≡ eqb d c
unfolding in_set
in-single c d = below_or_not c d
    (λ less. ap (λ (x : ℕ). eqb x 1) (below-bit c d less) ∙ sym (ne_eqb d c (λ same. omega (arith, less, same))))
    (λ le. equal_or_not c d
    (λ same. subst (λ (x : ℕ). eqb (bit (2 ^ c) x) 1 ≡ eqb x c) same (ap (λ (x : ℕ). eqb x 1) (one_bit c) ∙ sym (eq-eqb c c refl)))
    (λ other. let far : suc (c - suc d) + d ≡ c = omega (arith, le, other) in
    ap (λ (x : ℕ). eqb x 1) (subst (λ (x : ℕ). bit (2 ^ x) d ≡ 0) far (above-bit d (c - suc d))) ∙ sym (ne_eqb d c (λ same. other (sym same)))))

-- ---- unions in another order
less-pow : (n : ℕ) → n < 2 ^ n
less-pow zero = omega arith
less-pow (suc n) = omega (arith, less-pow n, pow-suc 2 n)

pow-wider : (m n : ℕ) → m ≤ n → (k : ℕ) → k < 2 ^ m → k < 2 ^ n
pow-wider m n le k less = equal_or_not m n (λ same. subst (λ (x : ℕ). k < 2 ^ x) same less) (λ other. let wider : m < n = omega (arith, le, other) in omega (arith, less, pow-lt wider))

-- two words are equal where they have the same channels
pub sets_same : (w a b : ℕ) → a < 2 ^ w → b < 2 ^ w → ((c : ℕ) → c < w → in_set a c ≡ in_set b c) → a ≡ b
unfolding in_set
sets_same w a b p q same = bits-same w a b p q (λ c less. from-test (bit a c) (bit b c) (bit-less a c) (bit-less b c) (same c less))
  where
    from-test : (x y : ℕ) → x < 2 → y < 2 → eqb x 1 ≡ eqb y 1 → x ≡ y
    from-test zero zero p q e = refl
    from-test zero (suc zero) p q e = false-is-not-true e
    from-test (suc zero) zero p q e = false-is-not-true (sym e)
    from-test (suc zero) (suc zero) p q e = refl
    from-test zero (suc (suc y)) p q e = absurd (omega arith)
    from-test (suc zero) (suc (suc y)) p q e = absurd (omega arith)
    from-test (suc (suc x)) y p q e = absurd (omega arith)

one-assoc : (a b c : Bool) → one_of (one_of a b) c ≡ one_of a (one_of b c)
unfolding one_of
one-assoc true b c = refl
one-assoc false b c = refl

pub union_assoc : (a b c : ℕ) → bit_or (bit_or a b) c ≡ bit_or a (bit_or b c)
union_assoc a b c =
    let w : ℕ = a + b + c in
    let in-a : a < 2 ^ w = pow-wider a w (omega arith) a (less-pow a) in
    let in_b : b < 2 ^ w = pow-wider b w (omega arith) b (less-pow b) in
    let in_c : c < 2 ^ w = pow-wider c w (omega arith) c (less-pow c) in
    sets_same w (bit_or (bit_or a b) c) (bit_or a (bit_or b c)) (or_lt w _ _ (or_lt w a b in-a in_b) in_c) (or_lt w _ _ in-a (or_lt w b c in_b in_c)) (λ d less.
    in-union (bit_or a b) c d ∙ ap (λ z. one_of z (in_set c d)) (in-union a b d) ∙ one-assoc (in_set a d) (in_set b d) (in_set c d)
    ∙ sym (in-union a (bit_or b c) d ∙ ap (one_of (in_set a d)) (in-union b c d)))

-- ---- a part of a set
pub part-has : (part set : ℕ) → bit_or set part ≡ set → (c : ℕ) → in_set part c ≡ true → in_set set c ≡ true
part-has part set e c there = ap (λ (x : ℕ). in_set x c) (sym e) ∙ in-union set part c ∙ one_right (in_set set c) there

pub is-part : (w part set : ℕ) → part < 2 ^ w → set < 2 ^ w → ((c : ℕ) → c < w → in_set part c ≡ true → in_set set c ≡ true) → bit_or set part ≡ set
unfolding one_of
is-part w part set p q all = sets_same w (bit_or set part) set (or_lt w set part q p) q (λ c less. in-union set part c ∙ absorbed (in_set set c) (in_set part c) (all c less))
  where
    absorbed : (a b : Bool) → (b ≡ true → a ≡ true) → one_of a b ≡ a
    absorbed true b f = refl
    absorbed false true f = sym (f refl)
    absorbed false false f = refl

-- ---- the set of a list
pub set-append : (cs ds : List ℕ) → set_of (cs ++ ds) ≡ bit_or (set_of cs) (set_of ds)
unfolding set_of
set-append [] ds = refl
set-append (c ∷ cs) ds = ap (bit_or (2 ^ c)) (set-append cs ds) ∙ sym (union_assoc (2 ^ c) (set_of cs) (set_of ds))

pub set_single : (c : ℕ) → set_of (c ∷ []) ≡ 2 ^ c
unfolding set_of
set_single c = or_zero_r (2 ^ c)

pub in-set : (cs : List ℕ) (c : ℕ) → in_set (set_of cs) c ≡ mem c cs
unfolding set_of mem
in-set [] c = in-empty c
in-set (d ∷ cs) c = in-union (2 ^ d) (set_of cs) c ∙ ap₂ one_of (in-single d c) (in-set cs c)

pub set-less : (w : ℕ) {cs : List ℕ} → All (λ c. c < w) cs → set_of cs < 2 ^ w
unfolding set_of
set-less w all_nil = pow_pos w
set-less w (all_cons less all) = or_lt w _ _ (pow-lt less) (set-less w all)

-- ---- no channel from c on
pub in-high : (c set d : ℕ) → set / 2 ^ c ≡ 0 → c ≤ d → in_set set d ≡ false
unfolding in_set
in-high c set d e le = ap (λ (x : ℕ). eqb (x % 2) 1) (subst (λ (m : ℕ). set / 2 ^ m ≡ 0) far (sym (shr-shr set c (d - c)) ∙ ap (λ (x : ℕ). x / 2 ^ (d - c)) e ∙ div-eq_of_lt (pow_pos (d - c))))
  where
    far : c + (d - c) ≡ d
    far = omega (arith, le)

-- ---- the first channels
first-bits : (j c : ℕ) → bit (2 ^ (suc j + c) - 1) c ≡ 1
first-bits j c = ap (λ (x : ℕ). x % 2) (ap (λ (x : ℕ). x / 2 ^ c) (ones_split (suc j) c) ∙ high (2 ^ suc j - 1) c (ones_lt c)) ∙
    ap (λ (x : ℕ). x % 2) (ap (λ (m : ℕ). 2 ^ m - 1) (suc-eq-add-one j) ∙ ones_split j 1) ∙ low (2 ^ j - 1) 1 (ones_lt 1)

pub in-first : (n c : ℕ) → c < n → in_set (2 ^ n - 1) c ≡ true
unfolding in_set
in-first n c less = let far : suc (n - suc c) + c ≡ n = omega (arith, less) in ap (λ (x : ℕ). eqb x 1) (subst (λ (m : ℕ). bit (2 ^ m - 1) c ≡ 1) far (first-bits (n - suc c) c))

pub not-in-first : (n c : ℕ) → n ≤ c → in_set (2 ^ n - 1) c ≡ false
not-in-first n c le = in-high n (2 ^ n - 1) c (div-eq_of_lt (ones_lt n)) le
