-- The value of a digit, as the definitions have it; what spaces and pairs say of the bytes of a line.
use Rattle.std.specs.Prelude.{ℕ, suc, ◌+◌, ◌*◌, ◌-◌, ◌/◌, ◌%◌, ◌≤◌, ◌<◌, List, [], ◌∷◌, Bool, true, false, ◌≡◌, refl, length, get_or, drop, leb, eqb}
use Rattle.std.proofs.Math.Option.{some}
use Rattle.std.proofs.Common.{sym, ap, ◌∙◌, arith, leb-true, eq-eqb, ne_eqb}
use Rattle.language.specs.Codes.{space}
use Rattle.language.specs.Limits.{byte_range}
use Rattle.language.specs.Result.{both, when, choose}
use Rattle.language.specs.Within.{All, all_nil, all_cons}
use Rattle.language.specs.Text.{digit, any_digit}
use Rattle.text.specs.Digits.{digit_value_of, bytes_of, pair_bytes, spaces}

pub digit-small : (c : ℕ) → digit_value_of c < 16
unfolding digit_value_of
digit-small c = omega arith

digit-decimal : (c : ℕ) → 0x30 ≤ c → c ≤ 0x39 → digit_value_of c ≡ c - 0x30
unfolding digit_value_of
digit-decimal c h k =
    let quotient : c / 64 ≡ 0 = omega arith in
    let remainder : c % 16 ≡ c - 0x30 = omega arith in
    rw (quotient, remainder) (omega arith)

digit-letter : (c : ℕ) → 0x41 ≤ c → c ≤ 0x46 → digit_value_of c ≡ c - 0x37
unfolding digit_value_of
digit-letter c h k =
    let quotient : c / 64 ≡ 1 = omega arith in
    let remainder : c % 16 ≡ c - 0x40 = omega arith in
    rw (quotient, remainder) (omega arith)

digit-lower : (c : ℕ) → 0x61 ≤ c → c ≤ 0x66 → digit_value_of c ≡ c - 0x57
unfolding digit_value_of
digit-lower c h k =
    let quotient : c / 64 ≡ 1 = omega arith in
    let remainder : c % 16 ≡ c - 0x60 = omega arith in
    rw (quotient, remainder) (omega arith)

pub both_hold : (a b : Bool) → both a b ≡ true → (a ≡ true) × (b ≡ true)
unfolding both
both_hold true b e = (refl, e)
both_hold false b e = absurd (let z : ◌≡◌ {A = ℕ} 0 1 = cc in omega arith)

between : (low high c : ℕ) → both (leb low c) (leb c high) ≡ true → (low ≤ c) × (c ≤ high)
between low high c e = let p = both_hold (leb low c) (leb c high) e in (leb-true low c p.0, leb-true c high p.1)

-- of a digit it is the digit's value
pub digit_value : (c d : ℕ) → digit c ≡ some d → digit_value_of c ≡ d
unfolding digit when choose
digit_value c d e = go (both (leb 0x30 c) (leb c 0x39)) (both (leb 0x41 c) (leb c 0x46)) refl refl e
  where
    go : (a b : Bool) → both (leb 0x30 c) (leb c 0x39) ≡ a → both (leb 0x41 c) (leb c 0x46) ≡ b → choose a (some (c - 0x30)) (when b (c - 0x37)) ≡ some d → digit_value_of c ≡ d
    go true b p q e = let same : c - 0x30 ≡ d = cc in let in-range = between 0x30 0x39 c p in digit-decimal c in-range.0 in-range.1 ∙ same
    go false true p q e = let same : c - 0x37 ≡ d = cc in let in-range = between 0x41 0x46 c q in digit-letter c in-range.0 in-range.1 ∙ same
    go false false p q e = absurd (let z : ◌≡◌ {A = ℕ} 0 1 = cc in omega arith)

-- also of a lower-case digit
pub any-digit-value : (c d : ℕ) → any_digit c ≡ some d → digit_value_of c ≡ d
unfolding any_digit choose
any-digit-value c d e = go (both (leb 0x61 c) (leb c 0x66)) refl e
  where
    go : (a : Bool) → both (leb 0x61 c) (leb c 0x66) ≡ a → choose a (some (c - 0x57)) (digit c) ≡ some d → digit_value_of c ≡ d
    go true p e = let same : c - 0x57 ≡ d = cc in let in-range = between 0x61 0x66 c p in digit-lower c in-range.0 in-range.1 ∙ same
    go false p e = digit_value c d e

-- no digit is a space
pub digit-no-space : (c d : ℕ) → digit c ≡ some d → c ≡ space → ⊥
unfolding digit both when choose
digit-no-space c d e q = let z : ◌≡◌ {A = ℕ} 0 1 = let found = sym (ap digit q) ∙ e in cc in absurd (omega arith)

pub any-digit-no-space : (c d : ℕ) → any_digit c ≡ some d → c ≡ space → ⊥
unfolding any_digit digit both when choose
any-digit-no-space c d e q = let z : ◌≡◌ {A = ℕ} 0 1 = let found = sym (ap any_digit q) ∙ e in cc in absurd (omega arith)

-- what holds of both holds of the one that is chosen
chosen : (Q : List ℕ → Type 0) (b : Bool) {x y : List ℕ} → Q x → Q y → Q (choose b x y)
unfolding choose
chosen Q true p q = p
chosen Q false p q = q

-- ---- a space, and a pair
pub bytes-space : (a : ℕ) (l : List ℕ) → a ≡ space → bytes_of (a ∷ l) ≡ bytes_of l
unfolding bytes_of choose
bytes-space a l e = rw (eq-eqb a space e)

pub bytes_pair : (a b : ℕ) (l : List ℕ) → (a ≡ space → ⊥) → bytes_of (a ∷ b ∷ l) ≡ (digit_value_of a * 16 + digit_value_of b) ∷ bytes_of l
unfolding bytes_of choose
bytes_pair a b l digit-there = rw (ne_eqb a space digit-there)

-- what two digits spell is a byte
mutual
  unfolding bytes_of

  pub bytes_small : (l : List ℕ) → All (λ (b : ℕ). b < byte_range) (bytes_of l)
  bytes_small [] = all_nil
  bytes_small (a ∷ l) = chosen (All (λ (b : ℕ). b < byte_range)) (eqb a space) (bytes_small l) (pair_small a l)

  pair_small : (a : ℕ) (l : List ℕ) → All (λ (b : ℕ). b < byte_range) (pair_bytes a l)
  pair_small a [] = all_nil
  pair_small a (b ∷ l) = let small : digit_value_of a * 16 + digit_value_of b < byte_range = omega (arith, digit-small a, digit-small b) in all_cons small (bytes_small l)

-- ---- how many bytes there are: a character more takes none away and adds one at most
mutual
  unfolding bytes_of

  pair-more : (a : ℕ) (l : List ℕ) → length (bytes_of l) ≤ length (pair_bytes a l)
  pair-more a [] = omega arith
  pair-more a (b ∷ l) =
      let same : length (bytes_of l) ≤ suc (length (bytes_of l)) = omega arith in
      chosen (λ bs. length bs ≤ suc (length (bytes_of l))) (eqb b space) same (pair-few b l)

  pair-few : (a : ℕ) (l : List ℕ) → length (pair_bytes a l) ≤ suc (length (bytes_of l))
  pair-few a [] = omega arith
  pair-few a (b ∷ l) =
      let same : suc (length (bytes_of l)) ≤ suc (length (bytes_of l)) = omega arith in
      let further : suc (length (bytes_of l)) ≤ suc (length (pair_bytes b l)) = omega (arith, pair-more b l) in
      chosen (λ bs. suc (length (bytes_of l)) ≤ suc (length bs)) (eqb b space) same further

pub bytes-more : (a : ℕ) (l : List ℕ) → length (bytes_of l) ≤ length (bytes_of (a ∷ l))
unfolding bytes_of
bytes-more a l =
    let same : length (bytes_of l) ≤ length (bytes_of l) = omega arith in
    chosen (λ bs. length (bytes_of l) ≤ length bs) (eqb a space) same (pair-more a l)

mutual
  unfolding bytes_of

  pub bytes_most : (l : List ℕ) → length (bytes_of l) ≤ length l
  bytes_most [] = omega arith
  bytes_most (a ∷ l) =
      let further : length (bytes_of l) ≤ suc (length l) = omega (arith, bytes_most l) in
      let pair : length (pair_bytes a l) ≤ suc (length l) = omega (arith, pair-most a l) in
      chosen (λ bs. length bs ≤ suc (length l)) (eqb a space) further pair

  pair-most : (a : ℕ) (l : List ℕ) → length (pair_bytes a l) ≤ length l
  pair-most a [] = omega arith
  pair-most a (b ∷ l) = omega (arith, bytes_most l)

-- ---- the first of them: the pair behind the spaces
-- the pair whose first character stands at a place, and the bytes behind it
abbrev pub pair_from : List ℕ → ℕ → List ℕ
pair_from l at = (digit_value_of (get_or l at 0) * 16 + digit_value_of (get_or l (suc at) 0)) ∷ bytes_of (drop (suc (suc at)) l)

pub pair_read : (l : List ℕ) → suc (spaces l) < length l → bytes_of l ≡ pair_from l (spaces l)
unfolding bytes_of spaces choose
pair_read [] h = absurd (omega arith)
pair_read (a ∷ l) h = by (eqb a space) l (pair_read l) h
  where
    by : (b : Bool) (l : List ℕ) → (suc (spaces l) < length l → bytes_of l ≡ pair_from l (spaces l)) → suc (choose b (suc (spaces l)) 0) < suc (length l) →
        choose b (bytes_of l) (pair_bytes a l) ≡ pair_from (a ∷ l) (choose b (suc (spaces l)) 0)
    by true l further h = further (omega arith)
    by false [] further h = absurd (omega arith)
    by false (b ∷ l) further h = refl

pub no-pair : (l : List ℕ) → length l ≤ suc (spaces l) → bytes_of l ≡ []
unfolding bytes_of spaces choose
no-pair [] h = refl
no-pair (a ∷ l) h = by (eqb a space) l (no-pair l) h
  where
    by : (b : Bool) (l : List ℕ) → (length l ≤ suc (spaces l) → bytes_of l ≡ []) → suc (length l) ≤ suc (choose b (suc (spaces l)) 0) → choose b (bytes_of l) (pair_bytes a l) ≡ []
    by true l further h = further (omega arith)
    by false [] further h = refl
    by false (b ∷ l) further h = absurd (omega arith)
