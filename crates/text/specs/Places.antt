-- The places of a line: which bytes stand from a place on, and where so many of them end. Both are said here and nowhere else. What is
-- above cites the laws: 0 bytes, so many and then so many more, order, and what is read behind them.
-- A place is the number of characters before it; spaces stand before the byte that follows them.
use Prim.Native.Nat.{ℕ, zero, suc, ◌+◌, ◌*◌, ◌-◌, ◌≤◌, ◌<◌, zero-le}
use Rattle.std.specs.Prelude.{List, [], ◌∷◌, ◌++◌, Bool, true, false, ◌≡◌, get_or, eqb, leb, max}
use Rattle.std.proofs.Math.Path.{refl, ap}
use Rattle.std.proofs.Common.{sym, ◌∙◌, zero-add, suc-add, length-append, drop_of_length-le, drop-cons}
use native.Mathlib.Omega.{arith}
use Rattle.std.proofs.Math.Nat.{add-zero}
use Rattle.std.proofs.Math.Numerals.{add-one}
use Rattle.std.proofs.Math.ListN.{length, drop, length-drop}
use Rattle.std.proofs.Math.Seq.{drop-drop, get_or-drop}
use borrow.Author.Tests.{leb-true, leb-false, le-leb, eq-eqb, ne_eqb}
use Rattle.language.specs.Codes.{space}
use Rattle.language.specs.Limits.{byte_range}
use Rattle.language.specs.Result.{choose}
use Rattle.language.specs.Within.{All}
use Rattle.text.specs.Digits.{digit_value_of, bytes_of, spaces}
use Rattle.text.specs.DigitLaws.{bytes_small, bytes-more, bytes_most, pair_read, no-pair}

-- the bytes from a place on
pub bytes_from : List ℕ → ℕ → List ℕ
bytes_from line at = bytes_of (drop at line)

-- how many characters the next byte takes, with the spaces before it; none where there is no byte
unfoldable taken : List ℕ → ℕ
taken l = choose (leb (suc (suc (spaces l))) (length l)) (suc (suc (spaces l))) 0

-- the place behind the next byte, and behind so many
behind_byte : List ℕ → ℕ → ℕ
behind_byte line at = at + taken (drop at line)

pub past : List ℕ → ℕ → ℕ → ℕ
past line at zero = at
past line at (suc n) = past line (behind_byte line at) n

-- a place that is not beyond the line
pub record IsPlace (line : List ℕ) (at : ℕ) : Type 0 where
  inside : at ≤ length line

-- how many bytes are left, and the first of them
abbrev pub bytes_left : List ℕ → ℕ → ℕ
bytes_left line at = length (bytes_from line at)

abbrev pub byte_at : List ℕ → ℕ → ℕ
byte_at line at = get_or (bytes_from line at) 0 0

-- ---- the characters of one byte
taken-pair : (l : List ℕ) → suc (spaces l) < length l → taken l ≡ suc (suc (spaces l))
unfolding taken choose
taken-pair l h = rw (le-leb (suc (suc (spaces l))) (length l) h)

taken-most : (l : List ℕ) → taken l ≤ length l
unfolding taken choose
taken-most l = by (leb (suc (suc (spaces l))) (length l)) refl
  where
    by : (b : Bool) → leb (suc (suc (spaces l))) (length l) ≡ b → choose b (suc (suc (spaces l))) 0 ≤ length l
    by true e = leb-true (suc (suc (spaces l))) (length l) e
    by false e = zero-le

bytes-taken : (l : List ℕ) → bytes_of (drop (taken l) l) ≡ drop 1 (bytes_of l)
unfolding taken choose bytes_of
bytes-taken l = by (leb (suc (suc (spaces l))) (length l)) refl
  where
    by : (b : Bool) → leb (suc (suc (spaces l))) (length l) ≡ b → bytes_of (drop (choose b (suc (suc (spaces l))) 0) l) ≡ drop 1 (bytes_of l)
    by true e = sym (ap (drop 1) (pair_read l (leb-true (suc (suc (spaces l))) (length l) e)))
    by false e = let none-there = no-pair l (omega (arith, leb-false (suc (suc (spaces l))) (length l) e)) in none-there ∙ sym (ap (drop 1) none-there)

-- where no byte is left, none is taken
taken-end : (l : List ℕ) → length (bytes_of l) ≡ 0 → taken l ≡ 0
unfolding taken choose
taken-end l none-there = by (leb (suc (suc (spaces l))) (length l)) refl
  where
    by : (b : Bool) → leb (suc (suc (spaces l))) (length l) ≡ b → choose b (suc (suc (spaces l))) 0 ≡ 0
    by true e = absurd (omega (arith, none-there, ap length (pair_read l (leb-true (suc (suc (spaces l))) (length l) e))))
    by false e = refl

-- no more bytes are left behind so many characters
drop-fewer : (n : ℕ) (l : List ℕ) → length (bytes_of (drop n l)) ≤ length (bytes_of l)
drop-fewer zero l = omega arith
drop-fewer (suc n) [] = omega arith
drop-fewer (suc n) (a ∷ l) = omega (arith, drop-fewer n l, bytes-more a l)

module _ (line : List ℕ) where
  pub from-small : (at : ℕ) → All (λ (b : ℕ). b < byte_range) (bytes_from line at)
  unfolding bytes_from
  from-small at = bytes_small (drop at line)

  -- ---- the start
  pub bytes-start : bytes_from line 0 ≡ bytes_of line
  unfolding bytes_from
  bytes-start = refl

  pub start-is-place : IsPlace line 0
  start-is-place = record { inside = zero-le }

  -- ---- one byte further on
  byte-behind : (at : ℕ) → bytes_from line (behind_byte line at) ≡ drop 1 (bytes_from line at)
  unfolding bytes_from behind_byte
  byte-behind at = ap bytes_of (sym (drop-drop (taken (drop at line)) at line)) ∙ bytes-taken (drop at line)

  behind-least : (at : ℕ) → at ≤ behind_byte line at
  unfolding behind_byte
  behind-least at = omega arith

  behind-is-place : {at : ℕ} → IsPlace line at → IsPlace line (behind_byte line at)
  unfolding behind_byte
  behind-is-place {at} h = record { inside = omega (arith, h.inside, taken-most (drop at line), length-drop at line) }

  -- ---- so many bytes further on
  pub past-none : (at : ℕ) → past line at 0 ≡ at
  unfolding past
  past-none at = refl

  pub past-past : (at m n : ℕ) → past line (past line at m) n ≡ past line at (m + n)
  unfolding past
  past-past at zero n = ap (past line at) (sym (zero-add n))
  past-past at (suc m) n = past-past (behind_byte line at) m n ∙ ap (past line at) (sym (suc-add m n))

  pub past-least : (at n : ℕ) → at ≤ past line at n
  unfolding past
  past-least at zero = omega arith
  past-least at (suc n) = omega (arith, behind-least at, past-least (behind_byte line at) n)

  pub bytes_past : (at n : ℕ) → bytes_from line (past line at n) ≡ drop n (bytes_from line at)
  unfolding past
  bytes_past at zero = refl
  bytes_past at (suc n) =
      let one_more : 1 + n ≡ suc n = omega arith in
      bytes_past (behind_byte line at) n ∙ ap (drop n) (byte-behind at) ∙ drop-drop n 1 (bytes_from line at) ∙ ap (λ (k : ℕ). drop k (bytes_from line at)) one_more

  pub past-is-place : (at n : ℕ) → IsPlace line at → n ≤ bytes_left line at → IsPlace line (past line at n)
  unfolding past
  past-is-place at zero h k = h
  past-is-place at (suc n) h k = past-is-place (behind_byte line at) n (behind-is-place h) (omega (arith, ap length (byte-behind at), length-drop 1 (bytes_from line at)))

  -- where no byte is left, the place stays
  pub past_end : (at : ℕ) → bytes_left line at ≡ 0 → past line at 1 ≡ at
  unfolding past behind_byte bytes_from
  past_end at none_left = ap (λ (n : ℕ). at + n) (taken-end (drop at line) none_left) ∙ add-zero at

  module _ (at : ℕ) where
    pub past-append : (front back : List ℕ) → past line at (length (front ++ back)) ≡ past line (past line at (length front)) (length back)
    past-append front back = ap (past line at) (length-append front back) ∙ sym (past-past at (length front) (length back))

    pub byte_past : (n : ℕ) → byte_at line (past line at n) ≡ get_or (bytes_from line at) n 0
    byte_past n = ap (λ bs. get_or bs 0 0) (bytes_past at n) ∙ get_or-drop n (bytes_from line at) 0 0 ∙ ap (λ i. get_or (bytes_from line at) i 0) (add-zero n)

    pub left-past : (n : ℕ) → bytes_left line (past line at n) ≡ bytes_left line at - n
    left-past n = ap length (bytes_past at n) ∙ length-drop n (bytes_from line at)

    -- the bytes left say how many were passed
    pub past-once : {m n : ℕ} → m ≤ bytes_left line at → n ≤ bytes_left line at → bytes_from line (past line at m) ≡ bytes_from line (past line at n) → m ≡ n
    past-once {m} {n} h k e = omega (arith, h, k, left-past m, left-past n, ap length e)

  -- no more bytes are left at a later place, and never more than the line has characters
  pub left-later : (at at' : ℕ) → at ≤ at' → bytes_left line at' ≤ bytes_left line at
  unfolding bytes_from
  left-later at at' le =
      let place : at + (at' - at) ≡ at' = omega arith in
      omega (arith, drop-fewer (at' - at) (drop at line), ap (λ l. length (bytes_of l)) (drop-drop (at' - at) at line ∙ ap (λ (k : ℕ). drop k line) place))

  pub left-most : (at : ℕ) → bytes_left line at ≤ length line
  unfolding bytes_from
  left-most at = omega (arith, bytes_most (drop at line), length-drop at line)

  -- no place of a line is beyond its characters
  pub place-most : {at : ℕ} → IsPlace line at → at ≤ length line
  place-most h = h.inside

-- ---- for code that reads the characters: this crate, and the judge of lines
spaces-most : (l : List ℕ) → spaces l ≤ length l
unfolding spaces choose
spaces-most [] = omega arith
spaces-most (a ∷ l) = by (eqb a space) (spaces-most l)
  where
    by : (b : Bool) → spaces l ≤ length l → choose b (suc (spaces l)) 0 ≤ suc (length l)
    by true h = omega (arith, h)
    by false h = omega arith

-- where the next pair starts: behind the spaces
pub pair_place_of : List ℕ → ℕ → ℕ
pair_place_of line at = at + spaces (drop at line)

module _ (line : List ℕ) (at : ℕ) where
  pub pair_place : pair_place_of line at ≡ at + spaces (drop at line)
  unfolding pair_place_of
  pair_place = refl

  pub place_inside : at ≤ length line → IsPlace line at
  place_inside h = record { inside = h }

  -- ---- how far the spaces go
  pub pair-at-end : length line ≤ at → at ≡ pair_place_of line at
  unfolding pair_place_of spaces
  pair-at-end h = rw (drop_of_length-le line h) (sym (add-zero at))

  pub pair-here : at < length line → (get_or line at 0 ≡ space → ⊥) → at ≡ pair_place_of line at
  unfolding pair_place_of spaces choose
  pair-here h digit = rw (drop-cons line at 0 h, ne_eqb (get_or line at 0) space digit) (sym (add-zero at))

  pub pair-further : at < length line → get_or line at 0 ≡ space → pair_place_of line (at + 1) ≡ pair_place_of line at
  unfolding pair_place_of spaces choose
  pair-further h e = rw (drop-cons line at 0 h, eq-eqb (get_or line at 0) space e, add-one at) (omega arith)

  pub pair-within : at < length line → pair_place_of line at ≤ length line
  unfolding pair_place_of
  pair-within h = omega (arith, h, spaces-most (drop at line), length-drop at line)

  -- ---- the byte that the pair spells
  pub no_byte : length line ≤ pair_place_of line at + 1 → bytes_from line at ≡ []
  unfolding pair_place_of bytes_from
  no_byte h = no-pair (drop at line) (omega (arith, h, length-drop at line))

  module _ (h : pair_place_of line at + 1 < length line) where
    abbrev before : ℕ
    before = spaces (drop at line)

    pair-there : suc before < length (drop at line)
    unfolding pair_place_of
    pair-there = omega (arith, h, length-drop at line)

    pub byte-read : bytes_from line at ≡ (digit_value_of (get_or line (pair_place_of line at) 0) * 16 + digit_value_of (get_or line (pair_place_of line at + 1) 0)) ∷ bytes_from line (pair_place_of line at + 2)
    unfolding pair_place_of bytes_from
    byte-read =
        let second : at + suc before ≡ at + before + 1 = omega arith in
        let behind : at + suc (suc before) ≡ at + before + 2 = omega arith in
        pair_read (drop at line) pair-there ∙ rw (get_or-drop at line before 0, get_or-drop at line (suc before) 0, drop-drop (suc (suc before)) at line, second, behind)

    pub past-read : past line at 1 ≡ pair_place_of line at + 2
    unfolding past behind_byte pair_place_of
    past-read = ap (λ (n : ℕ). at + n) (taken-pair (drop at line) pair-there) ∙ omega arith

-- where only spaces stand from a place on, the next pair would start at the line's end; beyond the end it would at the place itself
pub pair-behind-all : (line : List ℕ) {from at m : ℕ} → m ≡ max from (length line) → from ≤ at × (from ≤ length line → at ≤ length line) → length line ≤ at → pair_place_of line at ≡ pair_place_of line from → m ≡ pair_place_of line from
pair-behind-all line {from} {at} {m} e a h walked = by (leb from (length line)) refl
  where
    by : (b : Bool) → leb from (length line) ≡ b → m ≡ pair_place_of line from
    by true k =
        let le = a.1 (leb-true from (length line) k) in
        let same : m ≡ at = omega (arith, e, h, le, a.0) in
        same ∙ pair-at-end line at h ∙ walked
    by false k =
        let lt = leb-false from (length line) k in
        let same : m ≡ from = omega (arith, e, lt) in
        same ∙ pair-at-end line from (omega (arith, lt))
