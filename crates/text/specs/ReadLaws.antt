-- Reads in turn: what the cursor's answer says of the parser's, and of what comes behind it.
use Rattle.language.specs.declared.refusals.Refusal.{Refusal}
use Rattle.language.specs.declared.refusals.Refusal.TheVariants.{BadIndex, BadLength, OutsideLimits}
use Rattle.language.specs.RefusalNumbers.{number_of}
use Rattle.std.specs.Prelude.{Ok, Err}
use Rattle.std.specs.Prelude.{ℕ, ◌+◌, ◌*◌, ◌≤◌, ◌<◌, List, [], ◌∷◌, Bool, true, false, ◌≡◌, refl, drop, leb}
use Rattle.std.proofs.Math.Path.{sym, ap}
use Rattle.std.proofs.Common.{◌∙◌, arith}
use Rattle.std.proofs.Math.ListN.{length, get_or}
use Rattle.std.proofs.Math.Dec.{ltb}
use borrow.Author.Tests.{ltb-true, ltb-false, lt-ltb, le-ltb, le-leb, lt-leb}
use Rattle.language.specs.Limits.{byte_range}
use Rattle.language.specs.Result.{both}
use Rattle.language.specs.Parser.{Read, got, bad, Parser, and_then, must, byte, index, count}
use Rattle.text.specs.declared.Found.{Found}
use Rattle.text.specs.Bytes.{Number, digit_value_of, bytes_from, past, bytes_left, byte_at, given, moved, stopped, ReadsNumber, Below, below, no_number}
use Rattle.text.specs.Places.{pair_place_of, bytes_past, place_inside, no_byte, byte-read, past-read}

-- ---- the next byte
byte-first : (bs : List ℕ) → 0 < length bs → byte bs ≡ got (get_or bs 0 0) (drop 1 bs)
unfolding byte
byte-first [] h = absurd (omega arith)
byte-first (b ∷ bs) h = refl

byte-of-none : (bs : List ℕ) → length bs ≡ 0 → byte bs ≡ bad 4
unfolding byte
byte-of-none [] h = refl
byte-of-none (b ∷ bs) h = absurd (omega arith)

-- where a byte is left, it is read, and the place behind it is the next
pub byte-some : (line : List ℕ) (at : ℕ) → 0 < bytes_left line at → byte (bytes_from line at) ≡ got (byte_at line at) (bytes_from line (past line at 1))
byte-some line at h = byte-first (bytes_from line at) h ∙ ap (got (byte_at line at)) (sym (bytes_past line at 1))

-- the place of the next pair, as the code has it
module _ (line : List ℕ) (at : ℕ) {place : ℕ} (is : place ≡ pair_place_of line at) where
  pub byte-end : length line < place + 2 → ReadsNumber line at (Err BadLength) (byte (bytes_from line at)) × Below byte_range (Err BadLength)
  unfolding given
  byte-end h = (record { is = sym (byte-of-none (bytes_from line at) (ap length (no_byte line at (omega arith)))); on = stopped }, no_number)

  pub no_more : length line ≤ place + 1 → false ≡ ltb 0 (bytes_left line at)
  no_more h = sym (le-ltb 0 (bytes_left line at) (omega (arith, ap length (no_byte line at (omega arith)))))

  module _ (h : place + 1 < length line) where
    byte-there : 0 < bytes_left line at
    byte-there = omega (arith, ap length (byte-read line at (omega arith)))

    behind-is : place + 2 ≡ past line at 1
    behind-is = ap (λ (n : ℕ). n + 2) is ∙ sym (past-read line at (omega arith))

    pub byte-done : (high low : ℕ) → (high ≡ digit_value_of (get_or line place 0)) × (high < 16) → (low ≡ digit_value_of (get_or line (place + 1) 0)) × (low < 16) →
        ReadsNumber line at (Ok (record { value = high * 16 + low; next = record { at = place + 2 } })) (byte (bytes_from line at)) × Below byte_range (Ok (record { value = high * 16 + low; next = record { at = place + 2 } }))
    unfolding given
    byte-done high low p q =
        let value : byte_at line at ≡ high * 16 + low = ap (λ bs. get_or bs 0 0) (byte-read line at (omega arith)) ∙ rw (sym is, p.0, q.0) in (
          record {
            is = sym (byte-some line at byte-there ∙ rw (value, behind-is));
            on = moved {c = record { at = place + 2 }} 1 behind-is byte-there (place_inside line (place + 2) (omega arith));
          },
          below {f = record { value = high * 16 + low; next = record { at = place + 2 } }} (omega (arith, p.1, q.1)),
        )

  pub more-by-pair : ltb (place + 1) (length line) ≡ ltb 0 (bytes_left line at)
  more-by-pair = by (ltb (place + 1) (length line)) refl
    where
      by : (b : Bool) → ltb (place + 1) (length line) ≡ b → b ≡ ltb 0 (bytes_left line at)
      by true e = sym (lt-ltb 0 (bytes_left line at) (byte-there (ltb-true (place + 1) (length line) e)))
      by false e = no_more (ltb-false (place + 1) (length line) e)

-- ---- a number, and then
pub read-then : {B : Type 0} {line : List ℕ} {at : ℕ} {x : Number} {y : Read ℕ} {f : Found} (k : ℕ → Parser B) → ReadsNumber line at x y → x ≡ Ok f → and_then y k ≡ k f.value (bytes_from line f.next.at)
unfolding given and_then
read-then {line} k v e = let z = sym v.is ∙ ap (given line) e in rw z

pub read-stops : {B : Type 0} {line : List ℕ} {at : ℕ} {n : Refusal} {x : Number} {y : Read ℕ} (k : ℕ → Parser B) → ReadsNumber line at x y → x ≡ Err n → and_then y k ≡ bad (number_of n)
unfolding given and_then
read-stops {line} k v e = let z = sym v.is ∙ ap (given line) e in rw z

pub number-stops : {line : List ℕ} {at : ℕ} {n : Refusal} {x : Number} {y : Read ℕ} (k : ℕ → Parser ℕ) → ReadsNumber line at x y × Below byte_range x → x ≡ Err n → ReadsNumber line at x (and_then y k) × Below byte_range x
unfolding given
number-stops {line} k v e = (record { is = ap (given line) e ∙ sym (read-stops k v.0 e); on = v.0.on }, v.1)

-- a test of the number: refused with m, or passed on
pub number-fails : {line : List ℕ} {at : ℕ} {m : Refusal} {x : Number} {y : Read ℕ} {f : Found} (test : ℕ → Bool) → ReadsNumber line at x y × Below byte_range x → x ≡ Ok f → test f.value ≡ false →
    ReadsNumber line at (Err m) (and_then y (λ n. must (test n) (number_of m) (λ bs. got n bs))) × Below byte_range (Err m)
unfolding given must
number-fails {m} test v e b = (record { is = sym (read-then (λ n. must (test n) (number_of m) (λ bs. got n bs)) v.0 e ∙ rw b); on = stopped }, no_number)

pub number-passes : {line : List ℕ} {at : ℕ} (m : ℕ) {x : Number} {y : Read ℕ} {f : Found} (test : ℕ → Bool) → ReadsNumber line at x y × Below byte_range x → x ≡ Ok f → test f.value ≡ true →
    ReadsNumber line at (Ok f) (and_then y (λ n. must (test n) m (λ bs. got n bs))) × Below byte_range (Ok f)
unfolding given must
number-passes m test v e b = (record { is = sym (read-then (λ n. must (test n) m (λ bs. got n bs)) v.0 e ∙ rw b); on = rw e at v.0.on }, rw e at v.1)

-- ---- an index, a count
module _ (line : List ℕ) (at bound : ℕ) {x : Number} (v : ReadsNumber line at x (byte (bytes_from line at)) × Below byte_range x) where
  pub index-stops : {n : Refusal} → x ≡ Err n → ReadsNumber line at x (index bound (bytes_from line at)) × Below byte_range x
  unfolding index
  index-stops e = number-stops _ v e

  pub index-out : {f : Found} → x ≡ Ok f → bound ≤ f.value → ReadsNumber line at (Err BadIndex) (index bound (bytes_from line at)) × Below byte_range (Err BadIndex)
  unfolding index
  index-out e h = number-fails (λ i. ltb i bound) v e (le-ltb _ _ h)

  pub index_in : {f : Found} → x ≡ Ok f → f.value < bound → ReadsNumber line at (Ok f) (index bound (bytes_from line at)) × Below byte_range (Ok f)
  unfolding index
  index_in e h = number-passes 6 (λ i. ltb i bound) v e (lt-ltb _ _ h)

module _ (line : List ℕ) (at least most : ℕ) {x : Number} (v : ReadsNumber line at x (byte (bytes_from line at)) × Below byte_range x) where
  pub count-stops : {n : Refusal} → x ≡ Err n → ReadsNumber line at x (count least most (bytes_from line at)) × Below byte_range x
  unfolding count
  count-stops e = number-stops _ v e

  pub count-few : {f : Found} → x ≡ Ok f → f.value < least → ReadsNumber line at (Err OutsideLimits) (count least most (bytes_from line at)) × Below byte_range (Err OutsideLimits)
  unfolding count both
  count-few e h = number-fails (λ n. both (leb least n) (leb n most)) v e (rw (lt-leb _ _ h))

  pub count-many : {f : Found} → x ≡ Ok f → least ≤ f.value → most < f.value → ReadsNumber line at (Err OutsideLimits) (count least most (bytes_from line at)) × Below byte_range (Err OutsideLimits)
  unfolding count both
  count-many e h k = number-fails (λ n. both (leb least n) (leb n most)) v e (rw (le-leb _ _ h, lt-leb _ _ k))

  pub count-in : {f : Found} → x ≡ Ok f → least ≤ f.value → f.value ≤ most → ReadsNumber line at (Ok f) (count least most (bytes_from line at)) × Below byte_range (Ok f)
  unfolding count both
  count-in e h k = number-passes 7 (λ n. both (leb least n) (leb n most)) v e (rw (le-leb _ _ h, le-leb _ _ k))
