-- A cursor that reads where something is spelled gives what is spelled and stands behind it.
use Rattle.std.specs.Prelude.{Ok, Err}
use Rattle.std.specs.Prelude.{ℕ, ◌≤◌, ◌<◌, List, [], ◌∷◌, length}
use Rattle.std.proofs.Math.Path.{◌≡◌, ap}
use Rattle.std.proofs.Common.{sym, ◌∙◌, arith}
use Rattle.language.specs.Parser.{Read, got, Parser, byte}
use Rattle.text.specs.declared.Found.{Found}
use Rattle.text.specs.Bytes.{Number, Step, bytes_from, past, bytes_left, byte_at, map_read, forget, given, passed, ReadsNumber, Passes}
use Rattle.text.specs.ReadLaws.{byte-some}
use Rattle.text.specs.StepLaws.{number-got, moved-past}
use Rattle.theory.specs.Exact.{Exact}
use Rattle.encoding.specs.Spells.{Spells, spells-left}
use Rattle.encoding.specs.SpelledOnce.{spelled-is-read}

some_left : {n : ℕ} {cs : List ℕ} (bs : List ℕ) → byte bs ≡ got n cs → 0 < length bs
unfolding byte
some_left [] e = absurd (let z : ◌≡◌ {A = ℕ} 0 1 = cc in omega arith)
some_left (b ∷ bs) e = omega arith

place_of : Number → ℕ
place_of (Ok f) = f.next.at
place_of (Err n) = 0

module _ {line : List ℕ} where
  -- where the parser's answer is known, so is the cursor's
  number_is : {at m : ℕ} {y : Read ℕ} (n : ℕ) (x : Number) → n ≤ bytes_left line at → y ≡ got m (bytes_from line (past line at n)) → ReadsNumber line at x y → x ≡ Ok (record { value = m; next = record { at = past line at n } })
  unfolding given
  number_is {at} {m} n (Ok f) h e v =
      let same : got f.value (bytes_from line f.next.at) ≡ got m (bytes_from line (past line at n)) = v.is ∙ e in
      let value : f.value ≡ m = cc in
      let place : f.next.at ≡ past line at n = moved-past n v.on h (cc) in
      λ i. Ok (record { value = value i; next = record { at = place i } })
  number_is n (Err k) h e v = absurd (let same = v.is ∙ e in let z : ◌≡◌ {A = ℕ} 0 1 = cc in omega arith)

  step_is : {at : ℕ} {y : Read (Unit {0})} (n : ℕ) (r : Step) → n ≤ bytes_left line at → y ≡ got tt (bytes_from line (past line at n)) → Passes line at r y → r ≡ Ok (record { at = past line at n })
  unfolding passed
  step_is {at} n (Ok c) h e v =
      let same : got tt (bytes_from line c.at) ≡ got tt (bytes_from line (past line at n)) = v.is ∙ e in
      let place : c.at ≡ past line at n = moved-past n v.on h (cc) in
      λ i. Ok (record { at = place i })
  step_is n (Err k) h e v = absurd (let same = v.is ∙ e in let z : ◌≡◌ {A = ℕ} 0 1 = cc in omega arith)

  -- ---- a byte
  pub byte-is : {at : ℕ} (x : Number) → 0 < bytes_left line at → ReadsNumber line at x (byte (bytes_from line at)) → x ≡ Ok (record { value = byte_at line at; next = record { at = past line at 1 } })
  byte-is {at} x some v = number_is 1 x some (byte-some line at some) v

  -- where one is read, one is left, and the cursor is behind it
  pub byte_left : {at : ℕ} {x : Number} {f : Found} → ReadsNumber line at x (byte (bytes_from line at)) → x ≡ Ok f → 0 < bytes_left line at
  byte_left {at} v e = some_left (bytes_from line at) (number-got v e)

  pub byte-behind : {at : ℕ} {x : Number} {f : Found} → ReadsNumber line at x (byte (bytes_from line at)) → x ≡ Ok f → f.next.at ≡ past line at 1
  unfolding place_of
  byte-behind {x} v e = ap place_of (sym e ∙ byte-is x (byte_left v e) v)

  -- ---- what a parser reads exactly: a number, the word of a thing, or nothing but the place behind it
  module _ {at : ℕ} {A : Type 0} {p : Parser A} {bytes : A → List ℕ} {W : A → Type 0} (x : Exact p bytes W) {a : A} (s : Spells bytes line at a) (w : W a) where
    pub word-is : (word : A → ℕ) (r : Number) → ReadsNumber line at r (map_read word (p (bytes_from line at))) → r ≡ Ok (record { value = word a; next = record { at = past line at (length (bytes a)) } })
    unfolding map_read
    word-is word r v = number_is _ r (spells-left s) (ap (map_read word) (spelled-is-read x s w)) v

    pub passed_over : (r : Step) → Passes line at r (forget (p (bytes_from line at))) → r ≡ Ok (record { at = past line at (length (bytes a)) })
    unfolding forget
    passed_over r v = step_is _ r (spells-left s) (ap forget (spelled-is-read x s w)) v

  pub number_spelled : {at : ℕ} {p : Parser ℕ} {bytes : ℕ → List ℕ} {W : ℕ → Type 0} {n : ℕ} → Exact p bytes W → Spells bytes line at n → W n → (r : Number) → ReadsNumber line at r (p (bytes_from line at)) →
      r ≡ Ok (record { value = n; next = record { at = past line at (length (bytes n)) } })
  number_spelled x s w r v = number_is _ r (spells-left s) (spelled-is-read x s w) v
