-- The place of a code and the code: the place given is where the table has what the parser gives, and refusals agree.
use Rattle.language.specs.declared.refusals.Refusal.{Refusal}
use Rattle.language.specs.declared.refusals.Refusal.TheVariants.{BadCode, OutsideLimits}
use Rattle.language.specs.RefusalNumbers.{number_of}
use Rattle.std.specs.Prelude.{Ok, Err}
use Rattle.std.specs.Prelude.{ℕ, zero, suc, ◌-◌, ◌≤◌, ◌<◌, List, [], ◌∷◌, Bool, true, false, ◌≡◌, refl, length, ltb, leb}
use Rattle.std.proofs.Math.Option.{Option, none, some}
use Rattle.std.proofs.Common.{sym, ap, ◌∙◌, arith}
use Rattle.std.proofs.Math.ListN.{get_elem? as look}
use borrow.Author.Tests.{lt-ltb, le-ltb, le-leb, lt-leb}
use Rattle.language.specs.Limits.{byte_range}
use Rattle.language.specs.Result.{both, choose}
use Rattle.language.specs.Parser.{Read, got, bad, Parser, and_then, return, must, from_option, byte, decode, code, code_in}
use Rattle.text.specs.declared.Found.{Found}
use Rattle.text.specs.Bytes.{Number, bytes_from, ReadsNumber, Below, below, no_number}
use Rattle.text.specs.Codes.{code_place, place_in}
use Rattle.text.specs.ReadLaws.{read-then}
use Rattle.text.specs.StepLaws.{number-got, number-bad, number_same, number-other, number-refused, read-stops-read, number-below}

-- ---- a place of a table, and what stands there
pub data Places {A : Type 0} (T : List A) : Read ℕ → Read A → Type 0 where
  there : {i : ℕ} {a : A} {bs : List ℕ} → look T i ≡ some a → Places T (got i bs) (got a bs)
  nowhere : {n : ℕ} → Places T (bad n) (bad n)

look_in : {A : Type 0} (T : List A) (i : ℕ) {a : A} → look T i ≡ some a → i < length T
look_in [] i e = absurd (let z : ◌≡◌ {A = ℕ} 0 1 = cc in omega arith)
look_in (a ∷ T) zero e = omega arith
look_in (a ∷ T) (suc i) e = omega (arith, look_in T i e)

look-out : {A : Type 0} (T : List A) (i : ℕ) → look T i ≡ none → length T ≤ i
look-out [] i e = omega arith
look-out (a ∷ T) zero e = absurd (let z : ◌≡◌ {A = ℕ} 0 1 = cc in omega arith)
look-out (a ∷ T) (suc i) e = omega (arith, look-out T i e)

look-places : {A : Type 0} (T : List A) (i : ℕ) (bs : List ℕ) (o : Option A) → look T i ≡ o → Places T (must (ltb i (length T)) 5 (return i) bs) (from_option o 5 bs)
unfolding must from_option
look-places T i bs (some a) e = rw (lt-ltb i (length T) (look_in T i e)) (there e)
look-places T i bs none e = rw (le-ltb i (length T) (look-out T i e)) nowhere

first-places : {A : Type 0} (T : List A) (i : ℕ) (bs : List ℕ) (t : Bool) → Places T (must (both t (ltb i (length T))) 5 (return i) bs) (from_option (choose t (look T i) none) 5 bs)
unfolding both choose must from_option
first-places T i bs true = look-places T i bs (look T i) refl
first-places T i bs false = nowhere

pub code-places : {A : Type 0} (first : ℕ) (T : List A) (bs : List ℕ) → Places T (code_place first (length T) bs) (code first T bs)
unfolding code_place code byte and_then decode
code-places first T [] = nowhere
code-places first T (b ∷ bs) = first-places T (b - first) bs (leb first b)

room-places : {A : Type 0} {T : List A} {y : Read ℕ} {z : Read A} (room : Bool) → Places T y z → Places T (and_then y (λ i. must room 7 (return i))) (and_then z (λ a. must room 7 (return a)))
unfolding and_then must
room-places true (there e) = there e
room-places false (there e) = nowhere
room-places room nowhere = nowhere

pub code-in-places : {A : Type 0} (room : Bool) (first : ℕ) (T : List A) (bs : List ℕ) → Places T (place_in room first (length T) bs) (code_in room first T bs)
unfolding place_in code_in
code-in-places room first T bs = room-places room (code-places first T bs)

-- ---- from the cursor's answer: what stands behind the code, its refusal, and the place's bound
places-got : {A : Type 0} {T : List A} {y : Read ℕ} {z : Read A} {i : ℕ} {a : A} {bs : List ℕ} → Places T y z → y ≡ got i bs → look T i ≡ some a → z ≡ got a bs
places-got {T} {i} {a} {bs} (there {i = j} {a = b} {bs = cs} e) p q =
    let same : j ≡ i = cc in
    let left : cs ≡ bs = cc in
    let value : some b ≡ some a = sym e ∙ ap (look T) same ∙ q in
    cc
places-got nowhere p q = absurd (let z : ◌≡◌ {A = ℕ} 0 1 = cc in omega arith)

places-bad : {A : Type 0} {T : List A} {y : Read ℕ} {z : Read A} {n : ℕ} → Places T y z → y ≡ bad n → z ≡ bad n
places-bad (there e) p = absurd (let z : ◌≡◌ {A = ℕ} 0 1 = cc in omega arith)
places-bad {n} (nowhere {n = m}) p = let same : m ≡ n = cc in ap bad same

places-below : {A : Type 0} {T : List A} {y : Read ℕ} {z : Read A} {i : ℕ} {bs : List ℕ} → Places T y z → y ≡ got i bs → i < length T
places-below {T} {i} (there {i = j} e) p = let same : j ≡ i = cc in rw same at (look_in T j e)
places-below nowhere p = absurd (let z : ◌≡◌ {A = ℕ} 0 1 = cc in omega arith)

module _ {A B : Type 0} {T : List A} {y : Read ℕ} {z : Read A} (s : Places T y z) (k : A → Parser B) {line : List ℕ} {at : ℕ} {x : Number} (v : ReadsNumber line at x y) where
  pub place-then : {f : Found} {i : ℕ} (a : A) → x ≡ Ok f → f.value ≡ i → look T i ≡ some a → and_then z k ≡ k a (bytes_from line f.next.at)
  unfolding and_then
  place-then a e q p = rw (places-got s (number-got v e) (ap (look T) q ∙ p))

  pub place-stops : {n : Refusal} → x ≡ Err n → and_then z k ≡ bad (number_of n)
  unfolding and_then
  place-stops e = rw (places-bad s (number-bad v e))

pub place-below : {A : Type 0} {T : List A} {y : Read ℕ} {z : Read A} {line : List ℕ} {at : ℕ} {x : Number} {f : Found} → Places T y z → ReadsNumber line at x y → x ≡ Ok f → f.value < length T
place-below s v e = places-below s (number-got v e)

-- where there is no room no place is given
refused-then : {n : ℕ} {bs : List ℕ} (y : Read ℕ) → and_then y (λ i. must false 7 (return i)) ≡ got n bs → ⊥
unfolding and_then must
refused-then (got i bs) e = absurd (let z : ◌≡◌ {A = ℕ} 0 1 = cc in omega arith)
refused-then (bad n) e = absurd (let z : ◌≡◌ {A = ℕ} 0 1 = cc in omega arith)

pub no_room : {line : List ℕ} {at : ℕ} {x : Number} {f : Found} (first size : ℕ) → ReadsNumber line at x (place_in false first size (bytes_from line at)) → x ≡ Ok f → ⊥
unfolding place_in
no_room {line} {at} first size v e = refused-then (code_place first size (bytes_from line at)) (number-got v e)

-- ---- the same for the two parsers of codes, in one step for a table
module _ {A B : Type 0} (first : ℕ) (T : List A) (k : A → Parser B) {line : List ℕ} {at : ℕ} {x : Number} (v : ReadsNumber line at x (code_place first (length T) (bytes_from line at))) where
  pub code-then : {f : Found} {i : ℕ} (a : A) → x ≡ Ok f → f.value ≡ i → look T i ≡ some a → and_then (code first T (bytes_from line at)) k ≡ k a (bytes_from line f.next.at)
  code-then a e q p = place-then (code-places first T (bytes_from line at)) k v a e q p

  pub code-stops : {n : Refusal} → x ≡ Err n → and_then (code first T (bytes_from line at)) k ≡ bad (number_of n)
  code-stops e = place-stops (code-places first T (bytes_from line at)) k v e

pub code_below : {A : Type 0} (first : ℕ) (T : List A) {line : List ℕ} {at : ℕ} {x : Number} {f : Found} → ReadsNumber line at x (code_place first (length T) (bytes_from line at)) → x ≡ Ok f → f.value < length T
code_below first T {line} {at} v e = place-below (code-places first T (bytes_from line at)) v e

module _ {A B : Type 0} (room : Bool) (first : ℕ) (T : List A) (k : A → Parser B) {line : List ℕ} {at : ℕ} {x : Number} (v : ReadsNumber line at x (place_in room first (length T) (bytes_from line at))) where
  pub code-in-then : {f : Found} {i : ℕ} (a : A) → x ≡ Ok f → f.value ≡ i → look T i ≡ some a → and_then (code_in room first T (bytes_from line at)) k ≡ k a (bytes_from line f.next.at)
  code-in-then a e q p = place-then (code-in-places room first T (bytes_from line at)) k v a e q p

  pub code-in-stops : {n : Refusal} → x ≡ Err n → and_then (code_in room first T (bytes_from line at)) k ≡ bad (number_of n)
  code-in-stops e = place-stops (code-in-places room first T (bytes_from line at)) k v e

pub code-in-below : {A : Type 0} (room : Bool) (first : ℕ) (T : List A) {line : List ℕ} {at : ℕ} {x : Number} {f : Found} → ReadsNumber line at x (place_in room first (length T) (bytes_from line at)) → x ≡ Ok f → f.value < length T
code-in-below room first T {line} {at} v e = place-below (code-in-places room first T (bytes_from line at)) v e

-- ---- the cursor's read of a place
module _ (line : List ℕ) (at first size : ℕ) {x : Number} (v : ReadsNumber line at x (byte (bytes_from line at)) × Below byte_range x) where
  abbrev placing : ℕ → Parser ℕ
  placing b = must (both (leb first b) (ltb (b - first) size)) 5 (return (b - first))

  pub place-no-byte : {n : Refusal} → x ≡ Err n → ReadsNumber line at x (code_place first size (bytes_from line at)) × Below byte_range x
  unfolding code_place
  place-no-byte e = (read-stops-read placing v.0 e, v.1)

  pub place-before : {f : Found} → x ≡ Ok f → f.value < first → ReadsNumber line at (Err BadCode) (code_place first size (bytes_from line at)) × Below byte_range (Err BadCode)
  unfolding code_place must both
  place-before e h = (number-refused (read-then placing v.0 e ∙ rw (lt-leb _ _ h)), no_number)

  pub place_after : {f : Found} → x ≡ Ok f → first ≤ f.value → size ≤ f.value - first → ReadsNumber line at (Err BadCode) (code_place first size (bytes_from line at)) × Below byte_range (Err BadCode)
  unfolding code_place must both
  place_after e h g = (number-refused (read-then placing v.0 e ∙ rw (le-leb _ _ h, le-ltb _ _ g)), no_number)

  pub place_found : {f : Found} → x ≡ Ok f → first ≤ f.value → f.value - first < size → ReadsNumber line at (Ok (record { value = f.value - first; next = f.next })) (code_place first size (bytes_from line at)) × Below byte_range (Ok (record { value = f.value - first; next = f.next }))
  unfolding code_place must both
  place_found {f} e h g = (number-other v.0 e (read-then placing v.0 e ∙ rw (le-leb _ _ h, lt-ltb _ _ g)), below {f = record { value = f.value - first; next = f.next }} (omega (arith, number-below v.1 e)))

module _ (line : List ℕ) (at first size : ℕ) (room : Bool) {x : Number} (v : ReadsNumber line at x (code_place first size (bytes_from line at)) × Below byte_range x) where
  abbrev rooming : ℕ → Parser ℕ
  rooming i = must room 7 (return i)

  pub place-in-none : {n : Refusal} → x ≡ Err n → ReadsNumber line at x (place_in room first size (bytes_from line at)) × Below byte_range x
  unfolding place_in
  place-in-none e = (read-stops-read rooming v.0 e, v.1)

  pub place-in-full : {f : Found} → x ≡ Ok f → room ≡ false → ReadsNumber line at (Err OutsideLimits) (place_in room first size (bytes_from line at)) × Below byte_range (Err OutsideLimits)
  unfolding place_in must
  place-in-full e h = (number-refused (read-then rooming v.0 e ∙ rw h), no_number)

  pub place-in-found : {f : Found} → x ≡ Ok f → room ≡ true → ReadsNumber line at x (place_in room first size (bytes_from line at)) × Below byte_range x
  unfolding place_in must
  place-in-found e h = (rw e (number_same v.0 e (read-then rooming v.0 e ∙ rw h)), v.1)
