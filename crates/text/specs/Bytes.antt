-- What the reads of a cursor say of the bytes of its line.
use Rattle.language.specs.declared.refusals.Refusal.{Refusal}
use Rattle.language.specs.RefusalNumbers.{number_of}
use Rattle.std.specs.Prelude.{Result, Ok, Err}
use Rattle.std.specs.Prelude.{ℕ, ◌+◌, ◌*◌, ◌≤◌, ◌<◌, List, ◌≡◌, length, get_or}
use Rattle.language.specs.Codes.{space}
use Rattle.language.specs.Syntax.{Field, fbool, fint, own, other, Plain, pbool, pint, pnamed, Ty, tbool, tint, tnamed}
use Rattle.language.specs.Layout.{tag_step}
use Rattle.language.specs.Parser.{Read, got, bad}
use Rattle.text.specs.declared.Cursor.{Cursor}
use Rattle.text.specs.declared.Found.{Found}
unfoldable pub use Rattle.text.specs.Digits.{digit_value_of, bytes_of}
pub use Rattle.text.specs.Places.{bytes_from, past, IsPlace, bytes_left, byte_at}

-- what a read gives: a number and the cursor behind it; the cursor behind what was passed over; or a refusal
abbrev pub Number : Type 0
Number = Result Found Refusal

abbrev pub Step : Type 0
Step = Result Cursor Refusal

-- a parser's answer with another value, and with none
unfoldable pub map_read : {A B : Type 0} → (A → B) → Read A → Read B
map_read f (got a bs) = got (f a) bs
map_read f (bad n) = bad n

unfoldable pub forget : {A : Type 0} → Read A → Read (Unit {0})
forget (got a bs) = got tt bs
forget (bad n) = bad n

-- ---- what a read gives, as a parser's answer: the bytes left are those from the moved cursor on
unfoldable pub given : List ℕ → Number → Read ℕ
given line (Ok f) = got f.value (bytes_from line f.next.at)
given line (Err n) = bad (number_of n)

unfoldable pub passed : List ℕ → Step → Read (Unit {0})
passed line (Ok c) = got tt (bytes_from line c.at)
passed line (Err n) = bad (number_of n)

-- the cursor moved on by some of the bytes left, and is not beyond the line
pub data Moved (line : List ℕ) (at : ℕ) : Step → Type 0 where
  moved : {c : Cursor} (n : ℕ) → c.at ≡ past line at n → n ≤ bytes_left line at → IsPlace line c.at → Moved line at (Ok c)
  stopped : {n : Refusal} → Moved line at (Err n)

abbrev pub step_of : Number → Step
step_of (Ok f) = Ok f.next
step_of (Err n) = Err n

-- ---- the promises of reads at a place of a line: the answer is the parser's
pub record ReadsNumber (line : List ℕ) (at : ℕ) (r : Number) (x : Read ℕ) : Type 0 where
  pub is : given line r ≡ x
  pub on : Moved line at (step_of r)

pub record Passes (line : List ℕ) (at : ℕ) (r : Step) (x : Read (Unit {0})) : Type 0 where
  pub is : passed line r ≡ x
  pub on : Moved line at r

-- a number below a bound
pub data Below (n : ℕ) : Number → Type 0 where
  below : {f : Found} → f.value < n → Below n (Ok f)
  no_number : {m : Refusal} → Below n (Err m)

-- ---- what the characters are
-- a pair stands at a place, and no space before it
pub record PairAt (line : List ℕ) (at : ℕ) : Type 0 where
  pub there : at + 1 < length line
  pub unspaced : get_or line at 0 ≡ space → ⊥

-- the digits of an Int, none of its pairs behind a space
pub record UnspacedInt (line : List ℕ) (at : ℕ) : Type 0 where
  pub first : PairAt line at
  pub second : PairAt line (at + 2)
  pub third : PairAt line (at + 4)
  pub fourth : PairAt line (at + 6)

-- ---- types as one word: 0 Bool, 1 Int, 2 a field of the type itself, else 256 × (t + 1) and the size
unfoldable pub plain_word : Plain → ℕ
plain_word pbool = 0
plain_word pint = 1
plain_word (pnamed t) = tag_step * (t + 1)

unfoldable pub declared_word : Ty → ℕ
declared_word tbool = 0
declared_word tint = 1
declared_word (tnamed t k) = tag_step * (t + 1) + k

unfoldable pub field_word : Field → ℕ
field_word fbool = 0
field_word fint = 1
field_word own = 2
field_word (other t k) = tag_step * (t + 1) + k
