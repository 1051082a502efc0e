-- Reading the bytes of a frame from left to right: a value and the bytes left, or the number of a refusal.
-- The fault at the earliest byte wins, and a missing byte stands at the frame's end (document 01, "By place").
use Rattle.std.specs.Prelude.{ℕ, zero, suc, ◌-◌, List, [], ◌∷◌, Bool, true, false, ltb, leb}
use Rattle.std.proofs.Math.Option.{Option, none, some}
use Rattle.std.proofs.Math.ListN.{get_elem? as look}
use Rattle.language.specs.Result.{both, choose}
use Rattle.language.specs.Refusals.{bad_length, bad_code, bad_index, outside_limits}

pub data Read (A : Type 0) : Type 0 where
  got : A → List ℕ → Read A
  bad : ℕ → Read A

abbrev pub Parser : Type 0 → Type 0
Parser A = List ℕ → Read A

unfoldable pub and_then : {A B : Type 0} → Read A → (A → Parser B) → Read B
and_then (got a bs) k = k a bs
and_then (bad n) k = bad n

abbrev pub ◌>>=◌ : {A B : Type 0} → Parser A → (A → Parser B) → Parser B
◌>>=◌ p k bs = and_then (p bs) k

abbrev pub return : {A : Type 0} → A → Parser A
return a bs = got a bs

abbrev pub refuse : {A : Type 0} → ℕ → Parser A
refuse n bs = bad n

-- refused with n unless the test holds; unless there is a value
unfoldable pub must : {A : Type 0} → Bool → ℕ → Parser A → Parser A
must true n p bs = p bs
must false n p bs = bad n

unfoldable pub from_option : {A : Type 0} → Option A → ℕ → Parser A
from_option (some a) n bs = got a bs
from_option none n bs = bad n

-- "bytes end early": 4
unfoldable pub byte : Parser ℕ
byte [] = bad bad_length
byte (b ∷ bs) = got b bs

-- an index below n: 6; a count from least to most: 7
unfoldable pub index : ℕ → Parser ℕ
index n = do
  i ← byte
  must (ltb i n) bad_index (return i)

unfoldable pub count : ℕ → ℕ → Parser ℕ
count least most = do
  n ← byte
  must (both (leb least n) (leb n most)) outside_limits (return n)

-- a code: its place in the table of its set, counted from the first code: 5
unfoldable pub decode : {A : Type 0} → ℕ → List A → ℕ → Option A
decode first table b = choose (leb first b) (look table (b - first)) none

unfoldable pub code : {A : Type 0} → ℕ → List A → Parser A
code first table = do
  b ← byte
  from_option (decode first table b) bad_code

-- the same where no room is left: 5 comes before 7
unfoldable pub code_in : {A : Type 0} → Bool → ℕ → List A → Parser A
code_in room first table = do
  a ← code first table
  must room outside_limits (return a)

-- n times
unfoldable pub many : {A : Type 0} → Parser A → ℕ → Parser (List A)
many p zero = return []
many p (suc n) = do
  a ← p
  l ← many p n
  return (a ∷ l)

-- a count, and then as many
unfoldable pub counted : {A : Type 0} → ℕ → ℕ → Parser A → Parser (List A)
counted least most p = do
  n ← count least most
  many p n
