-- What the functions of this crate promise of a size, a result type, conditions and a measure spelled at a place of a line; Δ is
-- the list of the sizes of the variables.
use Rattle.std.specs.Prelude.{ℕ, ◌*◌, ◌^◌, ◌≤◌, ◌<◌, List, Bool, ◌≡◌, length, get_or, Some, None, Option as Maybe}
use Rattle.std.proofs.Math.Option.{Option, none, some}
use Rattle.language.specs.Limits.{byte_range, nesting_most}
use Rattle.language.specs.Syntax.{Ty, tbool, tint, tnamed, Size, ResultType, Relation, Condition}
use Rattle.language.specs.Format.{spell_all, size_bytes, result_bytes, relation_code, condition_bytes}
use Rattle.language.specs.Within.{All, Bound, WithinSize, WithinResult, WithinCondition}
use Rattle.language.specs.Sizes.{added, taken, type_size, type_at, compare, condition_holds, conditions_hold, summed_measure}
use Rattle.text.specs.declared.Cursor.{Cursor}
use Rattle.text.specs.declared.Found.{Found}
use Rattle.text.specs.Bytes.{declared_word}
use Rattle.text.specs.Places.{past, byte_at}
use Rattle.encoding.specs.Spells.{Spells, themselves}
use Rattle.sizes.specs.declared.Worked.{Worked}
use Rattle.sizes.specs.declared.SizeAt.{SizeAt}
use Rattle.sizes.specs.declared.SizedType.{SizedType}
use Rattle.sizes.specs.declared.SizedType.TheVariants.{Bool as BoolIs, Int as IntIs, Named}
use Rattle.sizes.specs.declared.TypeAt.{TypeAt}
use Rattle.sizes.specs.declared.Judged.{Judged}

-- the byte at a place of the line, 0 where it has none
pub record Reads (line : List ℕ) (c : Cursor) (r : Found) : Type 0 where
  pub value : r.value ≡ byte_at line c.at
  pub next : r.next.at ≡ past line c.at 1
  pub less : r.value < byte_range

-- the size of a variable, 0 of one that is not in scope
pub record Told (Δ : List ℕ) (i r : ℕ) : Type 0 where
  pub is : r ≡ get_or Δ i 0
  pub less : r < byte_range

-- ---- sizes
pub record IsWorked (line Δ : List ℕ) (s : Size) (at : ℕ) (r : Worked) : Type 0 where
  pub is_added : r.added ≡ added Δ s
  pub is_taken : r.taken ≡ taken Δ s
  pub ends : r.next.at ≡ past line at (length (size_bytes s))

pub record WorksOut (line : List ℕ) (c : Cursor) (Δ : List ℕ) (levels : ℕ) (r : Worked) : Type 0 where
  pub says : (vars : ℕ) (s : Size) → WithinSize vars levels s → Spells size_bytes line c.at s → IsWorked line Δ s c.at r
  pub added_less : r.added < byte_range * 2 ^ levels
  pub taken_less : r.taken < byte_range * 2 ^ levels

-- a number or a variable whose code stands before the cursor
pub record LeafWorked (line : List ℕ) (c : Cursor) (Δ : List ℕ) (code : ℕ) (r : Worked) : Type 0 where
  pub says : (at : ℕ) (s : Size) → c.at ≡ past line at 1 → byte_at line at ≡ code → code < 3 → Spells size_bytes line at s → IsWorked line Δ s at r
  pub added_less : r.added < byte_range
  pub taken_less : r.taken < byte_range

-- the answer agrees with the definition's; a size has its cursor at the end of what is spelled
pub data AgreesSize (x : Option ℕ) (end : ℕ) : Maybe SizeAt → Type 0 where
  size_is : {s : SizeAt} → x ≡ some s.size → s.next.at ≡ end → AgreesSize x end (Some s)
  size-outside : x ≡ none → AgreesSize x end None

-- a size that is given is 1 to 64, whatever the bytes are
pub data SizeBound : Maybe SizeAt → Type 0 where
  size_bound : {s : SizeAt} → Bound s.size → SizeBound (Some s)
  no_size : SizeBound None

pub record SizeGiven (line : List ℕ) (c : Cursor) (Δ : List ℕ) (r : Maybe SizeAt) : Type 0 where
  pub says : (vars : ℕ) (s : Size) → WithinSize vars nesting_most s → Spells size_bytes line c.at s → AgreesSize (type_size Δ s) (past line c.at (length (size_bytes s))) r
  pub bound : SizeBound r

-- ---- types with sizes
abbrev pub meaning : SizedType → Ty
meaning BoolIs = tbool
meaning IntIs = tint
meaning (Named t k) = tnamed t k

pub data AgreesType (x : Option Ty) (end : ℕ) : Maybe TypeAt → Type 0 where
  type_is : {s : TypeAt} → x ≡ some (meaning s.ty) → s.next.at ≡ end → AgreesType x end (Some s)
  type_outside : x ≡ none → AgreesType x end None

-- a type of one byte each: its number, and its size from 1 to 64
pub data OneByteEach : SizedType → Type 0 where
  bool_small : OneByteEach BoolIs
  int_small : OneByteEach IntIs
  named_small : {t k : ℕ} → t < byte_range → Bound k → OneByteEach (Named t k)

pub data TypeBound : Maybe TypeAt → Type 0 where
  type_bound : {s : TypeAt} → OneByteEach s.ty → TypeBound (Some s)
  no_type : TypeBound None

pub record TypeGiven (line : List ℕ) (c : Cursor) (Δ : List ℕ) (r : Maybe TypeAt) : Type 0 where
  pub says : (types vars : ℕ) (ρ : ResultType) → WithinResult types vars ρ → Spells result_bytes line c.at ρ → AgreesType (type_at Δ ρ) (past line c.at (length (result_bytes ρ))) r
  pub bound : TypeBound r

-- a type whose number and size are of one byte each
pub data Small : Ty → Type 0 where
  small_bool : Small tbool
  small_int : Small tint
  small_named : {t k : ℕ} → t < byte_range → k < byte_range → Small (tnamed t k)

pub record WordOf (x : SizedType) (r : ℕ) : Type 0 where
  pub is : r ≡ declared_word (meaning x)
  pub small : Small (meaning x)

pub record FromWord (word : ℕ) (r : SizedType) : Type 0 where
  pub says : (τ : Ty) → Small τ → declared_word τ ≡ word → meaning r ≡ τ
  pub small : Small (meaning r)

-- ---- conditions
pub record Compares (code a b : ℕ) (r : Bool) : Type 0 where
  pub says : (rel : Relation) → code ≡ relation_code rel → r ≡ compare rel a b

pub record Judges (line : List ℕ) (c : Cursor) (Δ : List ℕ) (r : Judged) : Type 0 where
  pub says : (vars : ℕ) (κ : Condition) → WithinCondition vars κ → Spells condition_bytes line c.at κ → (r.holds ≡ condition_holds Δ κ) × (r.next.at ≡ past line c.at (length (condition_bytes κ)))

-- n conditions from the cursor on
pub record HoldAll (line : List ℕ) (c : Cursor) (Δ : List ℕ) (n : ℕ) (r : Bool) : Type 0 where
  pub says : (vars : ℕ) (κs : List Condition) → n ≡ length κs → All (WithinCondition vars) κs → Spells (spell_all condition_bytes) line c.at κs → r ≡ conditions_hold Δ κs

-- their count stands at the cursor
pub record Hold (line : List ℕ) (c : Cursor) (Δ : List ℕ) (r : Bool) : Type 0 where
  pub says : (vars : ℕ) (κs : List Condition) → byte_at line c.at ≡ length κs → All (WithinCondition vars) κs → Spells (spell_all condition_bytes) line (past line c.at 1) κs → r ≡ conditions_hold Δ κs

-- ---- measures
pub record SumsMeasures (line : List ℕ) (c : Cursor) (Δ : List ℕ) (n r : ℕ) : Type 0 where
  pub says : (is : List ℕ) → n ≡ length is → Spells themselves line c.at is → r ≡ summed_measure is Δ
  pub less : r ≤ 255 * n

-- their count stands at the cursor
pub record SumsMeasure (line : List ℕ) (c : Cursor) (Δ : List ℕ) (r : ℕ) : Type 0 where
  pub says : (is : List ℕ) → byte_at line c.at ≡ length is → Spells themselves line (past line c.at 1) is → r ≡ summed_measure is Δ
  pub less : r < 2 ^ 16
