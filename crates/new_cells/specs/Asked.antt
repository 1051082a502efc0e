-- What is asked of the functions that make a cell, by the definitions of the evaluator: what each form's rule allocates.
use Rattle.std.specs.Prelude.{ℕ, ◌+◌, ◌<◌, List, Bool, ◌≡◌, length, get_or, ltb, leb, Option, Some, None, IfSome}
use Rattle.language.specs.Limits.{size_most}
use Rattle.language.specs.Refusals.{value_too_large}
use Rattle.language.specs.Result.{both, choose}
use Rattle.language.specs.Syntax.{Field, fbool, fint, own, other, Op, File, constructors_of, fields_of}
use Rattle.language.specs.Within.{WithinField}
use Rattle.language.specs.Format.{bit, op_code}
use Rattle.language.specs.Heap.{Constant, kbool, kint, Cell, leaf, con, apply_op, decides, cell_at, constant_in, size_in, own_sum, fields_within_of}
use Rattle.language.specs.Layout.{words_of}
use Rattle.language.specs.Evaluator.{Out, needs, alloc}
use Rattle.theory.specs.CellWords.{Writable}
use Rattle.text.specs.Bytes.{field_word}
use Rattle.index.specs.Indexed.{Indexed}
use Rattle.state_words.specs.Words.{row_of}
use Rattle.state_words.specs.Holds.{Holds}

-- ---- a new cell, by its words
pub record Allocates (row : List ℕ) (P : File) (cells : ℕ) (h : List Cell) (o : Out) : Type 0 where
  pub cell : Cell
  pub spelled : words_of cell ≡ row
  pub writable : Writable P cell
  pub is : o ≡ alloc cells h cell

-- ---- constants: a Bool by its bit, an Int by its bits
pub record MakesBool (word : ℕ) (P : File) (cells : ℕ) (h : List Cell) (o : Out) : Type 0 where
  pub truth : Bool
  pub spelled : bit truth ≡ word
  pub is : o ≡ alloc cells h (leaf (kbool truth))

pub record MakesInt (n : ℕ) (P : File) (cells : ℕ) (h : List Cell) (o : Out) : Type 0 where
  pub is : o ≡ alloc cells h (leaf (kint n))

-- ---- operators: by their codes, on constants and on cells
pub record Computes (o : ℕ) (x y r : Constant) : Type 0 where
  pub says : (op : Op) → op_code op ≡ o → r ≡ apply_op op x y

-- whether a left side alone decides
pub record Decides (o : ℕ) (left r : Bool) : Type 0 where
  pub says : (op : Op) → op_code op ≡ o → r ≡ decides op left

pub record Operates (o l m : ℕ) (P : File) (cells : ℕ) (h : List Cell) (out : Out) : Type 0 where
  pub op : Op
  pub code : op_code op ≡ o
  pub is : out ≡ alloc cells h (leaf (apply_op op (constant_in (cell_at h l)) (constant_in (cell_at h m))))

-- ---- a constructor of the file that the index tells of, with the first n values as its fields' cells
pub record Applied (index values : List ℕ) (t c n : ℕ) (P : File) (ls : List ℕ) : Type 0 where
  pub text : List ℕ
  pub indexed : Indexed text index P
  pub known : c < length (constructors_of P t)
  pub count : n ≡ length (fields_of P t c)
  pub given : ls ≡ row_of (λ j. get_or values j 0) n

pub record Constructs (index values : List ℕ) (t c n : ℕ) (P : File) (cells : ℕ) (h : List Cell) (out : Out) : Type 0 where
  pub ls : List ℕ
  pub applied : Applied index values t c n P ls
  pub is : out ≡ needs (both (ltb (own_sum h (fields_of P t c) ls) size_most) (fields_within_of h (fields_of P t c) ls)) value_too_large (alloc cells h (con t c (1 + own_sum h (fields_of P t c) ls) ls))

-- the own-type sizes from here on beside those so far; the largest size where they reach it or a field is above its k
unfoldable pub summed : List Cell → List Field → List ℕ → ℕ → ℕ
summed h fs ls sum = choose (both (ltb (sum + own_sum h fs ls) size_most) (fields_within_of h fs ls)) (sum + own_sum h fs ls) size_most

-- one field of a size
unfoldable pub added : ℕ → Field → ℕ → ℕ
added sum fbool s = sum
added sum fint s = sum
added sum own s = choose (ltb (sum + s) size_most) (sum + s) size_most
added sum (other t k) s = choose (leb s k) sum size_most

-- a sum, or the largest size where there is none
abbrev pub size_told : Option ℕ → ℕ
size_told (Some s) = s
size_told None = size_most

pub record Adds (words : List ℕ) (used sum word l : ℕ) (r : Option ℕ) : Type 0 where
  pub says : {t : ℕ} {f : Field} {h : List Cell} → WithinField t f → field_word f ≡ word → Holds words used h → size_told r ≡ added sum f (size_in (cell_at h l))
  pub low : IfSome r (λ s. s < size_most)

pub record Sums (index words : List ℕ) (used : ℕ) (values : List ℕ) (t c n : ℕ) (r : Option ℕ) : Type 0 where
  pub says : {P : File} {ls : List ℕ} {h : List Cell} → Applied index values t c n P ls → Holds words used h → size_told r ≡ summed h (fields_of P t c) ls 0
  pub low : IfSome r (λ s. s < size_most)
