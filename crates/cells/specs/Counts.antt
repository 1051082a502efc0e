-- What the functions that count cells promise: the number, stopped, for every file within the limits whose types the index
-- tells, where the lent table is right about that file; and that it is right afterwards.
use Rattle.std.specs.Prelude.{ℕ, zero, suc, ◌+◌, ◌*◌, ◌≤◌, ◌<◌, List, map, ◌≡◌, length, get_or, take}
use Rattle.language.specs.Limits.{types_most, fields_most, size_most, number_most}
use Rattle.language.specs.Syntax.{fbool, Ty, tbool, File, constructors_of, fields_of, declared_types}
use Rattle.language.specs.Sizes.{sum}
use Rattle.language.specs.Within.{WithinDeclared, Within}
use Rattle.language.specs.Estimate.{stop}
use Rattle.language.specs.Cells.{other_cells, cells_named, cells_of}
use Rattle.text.specs.Bytes.{declared_word}
use Rattle.index.specs.Tables.{type_table}
use Rattle.index.specs.Indexed.{declared_at}
use Rattle.index.specs.Sections.{types_of, channels_of}
use Rattle.cells.specs.Most.{most_own, made_cells, field_cells}

-- ---- the lent table: a row for each type, in it for each r from 0 to 4 a word for each size from 0 to 64
abbrev pub size_words : ℕ
size_words = 1 + size_most

abbrev pub row_words : ℕ
row_words = (1 + fields_most) * size_words

abbrev pub table_words : ℕ
table_words = types_most * row_words

abbrev pub place : ℕ → ℕ → ℕ → ℕ
place t r m = row_words * t + size_words * r + m

-- a word is 0, or a number and one: r = 0 the type's cells at size m, else those of r values whose sizes sum to at most m
unfoldable pub stands_for : File → ℕ → ℕ → ℕ → ℕ
stands_for P t zero m = cells_named P t m
stands_for P t (suc r) m = most_own P t (suc r) m

pub record Remembers (P : File) (table : List ℕ) : Type 0 where
  pub word : (t r m : ℕ) → t < length P.types → r ≤ fields_most → m ≤ size_most → (get_or table (place t r m) 0 ≡ 0 → ⊥) → get_or table (place t r m) 0 ≡ 1 + stop (stands_for P t r m)

-- ---- the index tells the file's types, and what is remembered is right
pub record Right (index table : List ℕ) (P : File) : Type 0 where
  pub within : Within P
  pub told : types_of index ≡ type_table P.types
  pub remembers : Remembers P table

-- ---- a number counted of each file for which it is asked
pub record Counts (index table : List ℕ) (asked : File → Type 0) (value : File → ℕ) (r : ℕ) (table' : List ℕ) : Type 0 where
  pub small : r ≤ number_most
  pub is : (P : File) → Right index table P → asked P → r ≡ stop (value P)
  pub right : (P : File) → Right index table P → asked P → Right index table' P

-- a type and a size of the file
pub record Sized (t k : ℕ) (P : File) : Type 0 where
  pub named : t < length P.types
  pub some : 1 ≤ k
  pub few : k ≤ size_most

abbrev pub CountsCells : List ℕ → List ℕ → ℕ → ℕ → ℕ → List ℕ → Type 0
CountsCells index table t k = Counts index table (Sized t k) (λ P. cells_named P t k)

-- so many values of a type
pub record Several (t r m : ℕ) (P : File) : Type 0 where
  pub named : t < length P.types
  pub few : r ≤ fields_most
  pub low : m ≤ size_most

abbrev pub CountsOwn : List ℕ → List ℕ → ℕ → ℕ → ℕ → ℕ → List ℕ → Type 0
CountsOwn index table t r m = Counts index table (Several t r m) (λ P. most_own P t r m)

-- a constructor of a type, a field of it
pub record Made (t c : ℕ) (P : File) : Type 0 where
  pub named : t < length P.types
  pub there : c < length (constructors_of P t)

pub record MadeSized (t k c : ℕ) (P : File) : Type 0 where
  pub made : Made t c P
  pub low : k ≤ size_most

pub record FieldOf (t c i : ℕ) (P : File) : Type 0 where
  pub made : Made t c P
  pub field : i < length (fields_of P t c)

abbrev pub CountsConstructor : List ℕ → List ℕ → ℕ → ℕ → ℕ → ℕ → List ℕ → Type 0
CountsConstructor index table t k c = Counts index table (MadeSized t k c) (λ P. made_cells P t k (fields_of P t c))

abbrev pub CountsOthers : List ℕ → List ℕ → ℕ → ℕ → ℕ → List ℕ → Type 0
CountsOthers index table t c = Counts index table (Made t c) (λ P. other_cells (cells_named P) (fields_of P t c))

abbrev pub CountsField : List ℕ → List ℕ → ℕ → ℕ → ℕ → ℕ → List ℕ → Type 0
CountsField index table t c i = Counts index table (FieldOf t c i) (λ P. field_cells P (get_or (fields_of P t c) i fbool))

-- a type within the limits, given as a word
pub record CountsType (index table : List ℕ) (word r : ℕ) (table' : List ℕ) : Type 0 where
  pub small : r ≤ number_most
  pub is : (P : File) (τ : Ty) → Right index table P → WithinDeclared (length P.types) τ → declared_word τ ≡ word → r ≡ stop (cells_of P τ)
  pub right : (P : File) (τ : Ty) → Right index table P → WithinDeclared (length P.types) τ → declared_word τ ≡ word → Right index table' P

-- the words of the channels' declared types
abbrev pub ChannelsTold : List ℕ → File → Type 0
ChannelsTold index P = (i : ℕ) → i < length (declared_types P) → declared_at (channels_of index) i ≡ declared_word (get_or (declared_types P) i tbool)

-- the first n channels
pub record Channels (index : List ℕ) (n : ℕ) (P : File) : Type 0 where
  pub told : ChannelsTold index P
  pub few : n ≤ length (declared_types P)

abbrev pub CountsChannels : List ℕ → List ℕ → ℕ → ℕ → List ℕ → Type 0
CountsChannels index table n = Counts index table (Channels index n) (λ P. sum (map (cells_of P) (take n (declared_types P))))
