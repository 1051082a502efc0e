-- The test of a lent heap cell by cell, beside the definition's, and what the functions promise that make it.
use Rattle.std.specs.Prelude.{ℕ, zero, suc, ◌+◌, ◌-◌, ◌*◌, ◌/◌, ◌%◌, ◌≤◌, ◌<◌, List, [], ◌∷◌, ◌++◌, Bool, false, ◌≡◌, length, get_or, ltb, leb, eqb, Option as Maybe, unwrap_or}
use Rattle.std.proofs.Math.Option.{Option, some}
use Rattle.std.proofs.Math.ListN.{get_elem? as look}
use Rattle.language.specs.Limits.{fields_most}
use Rattle.language.specs.Codes.{field_bool, field_int}
use Rattle.language.specs.Result.{both, when, chain, choose}
use Rattle.language.specs.Syntax.{Field, fbool, fint, own, other, Constructor, Ty, tbool, tint, tnamed, File, constructors_of}
use Rattle.language.specs.Within.{All, WithinDeclared}
use Rattle.language.specs.Heap.{Cell, leaf, con, cell_at, size_in}
use Rattle.language.specs.Layout.{bool_tag, int_tag, tag_step, all_zero, cell_of_words, location_fits, cell_right, state_length}
use Rattle.theory.specs.CellWords.{Writable}
use Rattle.text.specs.Bytes.{declared_word}
use Rattle.text_lines.specs.Lines.{is_some}
use Rattle.index.specs.Indexed.{Indexed}
use Rattle.state_words.specs.Words.{tag_at, value_at, field_at, row_of}
use Rattle.state_words.specs.Holds.{Holds}

-- ---- one more cell, over the heap below it
unfoldable pub next_heap : File → List Cell → ℕ → ℕ → List ℕ → Option (List Cell)
next_heap P h tag v ls = chain (cell_of_words P tag v ls) (λ c. when (cell_right P h c) (h ++ (c ∷ [])))

-- the words of a cell, as nextHeap takes them
abbrev pub heap_with : File → List ℕ → List Cell → ℕ → Option (List Cell)
heap_with P words h i = next_heap P h (tag_at words i) (value_at words i) (row_of (field_at words i) fields_most)

-- the heap that the first n cells of the words are
unfoldable pub heap_to : File → List ℕ → ℕ → Option (List Cell)
heap_to P words zero = some []
heap_to P words (suc n) = chain (heap_to P words n) (λ h. heap_with P words h n)

-- ---- the type that a word stands for, and a cell's tag and value
unfoldable pub type_fits : ℕ → ℕ → ℕ → Bool
type_fits word tag v = choose (eqb word field_bool) (eqb tag bool_tag) (choose (eqb word field_int) (eqb tag int_tag) (choose (eqb (tag / tag_step) (word / tag_step)) (leb v (word % tag_step)) false))

-- a Bool or an Int; "Bool (0 or 1)"
unfoldable pub leaf_fits : List ℕ → ℕ → ℕ → Bool
leaf_fits words l tag = both (all_zero (row_of (field_at words l) fields_most)) (choose (eqb tag bool_tag) (leb (value_at words l) 1) (eqb tag int_tag))

-- ---- what is left of a constructor's size, one more than is still to be found, when its fields are gone through; 0 where one does
-- not fit
unfoldable pub own_type : ℕ → Cell → Bool
own_type t (leaf x) = false
own_type t (con u c k ls) = eqb u t

unfoldable pub field_left : List Cell → ℕ → Field → ℕ → ℕ → ℕ
field_left h t fbool l left = choose (location_fits h l tbool) left 0
field_left h t fint l left = choose (location_fits h l tint) left 0
field_left h t own l left = choose (both (ltb l (length h)) (own_type t (cell_at h l))) (left - size_in (cell_at h l)) 0
field_left h t (other u j) l left = choose (location_fits h l (tnamed u j)) left 0

unfoldable pub fields_left : List Cell → ℕ → List Field → List ℕ → ℕ → ℕ
fields_left h t [] [] left = left
fields_left h t [] (l ∷ ls) left = 0
fields_left h t (f ∷ fs) [] left = 0
fields_left h t (f ∷ fs) (l ∷ ls) left = fields_left h t fs ls (field_left h t f l left)

-- ---- promises: for every file that the index tells, over the heap of its cells that the words hold below
pub record Below (index words : List ℕ) (cell : ℕ) (P : File) (h : List Cell) : Type 0 where
  pub text : List ℕ
  pub indexed : Indexed text index P
  pub holds : Holds words cell h
  pub writable : All (Writable P) h

-- a tag is that of a constructor with these fields
pub record TagOf (P : File) (tag t c : ℕ) (fs : Constructor) : Type 0 where
  pub known : look (constructors_of P t) c ≡ some fs
  pub is : tag ≡ tag_step * (t + 1) + c
  pub small : c < tag_step

pub record LocationJudged (words : List ℕ) (used l word : ℕ) (r : Bool) : Type 0 where
  pub says : (P : File) (h : List Cell) → Holds words used h → All (Writable P) h → {types : ℕ} (τ : Ty) → WithinDeclared types τ → word ≡ declared_word τ → r ≡ location_fits h l τ

pub record OwnLeft (words : List ℕ) (cell tag l left : ℕ) (r : Maybe ℕ) : Type 0 where
  pub says : (P : File) (h : List Cell) → Holds words cell h → All (Writable P) h → (t c : ℕ) {fs : Constructor} → TagOf P tag t c fs → unwrap_or r 0 ≡ field_left h t own l left

pub record FieldLeft (index words : List ℕ) (cell tag j left : ℕ) (r : Maybe ℕ) : Type 0 where
  pub says : (P : File) (h : List Cell) → Below index words cell P h → (t c : ℕ) {fs : Constructor} → TagOf P tag t c fs → j < length fs → unwrap_or r 0 ≡ field_left h t (get_or fs j fbool) (field_at words cell j) left

pub record FieldsJudged (index words : List ℕ) (cell tag n : ℕ) (r : Bool) : Type 0 where
  pub says : (P : File) (h : List Cell) → Below index words cell P h → (t c : ℕ) {fs : Constructor} → TagOf P tag t c fs → n ≡ length fs → r ≡ eqb (fields_left h t fs (row_of (field_at words cell) n) (value_at words cell)) 1

pub record KnownJudged (index : List ℕ) (types tag : ℕ) (r : Bool) : Type 0 where
  pub says : (text : List ℕ) (P : File) → Indexed text index P → types ≡ length P.types → r ≡ is_some (look (constructors_of P (tag / tag_step - 1)) (tag % tag_step))

pub record CellJudged (index : List ℕ) (types : ℕ) (words : List ℕ) (cell : ℕ) (r : Bool) : Type 0 where
  pub says : (P : File) (h : List Cell) → Below index words cell P h → types ≡ length P.types → r ≡ is_some (heap_with P words h cell)

pub record CellsJudged (index : List ℕ) (types : ℕ) (words : List ℕ) (used : ℕ) (r : Bool) : Type 0 where
  pub says : (text : List ℕ) (P : File) → Indexed text index P → types ≡ length P.types → state_length used ≤ length words → r ≡ is_some (heap_to P words used)
