-- The cells of a constructor's fields that are not of the type itself, and of a type given as a word, return by return.
use Rattle.std.specs.Prelude.{ℕ, ◌+◌, ◌-◌, ◌*◌, ◌/◌, ◌%◌, ◌≤◌, ◌<◌, List, ◌≡◌, refl, length, get_or, take}
use Rattle.std.proofs.Common.{sym, ap, ◌∙◌, arith, add-one, take_all}
use Rattle.std.proofs.Math.Path.{ap₂}
use Rattle.language.specs.Limits.{byte_range}
use Rattle.language.specs.Syntax.{Field, fbool, fint, own, other, Ty, tbool, tint, tnamed, File, fields_of}
use Rattle.language.specs.Layout.{tag_step}
use Rattle.language.specs.Within.{WithinField, w_fbool, w_fint, w_own, w_other, WithinDeclared, w_tbool, w_tint, w_tnamed}
use Rattle.language.specs.Estimate.{stop}
use Rattle.language.specs.Cells.{other_cells, cells_named, cells_of}
use Rattle.text.specs.Bytes.{declared_word, field_word}
use Rattle.index.specs.Tables.{constructor_words, type_words}
use Rattle.index.specs.Sections.{types_of}
use Rattle.index.specs.Indexed.{field_at}
use Rattle.cells.specs.Most.{field_cells}
use Rattle.cells.specs.Counts.{Right, Counts, Sized, CountsCells, Made, CountsOthers, FieldOf, CountsField, CountsType}
use Rattle.cells.specs.MostLaws.{others-next}
use Rattle.cells.specs.TypeWords.{fields_told, field_told, field-within}
use Rattle.cells.specs.CountLaws.{counts-given, counts-as, counts-sum}

-- ---- the fields before i
abbrev pub OthersTo : List ℕ → List ℕ → ℕ → ℕ → ℕ → ℕ → List ℕ → Type 0
OthersTo index table t c i = Counts index table (Made t c) (λ P. other_cells (cells_named P) (take i (fields_of P t c)))

pub others-start : (index table : List ℕ) (t c : ℕ) → OthersTo index table t c 0 0 table
unfolding other_cells
others-start index table t c = counts-given (omega arith) (λ P h a. omega arith)

module _ {index table table₁ : List ℕ} {t c n i sum : ℕ} (q : (n ≡ get_or (types_of index) (type_words * t + 1 + constructor_words * c) 0 % byte_range) × (n < byte_range)) (v : OthersTo index table t c i sum table₁) where
  pub others-on : {one r : ℕ} {table₂ : List ℕ} → i < n → CountsField index table₁ t c i one table₂ → r ≡ stop (sum + one) → OthersTo index table t c (i + 1) r table₂
  others-on less w e =
      counts-as (counts-sum v w (λ P h a. record { made = a; field = omega (arith, less, fields_told h a q) }) e)
      (λ P h a. rw add-one (sym (others-next P i (fields_of P t c) (omega (arith, less, fields_told h a q)))))

  pub others-end : n ≤ i → CountsOthers index table t c sum table₁
  others-end le = counts-as v (λ P h a. ap (other_cells (cells_named P)) (take_all i (fields_of P t c) (omega (arith, le, fields_told h a q))))

-- ---- a field by its word
own-has-none : (P : File) (f : Field) → field_word f ≡ 2 → field_cells P f ≡ 0
unfolding field_word field_cells
own-has-none P fbool e = absurd (omega arith)
own-has-none P fint e = absurd (omega arith)
own-has-none P own e = refl
own-has-none P (other u k) e = absurd (omega arith)

earlier-type : {t : ℕ} {f : Field} → WithinField t f → field_word f / tag_step ≤ t
unfolding field_word
earlier-type w_fbool = omega arith
earlier-type w_fint = omega arith
earlier-type w_own = omega arith
earlier-type (w_other less bound) = omega (arith, less, bound.1)

-- the type of a field that is not of the type itself
unfoldable field_type : Field → Ty
field_type fbool = tbool
field_type fint = tint
field_type own = tbool
field_type (other u k) = tnamed u k

field-type-word : (f : Field) → (field_word f ≡ 2 → ⊥) → declared_word (field_type f) ≡ field_word f
unfolding field_type field_word declared_word
field-type-word fbool some = refl
field-type-word fint some = refl
field-type-word own some = absurd (some refl)
field-type-word (other u k) some = refl

field-type-cells : (P : File) (f : Field) → (field_word f ≡ 2 → ⊥) → cells_of P (field_type f) ≡ field_cells P f
unfolding field_type field_word cells_of field_cells
field-type-cells P fbool some = refl
field-type-cells P fint some = refl
field-type-cells P own some = absurd (some refl)
field-type-cells P (other u k) some = refl

field-type-within : {t n : ℕ} {f : Field} → WithinField t f → t < n → WithinDeclared n (field_type f)
unfolding field_type
field-type-within w_fbool less = w_tbool
field-type-within w_fint less = w_tint
field-type-within w_own less = w_tbool
field-type-within (w_other {t = u} earlier bound) less = w_tnamed {t = u} (omega (arith, earlier, less)) bound

module _ {index table : List ℕ} {t c i word : ℕ} (e : word ≡ field_at (types_of index) t c i) where
  word-is : (P : File) → Right index table P → FieldOf t c i P → field_word (get_or (fields_of P t c) i fbool) ≡ word
  word-is P h a = sym (e ∙ field_told h a)

  pub field-own : word ≡ 2 → CountsField index table t c i 0 table
  field-own two = counts-given (omega arith) (λ P h a. omega (arith, own-has-none P (get_or (fields_of P t c) i fbool) (word-is P h a ∙ two)))

  pub field-later : t < word / tag_step → CountsField index table t c i 0 table
  field-later less = counts-given (omega arith) (λ P h a. absurd (omega (arith, less, ap (λ n. n / tag_step) (word-is P h a), earlier-type (field-within h a))))

  pub field-type : {r : ℕ} {table' : List ℕ} → (word ≡ 2 → ⊥) → CountsType index table word r table' → CountsField index table t c i r table'
  field-type some v = record {
    small = v.small;
    is = λ P h a.
        let f = get_or (fields_of P t c) i fbool in
        let not_own : field_word f ≡ 2 → ⊥ = λ two. some (sym (word-is P h a) ∙ two) in
        v.is P (field_type f) h (field-type-within (field-within h a) a.made.named) (field-type-word f not_own ∙ word-is P h a) ∙ ap stop (field-type-cells P f not_own);
    right = λ P h a.
        let f = get_or (fields_of P t c) i fbool in
        v.right P (field_type f) h (field-type-within (field-within h a) a.made.named) (field-type-word f (λ two. some (sym (word-is P h a) ∙ two)) ∙ word-is P h a);
  }

-- ---- a type by its word
plain_cells : {n word : ℕ} (P : File) {τ : Ty} → WithinDeclared n τ → declared_word τ ≡ word → word < tag_step → cells_of P τ ≡ 1
unfolding declared_word cells_of
plain_cells P w_tbool e less = refl
plain_cells P w_tint e less = refl
plain_cells P (w_tnamed u bound) e less = absurd (omega (arith, e, less))

pub type-plain : {index table : List ℕ} {word : ℕ} → word < tag_step → CountsType index table word 1 table
type-plain less = record { small = omega arith; is = λ P τ h w e. omega (arith, plain_cells P w e less); right = λ P τ h w e. h }

-- a named type: its number and its size
module _ (P : File) {word : ℕ} (step : tag_step ≤ word) where
  word-sized : {τ : Ty} → WithinDeclared (length P.types) τ → declared_word τ ≡ word → Sized (word / tag_step - 1) (word % tag_step) P
  unfolding declared_word
  word-sized w_tbool e = absurd (omega (arith, e, step))
  word-sized w_tint e = absurd (omega (arith, e, step))
  word-sized (w_tnamed less bound) e = record { named = omega (arith, e, less, bound.1); some = omega (arith, e, bound.0, bound.1); few = omega (arith, e, bound.1) }

  word_cells : {τ : Ty} → WithinDeclared (length P.types) τ → declared_word τ ≡ word → cells_named P (word / tag_step - 1) (word % tag_step) ≡ cells_of P τ
  unfolding declared_word cells_of
  word_cells w_tbool e = absurd (omega (arith, e, step))
  word_cells w_tint e = absurd (omega (arith, e, step))
  word_cells (w_tnamed {t} {k} less bound) e =
      let number : word / tag_step - 1 ≡ t = omega (arith, e, bound.1) in
      let size : word % tag_step ≡ k = omega (arith, e, bound.1) in
      ap₂ (cells_named P) number size

pub type-named : {index table table' : List ℕ} {word r : ℕ} → tag_step ≤ word → CountsCells index table (word / tag_step - 1) (word % tag_step) r table' → CountsType index table word r table'
type-named step v = record { small = v.small; is = λ P τ h w e. v.is P h (word-sized P step w e) ∙ ap stop (word_cells P step w e); right = λ P τ h w e. v.right P h (word-sized P step w e) }
