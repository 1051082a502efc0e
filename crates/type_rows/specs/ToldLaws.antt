-- What is told of a constructor's fields and of a row, word by word; and that the tables of a text that was read tell it.
use Rattle.std.specs.Prelude.{ℕ, ◌+◌, ◌*◌, ◌%◌, ◌<◌, List, [], map, ◌≡◌, length}
use Rattle.std.proofs.Math.Option.{some}
use Rattle.std.proofs.Math.Path.{sym, ap}
use Rattle.std.proofs.Common.{subst, ◌∙◌, arith, get_or-take}
use Rattle.std.proofs.Math.ListN.{get_or, get_elem? as look, get_or-map}
use Rattle.language.specs.Limits.{byte_range}
use Rattle.language.specs.Syntax.{Field, fbool, Constructor, constructors_of, Ty, tbool, File}
use Rattle.language.specs.Within.{WithinField}
use Rattle.text.specs.Bytes.{declared_word, field_word}
use Rattle.encoding.specs.WithinParts.{type-within}
use Rattle.theory.specs.Lists.{look-get_d, look-less}
use Rattle.theory.specs.Alls.{all_get_d, all-at}
use Rattle.index.specs.Tables.{constructor_words, type_words}
use Rattle.encoding.specs.FrameLines.{line_at}
use Rattle.index.specs.Sections.{types_of}
use Rattle.index.specs.Indexed.{field_at, TypeIndexed, Indexed}
use Rattle.sizes.specs.Promises.{Small}
use Rattle.type_rows.specs.Rows.{ToldFields, ToldRow}

-- ---- a constructor's fields
module _ {types : List ℕ} {t c : ℕ} {fs : List Field} (q : ToldFields types t c fs) where
  pub fields-counted : {n : ℕ} → (n ≡ get_or types (type_words * t + 1 + constructor_words * c) 0 % byte_range) × (n < byte_range) → n ≡ length fs
  fields-counted a = omega (arith, a.0, q.count, q.few)

  pub field_told : {i : ℕ} → i < length fs → field_at types t c i ≡ field_word (get_or fs i fbool)
  unfolding field_word
  field_told {i} less = q.each i less ∙ get_or-map field_word fs i fbool

  pub field-within : {i : ℕ} → i < length fs → WithinField t (get_or fs i fbool)
  field-within {i} less = all_get_d q.within i fbool less

-- ---- a row
module _ {row : List ℕ} {n : ℕ} {τs : List Ty} (q : ToldRow row n τs) where
  pub word-told : {i : ℕ} → i < n → get_or row i 0 ≡ declared_word (get_or τs i tbool)
  unfolding declared_word
  word-told {i} less = sym (get_or-take n row i 0 less) ∙ ap (λ l. get_or l i 0) q.words ∙ get_or-map declared_word τs i tbool

  pub word_small : {i : ℕ} → i < n → Small (get_or τs i tbool)
  word_small {i} less = all_get_d q.small i tbool (omega (arith, q.long))

-- ---- a text that was read
pub told-fields : {text index : List ℕ} {P : File} → Indexed text index P → (t c : ℕ) {fs : Constructor} → t < length P.types → look (constructors_of P t) c ≡ some fs → ToldFields (types_of index) t c fs
told-fields {text} {index} {P} indexed t c {fs} less e = record {
  count = told.tells.fields c there ∙ ap length is;
  few = omega (arith, told.tells.few_fields c there, ap length is);
  each = subst (λ gs. (i : ℕ) → i < length gs → field_at (types_of index) t c i ≡ get_or (map field_word gs) i 0) is (told.fields c there);
  within = (all-at (type-within indexed.within t less).constructors c e).fields;
  small = omega (arith, indexed.within.few_types);
}
  where
    there : c < length (constructors_of P t)
    there = look-less (constructors_of P t) c e

    is : get_or (constructors_of P t) c [] ≡ fs
    is = look-get_d (constructors_of P t) c [] e

    told : TypeIndexed (line_at text t) (types_of index) t (constructors_of P t)
    told = indexed.each_type t less
