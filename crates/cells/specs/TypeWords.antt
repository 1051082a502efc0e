-- What the section of types says of a file's constructors and fields, the fields' words among it; and which fields a file within the
-- limits has.
use Rattle.std.specs.Prelude.{ℕ, suc, ◌+◌, ◌*◌, ◌%◌, ◌≤◌, ◌<◌, ◌≡◌, length}
use mathlib.Core.List.{List, [], map}
use Rattle.std.proofs.Math.Path.{ap}
use Rattle.std.proofs.Common.{◌∙◌}
use native.Mathlib.Omega.{arith}
use Rattle.std.proofs.Math.ListN.{get_or, get_or-map}
use Rattle.language.specs.Limits.{byte_range, types_most, constructors_most, fields_most}
use Rattle.language.specs.Syntax.{fbool, Constructor, TypeDef, File, constructors_of, fields_of, owns}
use Rattle.language.specs.Within.{WithinField, WithinTypes}
use Rattle.theory.specs.Alls.{all_get_d}
use Rattle.text.specs.Bytes.{field_word}
use Rattle.encoding.specs.WithinParts.{type-within}
use Rattle.index.specs.Tables.{constructor_words, type_words, constructor_entry, type_entry, type_table}
use Rattle.index.specs.Sections.{types_of}
use Rattle.index.specs.Indexed.{field_at}
use Rattle.index.specs.Padded.{padded-at}
use Rattle.index.specs.Entries.{table_at}
use Rattle.index.specs.Enters.{TellsType}
use Rattle.index.specs.FreeLaws.{owns-fewer}
use Rattle.index.specs.TypeEntry.{constructor-wide}
use Rattle.index.specs.TypeTable.{type-wide, tells-type, each-within-few}
use Rattle.cells.specs.Counts.{Right, Made, FieldOf}

-- ---- a field's word in the entries
field-entry : (fs : Constructor) (i : ℕ) → length fs ≤ fields_most → i < length fs → get_or (constructor_entry fs) (2 + i) 0 ≡ field_word (get_or fs i fbool)
unfolding constructor_entry field_word
field-entry fs i few less =
    let on : 2 + i ≡ suc (suc i) = omega arith in
    rw on (padded-at fields_most (map field_word fs) i (omega arith) ∙ get_or-map field_word fs i fbool)

constructor-part : (d : TypeDef) (c j : ℕ) → length d ≤ constructors_most → c < length d → j < constructor_words → get_or (type_entry d) (1 + (constructor_words * c + j)) 0 ≡ get_or (constructor_entry (get_or d c [])) j 0
unfolding type_entry
constructor-part d c j few less k =
    let on : 1 + (constructor_words * c + j) ≡ suc (constructor_words * c + j) = omega arith in
    rw on (table_at constructor_words constructor_entry constructor-wide (constructors_most * constructor_words) d c j [] (omega (arith, few)) less k)

module _ {index table : List ℕ} {P : File} (h : Right index table P) where
  tells : (t : ℕ) → t < length P.types → TellsType (types_of index) t (constructors_of P t)
  tells t named = tells-type P.types t h.told h.within.few_types named (each-within-few h.within.types t named)

  pub few-types : length P.types ≤ types_most
  few-types = h.within.few_types

  pub types-within : WithinTypes 0 P.types
  types-within = h.within.types

  pub constructors-told : {t n : ℕ} → t < length P.types → (n ≡ get_or (types_of index) (type_words * t) 0 % byte_range) × (n < byte_range) → n ≡ length (constructors_of P t)
  constructors-told {t} named q = omega (arith, q.0, (tells t named).constructors, (tells t named).few)

  module _ {t c : ℕ} (a : Made t c P) where
    pub few-fields : length (fields_of P t c) ≤ fields_most
    few-fields = (tells t a.named).few_fields c a.there

    pub fields_told : {n : ℕ} → (n ≡ get_or (types_of index) (type_words * t + 1 + constructor_words * c) 0 % byte_range) × (n < byte_range) → n ≡ length (fields_of P t c)
    fields_told q = omega (arith, q.0, (tells t a.named).fields c a.there, few-fields)

    pub few-owns : owns (fields_of P t c) ≤ fields_most
    few-owns = omega (arith, few-fields, owns-fewer (fields_of P t c))

    pub owns-told : {n : ℕ} → (n ≡ get_or (types_of index) (type_words * t + 2 + constructor_words * c) 0 % byte_range) × (n < byte_range) → n ≡ owns (fields_of P t c)
    owns-told q = omega (arith, q.0, (tells t a.named).owns c a.there, few-owns)

  module _ {t c i : ℕ} (a : FieldOf t c i P) where
    pub field_told : field_at (types_of index) t c i ≡ field_word (get_or (fields_of P t c) i fbool)
    unfolding type_table
    field_told =
        let parts = each-within-few h.within.types t a.made.named in
        let few = few-fields a.made in
        let spot : type_words * t + 3 + constructor_words * c + i ≡ type_words * t + (1 + (constructor_words * c + (2 + i))) = omega arith in
        ap (λ l. get_or l (type_words * t + 3 + constructor_words * c + i) 0) h.told ∙ ap (λ n. get_or (type_table P.types) n 0) spot
        ∙ table_at type_words type_entry type-wide (types_most * type_words) P.types t (1 + (constructor_words * c + (2 + i))) [] (omega (arith, few-types)) a.made.named (omega (arith, parts.constructors, a.made.there, few, a.field))
        ∙ constructor-part (constructors_of P t) c (2 + i) parts.constructors a.made.there (omega (arith, few, a.field))
        ∙ field-entry (fields_of P t c) i few a.field

    pub field-within : WithinField t (get_or (fields_of P t c) i fbool)
    field-within =
        all_get_d (all_get_d (type-within h.within t a.made.named).constructors c [] a.made.there).fields i fbool a.field
