-- The table of types: a type read is one entry more, and what the table says of each type.
use Rattle.language.specs.declared.refusals.Refusal.{Refusal}
use Rattle.language.specs.RefusalNumbers.{number_of}
use Rattle.std.specs.Prelude.{Ok, Err}
use Rattle.std.specs.Prelude.{ℕ, zero, suc, ◌+◌, ◌*◌, ◌≤◌, ◌<◌, List, [], ◌∷◌, ◌++◌, Bool, ◌≡◌, refl, length, get_or, replicate}
use Rattle.std.proofs.Common.{sym, ap, ◌∙◌, add-zero, arith, length-append}
use Rattle.std.proofs.lemmas.List.{get_or_at}
use Rattle.language.specs.Limits.{types_most, constructors_most, fields_most}
use Rattle.language.specs.Syntax.{TypeDef, self_free, File}
use Rattle.language.specs.Format.{spell_all}
use Rattle.language.specs.Layout.{padded}
use Rattle.language.specs.Parser.{got, bad, count, counted}
use Rattle.language.specs.ReadExpr.{field}
use Rattle.language.specs.Reader.{type_def}
use Rattle.language.specs.Within.{All, all_nil, all_cons, WithinConstructor, WithinType, WithinTypes, wt_nil, wt_cons}
use Rattle.text.specs.declared.Cursor.{Cursor}
use Rattle.text.specs.Bytes.{Step, bytes_from}
use Rattle.text.specs.StepLaws.{pass-got, pass-bad}
use Rattle.index.specs.Tables.{constructor_words, type_words, constructor_entry, type_entry, type_table}
use Rattle.theory.specs.Padding.{padded-length}
use Rattle.index.specs.Padded.{padded-none}
use Rattle.index.specs.Entries.{spell-length, spell-more, table_at}
use Rattle.index.specs.Enters.{Enters, constructor_behind, type_behind, TellsType, SelfFree}
use Rattle.index.specs.ParserLaws.{counted-most, counted-each}
use Rattle.index.specs.TypeEntry.{constructor-wide}

pub type-wide : (d : TypeDef) → length (type_entry d) ≡ type_words
unfolding type_entry
type-wide d = omega (arith, padded-length (constructors_most * constructor_words) (spell_all constructor_entry d))

-- no types: all words zero
pub no-types : type_table [] ≡ replicate (types_most * type_words) 0
unfolding type_table spell_all
no-types = padded-none (types_most * type_words)

-- the parser of a type, by the number of types before it
pub type-def-behind : (P : File) (bs : List ℕ) → type_def P bs ≡ type_behind (length P.types) bs
unfolding type_def
type-def-behind P bs = refl

-- ---- a type read is one entry more
pub type-added : {line types types' : List ℕ} {at t : ℕ} {r : Step} {d : TypeDef} {rest : List ℕ} (ds : List TypeDef) → Enters type_entry line at (type_words * t) types r types' (type_behind t (bytes_from line at)) →
    length ds ≡ t → t < types_most → types ≡ type_table ds → type_behind t (bytes_from line at) ≡ got d rest → types' ≡ type_table (ds ++ (d ∷ []))
unfolding type_table
type-added {d} ds v len few tb e =
    v.enters (types_most * type_words) (spell_all type_entry ds) e tb (omega (arith, spell-length type_words type_entry type-wide ds)) (omega (arith, type-wide d)) ∙ sym (ap (padded (types_most * type_words)) (spell-more type_entry ds d))

-- ---- few constructors, of few fields
pub record FewParts (d : TypeDef) : Type 0 where
  pub constructors : length d ≤ constructors_most
  pub fields : (c : ℕ) → c < length d → length (get_or d c []) ≤ fields_most

within-fields : {types : ℕ} {d : TypeDef} → All (WithinConstructor types) d → (c : ℕ) → c < length d → length (get_or d c []) ≤ fields_most
within-fields all_nil c h = absurd (omega arith)
within-fields (all_cons w ws) zero h = w.few
within-fields (all_cons w ws) (suc c) h = within-fields ws c (omega arith)

pub within-few : {types : ℕ} {d : TypeDef} → WithinType types d → FewParts d
within-few w = record { constructors = w.few; fields = within-fields w.constructors }

pub each-within-few : {earlier : ℕ} {ds : List TypeDef} → WithinTypes earlier ds → (t : ℕ) → t < length ds → FewParts (get_or ds t [])
each-within-few wt_nil t h = absurd (omega arith)
each-within-few (wt_cons w ws) zero h = within-few w
each-within-few (wt_cons w ws) (suc t) h = each-within-few ws t (omega arith)

pub read-few : (t : ℕ) (bs : List ℕ) {d : TypeDef} {rest : List ℕ} → type_behind t bs ≡ got d rest → FewParts d
unfolding counted
read-few t bs h = record {
  constructors = counted-most 1 constructors_most (constructor_behind t) bs h;
  fields = counted-each (constructor_behind t) fields_most (λ cs l r e. counted-most 0 fields_most (field t) cs e) (count 1 constructors_most bs) h;
}

-- ---- what an entry says
entry-constructors : (d : TypeDef) → get_or (type_entry d) 0 0 ≡ length d
unfolding type_entry
entry-constructors d = refl

entry-part : (d : TypeDef) (c j : ℕ) → FewParts d → c < length d → j < constructor_words → get_or (type_entry d) (1 + (constructor_words * c + j)) 0 ≡ get_or (constructor_entry (get_or d c [])) j 0
unfolding type_entry
entry-part d c j s h k =
    let on : 1 + (constructor_words * c + j) ≡ suc (constructor_words * c + j) = omega arith in
    rw on (table_at constructor_words constructor_entry constructor-wide (constructors_most * constructor_words) d c j [] (omega (arith, s.constructors)) h k)

pub tells-type : {types : List ℕ} (ds : List TypeDef) (t : ℕ) → types ≡ type_table ds → length ds ≤ types_most → t < length ds → FewParts (get_or ds t []) → TellsType types t (get_or ds t [])
unfolding type_table constructor_entry
tells-type {types} ds t tb few h s = record {
  few = s.constructors;
  constructors = ap (λ l. get_or l (type_words * t) 0) tb ∙ ap (λ i. get_or (type_table ds) i 0) (sym (add-zero (type_words * t))) ∙ word 0 (omega arith) ∙ entry-constructors (get_or ds t []);
  few_fields = s.fields;
  fields = λ c less. let place : type_words * t + 1 + constructor_words * c ≡ type_words * t + (1 + (constructor_words * c + 0)) = omega arith in
      ap (λ l. get_or l (type_words * t + 1 + constructor_words * c) 0) tb ∙ ap (λ i. get_or (type_table ds) i 0) place ∙ word (1 + (constructor_words * c + 0)) (omega (arith, s.constructors)) ∙ entry-part (get_or ds t []) c 0 s less (omega arith);
  owns = λ c less. let place : type_words * t + 2 + constructor_words * c ≡ type_words * t + (1 + (constructor_words * c + 1)) = omega arith in
      ap (λ l. get_or l (type_words * t + 2 + constructor_words * c) 0) tb ∙ ap (λ i. get_or (type_table ds) i 0) place ∙ word (1 + (constructor_words * c + 1)) (omega (arith, s.constructors)) ∙ entry-part (get_or ds t []) c 1 s less (omega arith);
}
  where
    word : (j : ℕ) → j < type_words → get_or (type_table ds) (type_words * t + j) 0 ≡ get_or (type_entry (get_or ds t [])) j 0
    word j k = table_at type_words type_entry type-wide (types_most * type_words) ds t j [] (omega arith) h k

-- the type that was read last
pub tells-last : {types : List ℕ} (ds : List TypeDef) (d : TypeDef) {t : ℕ} → types ≡ type_table (ds ++ (d ∷ [])) → length ds ≡ t → t < types_most → FewParts d → TellsType types t d
tells-last {types} ds d {t} tb len few s =
    let last : get_or (ds ++ (d ∷ [])) t [] ≡ d = get_or_at ds d [] [] t len in
    let size = length-append ds (d ∷ []) in
    rw last at (tells-type (ds ++ (d ∷ [])) t tb (omega arith) (omega arith) (rw last s))

-- whether it is free of itself
pub self-free-told : {types : List ℕ} (ds : List TypeDef) (d : TypeDef) {t : ℕ} {r : Bool} → SelfFree types t r → types ≡ type_table (ds ++ (d ∷ [])) → length ds ≡ t → t < types_most → FewParts d → r ≡ self_free d
self-free-told ds d v tb len few s = v.says d (tells-last ds d tb len few s)

-- ---- a type frame behind its kind, with the types of the file so far: the type read, and the table with it
pub record TypeRead (P : File) (bs rest types : List ℕ) : Type 0 where
  pub def : TypeDef
  pub read : type_def P bs ≡ got def rest
  pub few : FewParts def
  pub table : types ≡ type_table (P.types ++ (def ∷ []))

module _ {line types types' : List ℕ} {at t : ℕ} {r : Step} (P : File) (size : length P.types ≡ t) (v : Enters type_entry line at (type_words * t) types r types' (type_behind t (bytes_from line at))) where
  type-def-is : type_def P (bytes_from line at) ≡ type_behind t (bytes_from line at)
  type-def-is = type-def-behind P (bytes_from line at) ∙ ap (λ n. type_behind n (bytes_from line at)) size

  pub type-read : {c : Cursor} → t < types_most → types ≡ type_table P.types → r ≡ Ok c → TypeRead P (bytes_from line at) (bytes_from line c.at) types'
  type-read few tb e =
      let g = pass-got v.passes e in
      record { def = g.value; read = type-def-is ∙ g.is; few = read-few t _ g.is; table = type-added P.types v size few tb g.is }

  pub type-refused : {n : Refusal} → r ≡ Err n → type_def P (bytes_from line at) ≡ bad (number_of n)
  type-refused e = type-def-is ∙ pass-bad v.passes e
