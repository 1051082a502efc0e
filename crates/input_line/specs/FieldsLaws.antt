-- The fields of a constructor one after the other: what is left of them decides the whole.
use Rattle.std.specs.Prelude.{Ok, Option as Maybe, Some, None}
use Prim.Native.Nat.{ℕ, suc, ◌+◌, ◌-◌, ◌*◌, ◌/◌, ◌%◌, ◌≤◌, ◌<◌}
use mathlib.Core.List.{List, []}
use Rattle.std.specs.Prelude.{Bool, true, false, ◌≡◌, drop, eqb}
use Rattle.std.proofs.Math.Path.{refl, sym, ap}
use Rattle.std.proofs.Common.{◌∙◌, le_trans, add-one, drop-cons, eqb-true, eq-eqb, ne_eqb}
use native.Mathlib.Omega.{arith}
use Rattle.std.proofs.Math.ListN.{length, get_or}
use Rattle.std.proofs.Math.Seq.{drop-length}
use Rattle.language.specs.Limits.{byte_range}
use Rattle.language.specs.Codes.{field_own}
use Rattle.language.specs.Result.{choose}
use Rattle.language.specs.Syntax.{Field, fbool, Ty, tbool, tint, tnamed, File, constructors_of, fields_of}
use Rattle.language.specs.Within.{WithinField, w_fbool, w_fint, w_own, w_other}
use Rattle.language.specs.Layout.{tag_step}
use Rattle.language.specs.Parser.{and_then}
use Rattle.language.specs.ReadExpr.{con_form}
use Rattle.language.specs.Line.{value_trees, value_behind, value_at}
use Rattle.theory.specs.Places.{look_at}
use Rattle.text.specs.declared.Cursor.{Cursor}
use Rattle.text.specs.declared.Found.{Found}
use Rattle.text.specs.Bytes.{bytes_from, bytes_left, given, Moved, step_of, stopped, Below, below, no_number, declared_word, field_word}
use Rattle.text.specs.StepLaws.{ends-within, moved_none, moved_on, moved-left, number-below}
use Rattle.index.specs.Tables.{type_words, constructor_words}
use Rattle.index.specs.Sections.{types_of}
use Rattle.index.specs.Indexed.{Indexed, field_at}
use Rattle.type_rows.specs.ToldLaws.{fields-counted, field_told, field-within, told-fields}
use Rattle.input_line.specs.Judges.{as_number, sized, sized_fields, Asked, asks_bool, asks_int, asks_named, own_part, wanted_word, ConstructorAt, Judges}
use Rattle.input_line.specs.SizedLaws.{con-sized, field_type, field_adds, fields-step, fields-end}

-- ---- the small functions
pub wanted-own : (kind word size : ℕ) → kind ≡ field_own → word - size ≡ wanted_word kind word size
unfolding choose
wanted-own kind word size e = rw (eq-eqb kind field_own e)

pub wanted-other : (kind word size : ℕ) → ((kind ≡ field_own) → ⊥) → kind ≡ wanted_word kind word size
unfolding choose
wanted-other kind word size ne = rw (ne_eqb kind field_own ne)

pub part-own : (kind size : ℕ) → kind ≡ field_own → size ≡ own_part kind size
unfolding choose
part-own kind size e = rw (eq-eqb kind field_own e)

pub part-other : (kind size : ℕ) → ((kind ≡ field_own) → ⊥) → 0 ≡ own_part kind size
unfolding choose
part-other kind size ne = rw (ne_eqb kind field_own ne)

-- ---- a field by its word
-- the word asked for stands for the field's type, and what its size adds is what the definition adds
pub record FieldAsked (types t k word size : ℕ) (f : Field) : Type 0 where
  pub asked : Asked types (field_type t (k - size) f)
  pub stands : wanted_word (field_word f) word size ≡ declared_word (field_type t (k - size) f)
  pub adds : (s : ℕ) → own_part (field_word f) s ≡ field_adds f s

field-asked : {types t k word size : ℕ} {f : Field} → WithinField t f → t < types → k < byte_range → size ≤ k → word ≡ declared_word (tnamed t k) → FieldAsked types t k word size f
unfolding field_word declared_word choose
field-asked w_fbool low small le is = record { asked = asks_bool; stands = refl; adds = λ s. refl }
field-asked w_fint low small le is = record { asked = asks_int; stands = refl; adds = λ s. refl }
field-asked {k} {size} w_own low small le is = record { asked = asks_named {k = k - size} low (omega arith); stands = omega arith; adds = λ s. refl }
field-asked (w_other {t = u} {k = j} less bound) low small le is =
    let not_own : (tag_step * (u + 1) + j ≡ field_own) → ⊥ = λ e. omega arith in
    record { asked = asks_named {t = u} {k = j} (omega arith) (omega (arith, bound.1)); stands = rw (ne_eqb (tag_step * (u + 1) + j) field_own not_own); adds = λ s. rw (ne_eqb (tag_step * (u + 1) + j) field_own not_own) }

-- ---- from the first of n fields on: field j is next, and so much of the size was found
pub record LeftTo (P : File) (line : List ℕ) (t k constructor n : ℕ) (first : Cursor) (j size : ℕ) (next : Cursor) : Type 0 where
  pub count : n ≡ length (fields_of P t constructor)
  pub same : (m : ℕ) → bytes_left line first.at ≤ m → sized_fields P t k (fields_of P t constructor) 1 (value_trees (value_at m P) n (bytes_from line first.at))
      ≡ sized_fields P t k (drop j (fields_of P t constructor)) size (value_trees (value_at m P) (n - j) (bytes_from line next.at))

pub record FieldsLeft (line index : List ℕ) (word constructor n : ℕ) (first : Cursor) (j size : ℕ) (next : Cursor) : Type 0 where
  pub high : tag_step ≤ word
  pub within : size ≤ word % tag_step
  pub on : Moved line first.at (Ok next)
  pub says : (text : List ℕ) (P : File) → Indexed text index P → (t k : ℕ) → t < length P.types → k < byte_range → word ≡ declared_word (tnamed t k) →
      constructor < length (constructors_of P t) → LeftTo P line t k constructor n first j size next

type-of : {word k type : ℕ} (t : ℕ) → type ≡ word / tag_step - 1 → k < byte_range → word ≡ declared_word (tnamed t k) → type ≡ t
unfolding declared_word
type-of t e small is = omega arith

size_of : {word k : ℕ} (t : ℕ) → k < byte_range → word ≡ declared_word (tnamed t k) → word % tag_step ≡ k
unfolding declared_word
size_of t small is = omega arith

-- ---- no constructor
pub construct-none : {line index : List ℕ} {at word : ℕ} {r : Maybe Found} → ConstructorAt line index at word r → r ≡ None → Judges line index at word None (λ n P. value_behind P (value_at n P) con_form)
unfolding given
construct-none v e = record { says = λ text P x τ a is m enough. sym (v.wrong e text P x τ a is (value_at m P)); on = stopped; small = no_number }

-- ---- a constructor: its fields decide
module _ {line index : List ℕ} {at word : ℕ} {r : Maybe Found} {f : Found} (v : ConstructorAt line index at word r) (e : r ≡ Some f) where
  pub fields-start : {t n : ℕ} → t ≡ word / tag_step - 1 → (n ≡ get_or (types_of index) (type_words * t + 1 + constructor_words * f.value) 0 % byte_range) × (n < byte_range) → FieldsLeft line index word f.value n f.next 0 1 f.next
  fields-start {t} {n} type count = record {
    high = (v.named e).0;
    within = (v.named e).1;
    on = moved_none (ends-within (rw e at v.on));
    says = λ text P x u k low small is known.
        let told = told-fields x u f.value low (look_at (constructors_of P u) f.value [] known) in
        let none : n ≡ n - 0 = omega arith in
        record {
          count = fields-counted told (rw (type-of u type small is) at count);
          same = λ m enough. ap (λ i. sized_fields P u k (fields_of P u f.value) 1 (value_trees (value_at m P) i (bytes_from line f.next.at))) none;
        };
  }

  -- a word that is high is of a named type
  construct-judges : {n j size : ℕ} {next : Cursor} (q : Maybe Found) → FieldsLeft line index word f.value n f.next j size next →
      ((text : List ℕ) (P : File) → Indexed text index P → (t k : ℕ) → t < length P.types → k < byte_range → word ≡ declared_word (tnamed t k) → f.value < length (constructors_of P t) → (m : ℕ) → bytes_left line f.next.at ≤ m →
      given line (as_number q) ≡ sized_fields P t k (fields_of P t f.value) 1 (value_trees (value_at m P) n (bytes_from line f.next.at))) →
      Moved line f.next.at (step_of (as_number q)) → Below (1 + word % tag_step) (as_number q) → Judges line index at word q (λ n P. value_behind P (value_at n P) con_form)
  unfolding declared_word
  construct-judges {n} q left says on small = record { says = by; on = moved_on (rw e at v.on) on; small = small }
    where
      by : (text : List ℕ) (P : File) → Indexed text index P → (τ : Ty) → Asked (length P.types) τ → word ≡ declared_word τ → (m : ℕ) → bytes_left line at ≤ m → given line (as_number q) ≡ sized P τ (value_behind P (value_at m P) con_form (bytes_from line at))
      by text P x tbool a is m enough = absurd (omega (arith, left.high))
      by text P x tint a is m enough = absurd (omega (arith, left.high))
      by text P x (tnamed t k) (asks_named low less) is m enough =
          let made = v.found e text P x t k low less is in
          says text P x t k low less is made.known m (omega (arith, v.fewer e))
          ∙ ap (λ i. sized_fields P t k (fields_of P t f.value) 1 (value_trees (value_at m P) i (bytes_from line f.next.at))) (left.says text P x t k low less is made.known).count
          ∙ sym (ap (sized P (tnamed t k)) (made.read (value_at m P)) ∙ con-sized P t f.value k made.known _)

  pub fields-done : {n j size : ℕ} {next : Cursor} → FieldsLeft line index word f.value n f.next j size next → j ≤ n → n ≤ j → Judges line index at word (Some (record { value = size; next = next })) (λ n P. value_behind P (value_at n P) con_form)
  unfolding given
  fields-done {n} {j} {size} {next} w low high = construct-judges (Some (record { value = size; next = next })) w (λ text P x u k less small is known m enough.
      let left = w.says text P x u k less small is known in
      let within : size ≤ k = omega (arith, w.within, size_of u small is) in
      let all : j ≡ length (fields_of P u f.value) = omega (arith, left.count) in
      let none : n - j ≡ 0 = omega arith in
      sym (left.same m enough ∙ rw (none, all, drop-length (fields_of P u f.value)) (fields-end P u k size within (value_at m P) (bytes_from line next.at))))
      w.on (below {f = record { value = size; next = next }} (omega (arith, w.within)))

-- ---- one field
module _ {line index : List ℕ} {word constructor n j size t kind wanted : ℕ} {first next : Cursor} {y : Maybe Found} (v : FieldsLeft line index word constructor n first j size next) (less : j < n)
    (type : t ≡ word / tag_step - 1) (told : kind ≡ field_at (types_of index) t constructor j) (asked : wanted ≡ wanted_word kind word size) (u : Judges line index next.at wanted y (λ n P. value_at n P)) where
  -- what the field gave, and then those behind it
  next_field : (text : List ℕ) (P : File) → Indexed text index P → (w k : ℕ) → w < length P.types → k < byte_range → word ≡ declared_word (tnamed w k) → constructor < length (constructors_of P w) → (m : ℕ) → bytes_left line first.at ≤ m →
      sized_fields P w k (fields_of P w constructor) 1 (value_trees (value_at m P) n (bytes_from line first.at))
      ≡ and_then (given line (as_number y)) (λ s cs. sized_fields P w k (drop (suc j) (fields_of P w constructor)) (size + own_part kind s) (value_trees (value_at m P) (n - suc j) cs))
  unfolding and_then
  next_field text P x w k low small is known m enough =
      let left = v.says text P x w k low small is known in
      let fs = fields_of P w constructor in
      let f = get_or fs j fbool in
      let there : j < length fs = omega (arith, left.count) in
      let row = told-fields x w constructor low (look_at (constructors_of P w) constructor [] known) in
      let within : size ≤ k = omega (arith, v.within, size_of w small is) in
      let a = field-asked {size = size} (field-within row there) low small within is in
      let kind-is : kind ≡ field_word f = told ∙ ap (λ i. field_at (types_of index) i constructor j) (type-of w type small is) ∙ field_told row there in
      let one : n - j ≡ suc (n - suc j) = omega arith in
      let read = u.says text P x (field_type w (k - size) f) a.asked (asked ∙ ap (λ i. wanted_word i word size) kind-is ∙ a.stands) m (le_trans (moved-left v.on) enough) in
      left.same m enough ∙ rw (drop-cons fs j fbool there, one) (fields-step P w k (drop (suc j) fs) size within f (value_at m P) (n - suc j) (bytes_from line next.at))
      ∙ ap (λ z. and_then z (λ s cs. sized_fields P w k (drop (suc j) fs) (size + field_adds f s) (value_trees (value_at m P) (n - suc j) cs))) (sym read)
      ∙ ap (and_then (given line (as_number y))) (λ i s cs. sized_fields P w k (drop (suc j) fs) (size + ((sym (a.adds s) ∙ ap (λ q. own_part q s) (sym kind-is)) i)) (value_trees (value_at m P) (n - suc j) cs))

  module _ {g : Found} (e : y ≡ Some g) where
    -- a field of the type itself is within what is left
    pub part_small : own_part kind g.value ≤ word % tag_step - size
    unfolding choose
    part_small = cases (eqb kind field_own) refl
      where
        few : g.value < 1 + wanted % tag_step
        few = number-below u.small (ap as_number e)

        cases : (b : Bool) → eqb kind field_own ≡ b → choose b g.value 0 ≤ word % tag_step - size
        cases true is = omega (arith, few, asked ∙ sym (wanted-own kind word size (eqb-true kind field_own is)), v.within)
        cases false is = omega arith

    pub fields-on : {part : ℕ} → part ≡ own_part kind g.value → FieldsLeft line index word constructor n first (j + 1) (size + part) g.next
    unfolding given and_then
    fields-on {part} is-part = record {
      high = v.high;
      within = omega (arith, is-part, part_small, v.within);
      on = moved_on v.on (rw e at u.on);
      says = λ text P x w k low small is known. record {
        count = (v.says text P x w k low small is known).count;
        same = λ m enough. rw (add-one, is-part) (next_field text P x w k low small is known m enough ∙ rw e);
      };
    }

pub fields-stop : {line index : List ℕ} {at word n j size t kind wanted : ℕ} {next : Cursor} {r y : Maybe Found} {f : Found} → ConstructorAt line index at word r → r ≡ Some f → FieldsLeft line index word f.value n f.next j size next → j < n →
    t ≡ word / tag_step - 1 → kind ≡ field_at (types_of index) t f.value j → wanted ≡ wanted_word kind word size → Judges line index next.at wanted y (λ n P. value_at n P) → y ≡ None →
    Judges line index at word None (λ n P. value_behind P (value_at n P) con_form)
unfolding given and_then
fields-stop v e w less type told asked u none = construct-judges v e None w (λ text P x t k low small is known m enough.
    sym (rw none at (next_field w less type told asked u text P x t k low small is known m enough))) stopped no_number
