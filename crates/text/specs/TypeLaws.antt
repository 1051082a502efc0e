-- Types read as words, and result types passed over: each way of the cursor is the way of the parser.
use Rattle.language.specs.declared.refusals.Refusal.{Refusal}
use Rattle.std.specs.Prelude.{Ok, Err}
use Prim.Native.Nat.{ℕ, zero, suc, ◌+◌, ◌*◌, ◌^◌, ◌≤◌, ◌<◌}
use Rattle.std.specs.Prelude.{List, ◌≡◌}
use Rattle.std.proofs.Math.Option.{some}
use Rattle.std.proofs.Math.Path.{refl, ap}
use Rattle.std.proofs.Common.{◌∙◌, arith}
use Rattle.std.proofs.Math.ListN.{get_elem? as look}
use Rattle.language.specs.Limits.{byte_range, size_most, nesting_most}
use Rattle.language.specs.Layout.{tag_step}
use Rattle.language.specs.Syntax.{other, Plain, pnamed, tnamed, ResultType, rnamed}
use Rattle.language.specs.Parser.{Read, got, bad, Parser, ◌>>=◌, return, and_then, index, count}
use Rattle.language.specs.ReadExpr.{FieldForm, bool_field, int_field, own_field, other_field, field_forms, field_behind, field, TypeForm, bool_type, int_type, named_type, type_forms, plain_behind, plain, declared_behind, declared, bound, size, size_at, result_behind, result}
use Rattle.text.specs.declared.Found.{Found}
use Rattle.text.specs.Bytes.{Number, Step, bytes_from, forget, map_read, step_of, ReadsNumber, Passes, Below, below, plain_word, declared_word, field_word}
use Rattle.text.specs.Codes.{code_place, named_word}
use Rattle.text.specs.ReadLaws.{read-then, read-stops}
use Rattle.text.specs.StepLaws.{below_more, number-below, number-moved, number_same, number-none, number-other, pass-none, pass-here, reads-behind, passes-behind, read-then-read, read-stops-read, read-then-pass, read-stops-pass, forget-then}
use Rattle.text.specs.CodeLaws.{code-then, code-stops, code_below}

-- words of types stay below this
below-words : {x : Number} → Below byte_range x → Below (2 ^ 17) x
below-words b = below_more (omega arith) b

-- the last form of a table is the one left
last-type : {line : List ℕ} {at : ℕ} {x : Number} {f : Found} → ReadsNumber line at x (code_place 0x00 3 (bytes_from line at)) → x ≡ Ok f → 2 ≤ f.value → f.value ≡ 2
last-type v e h = omega (arith, code_below 0x00 type_forms v e)

last-field : {line : List ℕ} {at : ℕ} {x : Number} {f : Found} → ReadsNumber line at x (code_place 0x00 4 (bytes_from line at)) → x ≡ Ok f → 3 ≤ f.value → f.value ≡ 3
last-field v e h = omega (arith, code_below 0x00 field_forms v e)

-- ---- the type of a parameter
module _ (line : List ℕ) (at types : ℕ) {x : Number} (v : ReadsNumber line at x (code_place 0x00 3 (bytes_from line at)) × Below byte_range x) where
  pub parameter-no-code : {n : Refusal} → x ≡ Err n → ReadsNumber line at x (map_read plain_word (plain types (bytes_from line at))) × Below (2 ^ 17) x
  unfolding plain map_read
  parameter-no-code e = (number-none v.0 e (ap (map_read plain_word) (code-stops 0x00 type_forms (plain_behind types) v.0 e)), below-words v.1)

  module _ {f : Found} (e : x ≡ Ok f) where
    plain-constant : (i : ℕ) → f.value ≡ i → i < 2 → map_read plain_word (plain types (bytes_from line at)) ≡ got f.value (bytes_from line f.next.at)
    unfolding plain plain_behind map_read plain_word
    plain-constant zero q h = ap (map_read plain_word) (code-then 0x00 type_forms (plain_behind types) v.0 bool_type e q refl) ∙ rw q
    plain-constant (suc zero) q h = ap (map_read plain_word) (code-then 0x00 type_forms (plain_behind types) v.0 int_type e q refl) ∙ rw q
    plain-constant (suc (suc i)) q h = absurd (omega arith)

    pub parameter-constant : f.value < 2 → ReadsNumber line at (Ok f) (map_read plain_word (plain types (bytes_from line at))) × Below (2 ^ 17) (Ok f)
    parameter-constant h = (number_same v.0 e (plain-constant f.value refl h), below-words (rw e at v.1))

    module _ (h : 2 ≤ f.value) {y : Number} (u : ReadsNumber line f.next.at y (index types (bytes_from line f.next.at)) × Below byte_range y) where
      abbrev named_of : ℕ → Parser Plain
      named_of t = return (pnamed t)

      plain-named : plain types (bytes_from line at) ≡ and_then (index types (bytes_from line f.next.at)) named_of
      unfolding plain plain_behind
      plain-named = code-then 0x00 type_forms (plain_behind types) v.0 named_type e (last-type v.0 e h) refl

      pub parameter-no-type : {n : Refusal} → y ≡ Err n → ReadsNumber line at y (map_read plain_word (plain types (bytes_from line at))) × Below (2 ^ 17) y
      unfolding map_read
      parameter-no-type d = (reads-behind (number-moved v.0 e) refl (number-none u.0 d (ap (map_read plain_word) (plain-named ∙ read-stops named_of u.0 d))), below-words u.1)

      pub parameter-named : {g : Found} → y ≡ Ok g → ReadsNumber line at (Ok (record { value = tag_step * (g.value + 1); next = g.next })) (map_read plain_word (plain types (bytes_from line at))) × Below (2 ^ 17) (Ok (record { value = tag_step * (g.value + 1); next = g.next }))
      unfolding map_read plain_word
      parameter-named {g} d = (reads-behind (number-moved v.0 e) refl (number-other u.0 d (ap (map_read plain_word) (plain-named ∙ read-then named_of u.0 d))), below {f = record { value = tag_step * (g.value + 1); next = g.next }} (omega (arith, number-below u.1 d)))

-- ---- a named type and its size
module _ (line : List ℕ) (at types : ℕ) {x : Number} (v : ReadsNumber line at x (index types (bytes_from line at)) × Below byte_range x) where
  abbrev word_of : ℕ → ℕ → Parser ℕ
  word_of t k = return (tag_step * (t + 1) + k)

  abbrev sized_of : ℕ → Parser ℕ
  sized_of t = do
    k ← bound
    word_of t k

  pub named-no-type : {n : Refusal} → x ≡ Err n → ReadsNumber line at x (named_word types (bytes_from line at)) × Below (2 ^ 17) x
  unfolding named_word
  named-no-type e = (read-stops-read sized_of v.0 e, below-words v.1)

  module _ {f : Found} (e : x ≡ Ok f) {y : Number} (u : ReadsNumber line f.next.at y (count 1 size_most (bytes_from line f.next.at)) × Below byte_range y) where
    pub named-no-size : {n : Refusal} → y ≡ Err n → ReadsNumber line at y (named_word types (bytes_from line at)) × Below (2 ^ 17) y
    unfolding named_word bound
    named-no-size d = (read-then-read sized_of v.0 e (read-stops-read (word_of f.value) u.0 d), below-words u.1)

    pub named-whole : {g : Found} → y ≡ Ok g → ReadsNumber line at (Ok (record { value = tag_step * (f.value + 1) + g.value; next = g.next })) (named_word types (bytes_from line at)) × Below (2 ^ 17) (Ok (record { value = tag_step * (f.value + 1) + g.value; next = g.next }))
    unfolding named_word bound
    named-whole {g} d = (read-then-read sized_of v.0 e (number-other u.0 d (read-then (word_of f.value) u.0 d)), below {f = record { value = tag_step * (f.value + 1) + g.value; next = g.next }} (omega (arith, number-below v.1 e, number-below u.1 d)))

-- the word of a type with its number and size is the number read for these
module _ {A : Type 0} (word : A → ℕ) (make : ℕ → ℕ → A) (p : (t k : ℕ) → word (make t k) ≡ tag_step * (t + 1) + k) where
  word-of-size : (t : ℕ) (y : Read ℕ) → map_read word (and_then y (λ k bs. got (make t k) bs)) ≡ and_then y (λ k bs. got (tag_step * (t + 1) + k) bs)
  unfolding map_read and_then
  word-of-size t (got k bs) = ap (λ n. got n bs) (p t k)
  word-of-size t (bad n) = refl

  word-of-both : (y : Read ℕ) → map_read word (and_then y (λ t bs. and_then (bound bs) (λ k cs. got (make t k) cs))) ≡ and_then y (λ t bs. and_then (bound bs) (λ k cs. got (tag_step * (t + 1) + k) cs))
  unfolding map_read and_then
  word-of-both (got t bs) = word-of-size t (bound bs)
  word-of-both (bad n) = refl

  sized-word : (types : ℕ) (bs : List ℕ) → map_read word (and_then (index types bs) (λ t cs. and_then (bound cs) (λ k ds. got (make t k) ds))) ≡ named_word types bs
  unfolding named_word
  sized-word types bs = word-of-both (index types bs)

-- ---- a declared type
module _ (line : List ℕ) (at types : ℕ) {x : Number} (v : ReadsNumber line at x (code_place 0x00 3 (bytes_from line at)) × Below byte_range x) where
  pub declared-no-code : {n : Refusal} → x ≡ Err n → ReadsNumber line at x (map_read declared_word (declared types (bytes_from line at))) × Below (2 ^ 17) x
  unfolding declared map_read
  declared-no-code e = (number-none v.0 e (ap (map_read declared_word) (code-stops 0x00 type_forms (declared_behind types) v.0 e)), below-words v.1)

  module _ {f : Found} (e : x ≡ Ok f) where
    declared-form : {i : ℕ} (form : TypeForm) → f.value ≡ i → look type_forms i ≡ some form → map_read declared_word (declared types (bytes_from line at)) ≡ map_read declared_word (declared_behind types form (bytes_from line f.next.at))
    unfolding declared
    declared-form form q p = ap (map_read declared_word) (code-then 0x00 type_forms (declared_behind types) v.0 form e q p)

    declared-is : (i : ℕ) → f.value ≡ i → i < 2 → map_read declared_word (declared types (bytes_from line at)) ≡ got f.value (bytes_from line f.next.at)
    unfolding declared_behind map_read declared_word
    declared-is zero q h = declared-form bool_type q refl ∙ rw q
    declared-is (suc zero) q h = declared-form int_type q refl ∙ rw q
    declared-is (suc (suc i)) q h = absurd (omega arith)

    pub declared-constant : f.value < 2 → ReadsNumber line at (Ok f) (map_read declared_word (declared types (bytes_from line at))) × Below (2 ^ 17) (Ok f)
    declared-constant h = (number_same v.0 e (declared-is f.value refl h), below-words (rw e at v.1))

    pub declared-named : {y : Number} → 2 ≤ f.value → ReadsNumber line f.next.at y (named_word types (bytes_from line f.next.at)) × Below (2 ^ 17) y →
        ReadsNumber line at y (map_read declared_word (declared types (bytes_from line at))) × Below (2 ^ 17) y
    unfolding declared_behind declared_word
    declared-named h u = (reads-behind (number-moved v.0 e) (declared-form named_type (last-type v.0 e h) refl ∙ sized-word declared_word tnamed (λ t k. refl) types _) u.0, u.1)

-- ---- a field
module _ (line : List ℕ) (at types : ℕ) {x : Number} (v : ReadsNumber line at x (code_place 0x00 4 (bytes_from line at)) × Below byte_range x) where
  pub field-no-code : {n : Refusal} → x ≡ Err n → ReadsNumber line at x (map_read field_word (field types (bytes_from line at))) × Below (2 ^ 17) x
  unfolding field map_read
  field-no-code e = (number-none v.0 e (ap (map_read field_word) (code-stops 0x00 field_forms (field_behind types) v.0 e)), below-words v.1)

  module _ {f : Found} (e : x ≡ Ok f) where
    field-form : {i : ℕ} (form : FieldForm) → f.value ≡ i → look field_forms i ≡ some form → map_read field_word (field types (bytes_from line at)) ≡ map_read field_word (field_behind types form (bytes_from line f.next.at))
    unfolding field
    field-form form q p = ap (map_read field_word) (code-then 0x00 field_forms (field_behind types) v.0 form e q p)

    field_is : (i : ℕ) → f.value ≡ i → i < 3 → map_read field_word (field types (bytes_from line at)) ≡ got f.value (bytes_from line f.next.at)
    unfolding field_behind map_read field_word
    field_is zero q h = field-form bool_field q refl ∙ rw q
    field_is (suc zero) q h = field-form int_field q refl ∙ rw q
    field_is (suc (suc zero)) q h = field-form own_field q refl ∙ rw q
    field_is (suc (suc (suc i))) q h = absurd (omega arith)

    pub field-constant : f.value < 3 → ReadsNumber line at (Ok f) (map_read field_word (field types (bytes_from line at))) × Below (2 ^ 17) (Ok f)
    field-constant h = (number_same v.0 e (field_is f.value refl h), below-words (rw e at v.1))

    pub field-other : {y : Number} → 3 ≤ f.value → ReadsNumber line f.next.at y (named_word types (bytes_from line f.next.at)) × Below (2 ^ 17) y →
        ReadsNumber line at y (map_read field_word (field types (bytes_from line at))) × Below (2 ^ 17) y
    unfolding field_behind field_word
    field-other h u = (reads-behind (number-moved v.0 e) (field-form other_field (last-field v.0 e h) refl ∙ sized-word field_word other (λ t k. refl) types _) u.0, u.1)

-- ---- a result type
module _ (line : List ℕ) (at types vars : ℕ) {x : Number} (v : ReadsNumber line at x (code_place 0x00 3 (bytes_from line at)) × Below byte_range x) where
  pub result-no-code : {n : Refusal} {s : Step} → x ≡ Err n → s ≡ step_of x → Passes line at s (forget (result types vars (bytes_from line at)))
  unfolding result forget
  result-no-code e d = pass-none e d (ap forget (code-stops 0x00 type_forms (result_behind types vars) v.0 e))

  module _ {f : Found} (e : x ≡ Ok f) where
    result-form : {i : ℕ} (form : TypeForm) → f.value ≡ i → look type_forms i ≡ some form → forget (result types vars (bytes_from line at)) ≡ forget (result_behind types vars form (bytes_from line f.next.at))
    unfolding result
    result-form form q p = ap forget (code-then 0x00 type_forms (result_behind types vars) v.0 form e q p)

    result-is : (i : ℕ) → f.value ≡ i → i < 2 → forget (result types vars (bytes_from line at)) ≡ got tt (bytes_from line f.next.at)
    unfolding result_behind forget
    result-is zero q h = result-form bool_type q refl
    result-is (suc zero) q h = result-form int_type q refl
    result-is (suc (suc i)) q h = absurd (omega arith)

    pub result-constant : f.value < 2 → Passes line at (Ok f.next) (forget (result types vars (bytes_from line at)))
    result-constant h = pass-here (number-moved v.0 e) (result-is f.value refl h)

    module _ (h : 2 ≤ f.value) {y : Number} (u : ReadsNumber line f.next.at y (index types (bytes_from line f.next.at)) × Below byte_range y) where
      abbrev sized_result : ℕ → Parser ResultType
      sized_result t = do
        s ← size vars
        return (rnamed t s)

      result-named : {s : Step} → Passes line f.next.at s (forget (and_then (index types (bytes_from line f.next.at)) sized_result)) → Passes line at s (forget (result types vars (bytes_from line at)))
      unfolding result_behind
      result-named w = passes-behind (number-moved v.0 e) (result-form named_type (last-type v.0 e h) refl) w

      pub result-no-type : {n : Refusal} {s : Step} → y ≡ Err n → s ≡ step_of y → Passes line at s (forget (result types vars (bytes_from line at)))
      result-no-type d k = result-named (read-stops-pass sized_result u.0 d k)

      pub result-sized : {g : Found} {s : Step} → y ≡ Ok g → Passes line g.next.at s (forget (size_at nesting_most vars (bytes_from line g.next.at))) → Passes line at s (forget (result types vars (bytes_from line at)))
      result-sized {g} d w = result-named (read-then-pass sized_result u.0 d (rw (forget-then (rnamed g.value) (size vars (bytes_from line g.next.at))) w))
