-- What the words of a cell tell of it: one law for each way in which a cell is read.
use Rattle.std.specs.Prelude.{ℕ, ◌+◌, ◌-◌, ◌*◌, ◌/◌, ◌%◌, ◌≤◌, ◌<◌, List, [], true, false, not, ◌≡◌, refl, length, get_or, eqb}
use Rattle.std.proofs.Math.Option.{some}
use Rattle.std.proofs.Common.{sym, ap, ◌∙◌, arith, le-leb}
use Rattle.std.proofs.Math.ListN.{get_elem? as look, get_or-eq_default}
use Rattle.std.proofs.Math.Seq.{take-length}
use Rattle.std.proofs.lemmas.Bool.{lt-leb}
use Rattle.language.specs.Limits.{byte_range, fields_most}
use Rattle.language.specs.Result.{choose}
use Rattle.language.specs.Syntax.{Constructor, File, constructors_of}
use Rattle.language.specs.Within.{All}
use Rattle.language.specs.Heap.{kbool, kint, Cell, leaf, con, cell_at, truth, number, constant_in, constructor_in, size_in, fields_in}
use Rattle.language.specs.Layout.{bool_tag, int_tag, tag_step, cell_tag, cell_value}
use Rattle.theory.specs.Alls.{all_get_d}
use Rattle.theory.specs.Lists.{look-less, look-get_d, look-inner-less}
use Rattle.theory.specs.CellWords.{Writable, bool_writable, int_writable, con_writable}
use Rattle.index.specs.Sections.{types_of}
use Rattle.index.specs.Tables.{constructor_words, type_words}
use Rattle.index.specs.Indexed.{Indexed}
use Rattle.state_words.specs.Words.{tag_at, value_at, field_at, row_of, field_count}
use Rattle.state_words.specs.RowLaws.{row-are}
use Rattle.state_words.specs.Holds.{Holds, Reads, ReadsConstructor, ReadsCount, ReadsField}
use Rattle.state_words.specs.HoldLaws.{tag-held, value-held, field-held}

-- ---- a cell by its tag and its value
other-not-true : (c : Cell) → (cell_tag c ≡ bool_tag → ⊥) → false ≡ truth (constant_in c)
unfolding cell_tag truth constant_in
other-not-true (leaf (kbool b)) ne = absurd (ne refl)
other-not-true (leaf (kint n)) ne = refl
other-not-true (con t c k ls) ne = refl

bool-true : (c : Cell) → cell_tag c ≡ bool_tag → not (eqb (cell_value c) 0) ≡ truth (constant_in c)
unfolding cell_tag cell_value truth constant_in
bool-true (leaf (kbool true)) e = refl
bool-true (leaf (kbool false)) e = refl
bool-true (leaf (kint n)) e = absurd (omega arith)
bool-true (con t c k ls) e = absurd (omega arith)

other-no-number : (c : Cell) → (cell_tag c ≡ int_tag → ⊥) → 0 ≡ number (constant_in c)
unfolding cell_tag number constant_in
other-no-number (leaf (kbool b)) ne = refl
other-no-number (leaf (kint n)) ne = absurd (ne refl)
other-no-number (con t c k ls) ne = refl

int_number : (c : Cell) → cell_tag c ≡ int_tag → cell_value c ≡ number (constant_in c)
unfolding cell_tag cell_value number constant_in
int_number (leaf (kbool b)) e = absurd (omega arith)
int_number (leaf (kint n)) e = refl
int_number (con t c k ls) e = absurd (omega arith)

leaf-no-size : (c : Cell) → cell_tag c < tag_step → 0 ≡ size_in c
unfolding cell_tag size_in
leaf-no-size (leaf x) less = refl
leaf-no-size (con t c k ls) less = absurd (omega arith)

constructor-size : (c : Cell) → tag_step ≤ cell_tag c → cell_value c ≡ size_in c
unfolding cell_tag cell_value size_in
constructor-size (leaf (kbool b)) le = absurd (omega arith)
constructor-size (leaf (kint n)) le = absurd (omega arith)
constructor-size (con t c k ls) le = refl

leaf-no-constructor : (c : Cell) → cell_tag c < tag_step → 0 ≡ constructor_in c
unfolding cell_tag constructor_in
leaf-no-constructor (leaf x) less = refl
leaf-no-constructor (con t c k ls) less = absurd (omega arith)

constructor-number : {P : File} {c : Cell} → Writable P c → tag_step ≤ cell_tag c → cell_tag c % tag_step ≡ constructor_in c
unfolding cell_tag constructor_in
constructor-number bool_writable le = absurd (omega arith)
constructor-number (int_writable less) le = absurd (omega arith)
constructor-number (con_writable {t} {c} known same few small) le = omega arith

-- ---- how many fields
pub no_fields : (types : List ℕ) (tag : ℕ) → tag < tag_step → 0 ≡ field_count types tag
unfolding field_count choose
no_fields types tag less = rw (lt-leb tag_step tag less)

pub fields-counted : (types : List ℕ) (tag : ℕ) → tag_step ≤ tag → get_or types (type_words * (tag / tag_step - 1) + 1 + constructor_words * (tag % tag_step)) 0 % byte_range ≡ field_count types tag
unfolding field_count choose
fields-counted types tag le = rw (le-leb tag_step tag le)

pub fields_told : {t c r : ℕ} (types : List ℕ) (tag : ℕ) → tag_step ≤ tag → t ≡ tag / tag_step - 1 → c ≡ tag % tag_step → (r ≡ get_or types (type_words * t + 1 + constructor_words * c) 0 % byte_range) × (r < byte_range) → (r ≡ field_count types tag) × (r < byte_range)
fields_told types tag le p q e = (e.0 ∙ rw (p, q) (fields-counted types tag le), e.1)

-- of a constructor of the file
pub constructor-counted : {text index : List ℕ} {P : File} → Indexed text index P → (t c : ℕ) {fs : Constructor} → look (constructors_of P t) c ≡ some fs → c < tag_step → field_count (types_of index) (tag_step * (t + 1) + c) ≡ length fs
constructor-counted {text} {index} {P} x t c {fs} known small =
    let tells = (x.each_type t (look-inner-less P.types t c known)).tells in
    let there = look-less (constructors_of P t) c known in
    let type : (tag_step * (t + 1) + c) / tag_step - 1 ≡ t = omega arith in
    let constructor : (tag_step * (t + 1) + c) % tag_step ≡ c = omega arith in
    let is : length (get_or (constructors_of P t) c []) ≡ length fs = ap length (look-get_d (constructors_of P t) c [] known) in
    sym (fields-counted (types_of index) (tag_step * (t + 1) + c) (omega arith)) ∙ rw (type, constructor) (omega (arith, tells.fields c there, tells.few_fields c there, is))

pub count-told : {text index : List ℕ} {P : File} → Indexed text index P → {c : Cell} → Writable P c → field_count (types_of index) (cell_tag c) ≡ length (fields_in c)
unfolding cell_tag fields_in
count-told {index} x bool_writable = sym (no_fields (types_of index) bool_tag (omega arith))
count-told {index} x (int_writable less) = sym (no_fields (types_of index) int_tag (omega arith))
count-told x (con_writable {t} {c} known same few small) = constructor-counted x t c known small ∙ sym same

pub few-fields : {P : File} {c : Cell} → Writable P c → length (fields_in c) ≤ fields_most
unfolding fields_in
few-fields bool_writable = omega arith
few-fields (int_writable less) = omega arith
few-fields (con_writable known same few small) = omega arith

-- the fields of a cell of the heap, as many as the index tells
module _ {text index words : List ℕ} {P : File} {used : ℕ} {h : List Cell} (x : Indexed text index P) (v : Holds words used h) (all : All (Writable P) h) (l : ℕ) (less : l < used) where
  writable-at : Writable P (cell_at h l)
  writable-at = all_get_d all l (leaf (kbool false)) (omega (arith, v.count))

  pub count_held : field_count (types_of index) (tag_at words l) ≡ length (fields_in (cell_at h l))
  count_held = ap (field_count (types_of index)) (tag-held v l less) ∙ count-told x writable-at

  pub fields-held : row_of (field_at words l) (field_count (types_of index) (tag_at words l)) ≡ fields_in (cell_at h l)
  fields-held = ap (row_of (field_at words l)) count_held
      ∙ row-are (field_at words l) (length (fields_in (cell_at h l))) (fields_in (cell_at h l)) (omega arith) (λ j few. field-held v l less j (omega (arith, few-fields writable-at))) ∙ take-length (fields_in (cell_at h l))

-- ---- as the functions come by them; beyond the heap first
beyond-heap : {words : List ℕ} {used : ℕ} {h : List Cell} → Holds words used h → (l : ℕ) → used ≤ l → cell_at h l ≡ leaf (kbool false)
beyond-heap {h} v l le = get_or-eq_default h (leaf (kbool false)) {n = l} (omega (arith, v.count))

pub truth-beyond : {words : List ℕ} {used l : ℕ} → used ≤ l → Reads words used (λ h. truth (constant_in (cell_at h l))) false
unfolding truth constant_in
truth-beyond {l} le = record { says = λ h v. ap (λ c. truth (constant_in c)) (sym (beyond-heap v l le)) }

pub number-beyond : {words : List ℕ} {used l : ℕ} → used ≤ l → Reads words used (λ h. number (constant_in (cell_at h l))) 0
unfolding number constant_in
number-beyond {l} le = record { says = λ h v. ap (λ c. number (constant_in c)) (sym (beyond-heap v l le)) }

pub size-beyond : {words : List ℕ} {used l : ℕ} → used ≤ l → Reads words used (λ h. size_in (cell_at h l)) 0
unfolding size_in
size-beyond {l} le = record { says = λ h v. ap size_in (sym (beyond-heap v l le)) }

module _ {words : List ℕ} {used l tag : ℕ} (less : l < used) (told : tag ≡ tag_at words l) where
  tag_is : {h : List Cell} → Holds words used h → tag ≡ cell_tag (cell_at h l)
  tag_is v = told ∙ tag-held v l less

  pub reads-not-true : (tag ≡ bool_tag → ⊥) → Reads words used (λ h. truth (constant_in (cell_at h l))) false
  reads-not-true ne = record { says = λ h v. other-not-true (cell_at h l) (λ e. ne (tag_is v ∙ e)) }

  pub reads-no-number : (tag ≡ int_tag → ⊥) → Reads words used (λ h. number (constant_in (cell_at h l))) 0
  reads-no-number ne = record { says = λ h v. other-no-number (cell_at h l) (λ e. ne (tag_is v ∙ e)) }

  pub reads-no-size : tag < tag_step → Reads words used (λ h. size_in (cell_at h l)) 0
  reads-no-size low = record { says = λ h v. leaf-no-size (cell_at h l) (omega (arith, tag_is v)) }

  pub reads-no-constructor : tag < tag_step → ReadsConstructor words used l 0
  reads-no-constructor low = record { says = λ P h v all. leaf-no-constructor (cell_at h l) (omega (arith, tag_is v)) }

  pub reads-constructor : {r : ℕ} → tag_step ≤ tag → r ≡ tag % tag_step → ReadsConstructor words used l r
  reads-constructor {r} low e = record {
    says = λ P h v all.
        let same = tag_is v in
        e ∙ ap (λ n. n % tag_step) same ∙ constructor-number (all_get_d all l (leaf (kbool false)) (omega (arith, v.count))) (omega (arith, same));
  }

  pub reads-count : {index : List ℕ} {r : ℕ} → r ≡ field_count (types_of index) tag → ReadsCount index words used l r
  reads-count {index} e = record {
    says = λ text P x h v all.
        e ∙ ap (field_count (types_of index)) (tag_is v) ∙ count-told x (all_get_d all l (leaf (kbool false)) (omega (arith, v.count)));
  }

  module _ {value : ℕ} (val : value ≡ value_at words l) where
    value-is : {h : List Cell} → Holds words used h → value ≡ cell_value (cell_at h l)
    value-is v = val ∙ value-held v l less

    pub reads-truth : tag ≡ bool_tag → Reads words used (λ h. truth (constant_in (cell_at h l))) (not (eqb value 0))
    reads-truth e = record { says = λ h v. ap (λ n. not (eqb n 0)) (value-is v) ∙ bool-true (cell_at h l) (sym (tag_is v) ∙ e) }

    pub reads-number : tag ≡ int_tag → Reads words used (λ h. number (constant_in (cell_at h l))) value
    reads-number e = record { says = λ h v. value-is v ∙ int_number (cell_at h l) (sym (tag_is v) ∙ e) }

    pub reads-size : tag_step ≤ tag → Reads words used (λ h. size_in (cell_at h l)) value
    reads-size le = record { says = λ h v. value-is v ∙ constructor-size (cell_at h l) (omega (arith, tag_is v)) }

pub constructor-beyond : {words : List ℕ} {used l : ℕ} → used ≤ l → ReadsConstructor words used l 0
unfolding constructor_in
constructor-beyond {l} le = record { says = λ P h v all. ap constructor_in (sym (beyond-heap v l le)) }

pub count-beyond : {index words : List ℕ} {used l : ℕ} → used ≤ l → ReadsCount index words used l 0
unfolding fields_in
count-beyond {l} le = record { says = λ text P x h v all. ap (λ c. length (fields_in c)) (sym (beyond-heap v l le)) }

pub field-beyond : {words : List ℕ} {used l j : ℕ} → used ≤ l → ReadsField words used l j 0
unfolding fields_in
field-beyond {l} {j} le = record { says = λ h v few. ap (λ c. get_or (fields_in c) j 0) (sym (beyond-heap v l le)) }

pub reads-field : {words : List ℕ} {used l j r : ℕ} → l < used → r ≡ field_at words l j → ReadsField words used l j r
reads-field {l} {j} less e = record { says = λ h v few. e ∙ field-held v l less j few }
