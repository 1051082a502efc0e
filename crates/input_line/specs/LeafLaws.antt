-- A Bool and an Int behind their codes, return by return; and the other forms, which no value has.
use Rattle.language.specs.declared.refusals.Refusal.{Refusal}
use Rattle.std.specs.Prelude.{Ok, Err, Some, None}
use Rattle.std.specs.Prelude.{ℕ, ◌<◌, List, Bool, ◌≡◌, length, get_or}
use Rattle.std.proofs.Math.Bool.{false}
use Rattle.std.proofs.Math.Path.{refl, sym}
use Rattle.std.proofs.Common.{ap, ◌∙◌, arith}
use borrow.Author.Tests.{lt-ltb}
use Rattle.language.specs.Limits.{byte_range, int_range}
use Rattle.language.specs.Codes.{bool_first, field_bool, field_int}
use Rattle.language.specs.Refusals.{bad_input_line}
use Rattle.language.specs.Result.{choose}
use Rattle.language.specs.Syntax.{Ty, tbool, tint, tnamed, File}
use Rattle.language.specs.Heap.{kbool, kint, vleaf}
use Rattle.language.specs.Values.{tree_size, fits, constant_fits}
use Rattle.language.specs.Format.{int_bytes}
use Rattle.language.specs.Parser.{Read, got, bad, and_then, code}
use Rattle.language.specs.ReadExpr.{bool_form, int_form, bools, int}
use Rattle.language.specs.Line.{value_behind}
use Rattle.theory.specs.Outcomes.{Reads, reads_got, reads_bad}
use Rattle.theory.specs.Exact.{Starts}
use Rattle.theory.specs.ExactLeaves.{int-exact}
use Rattle.theory.specs.Places.{look_at}
use Rattle.text.specs.declared.Found.{Found}
use Rattle.text.specs.declared.Cursor.{Cursor}
use Rattle.text.specs.Bytes.{Number, Step, bytes_from, given, forget, stopped, ReadsNumber, Passes, Below, below, no_number, declared_word}
use Rattle.text.specs.Places.{from-small}
use Rattle.text.specs.Codes.{code_place}
use Rattle.text.specs.CodeLaws.{code-then, code-stops, code_below}
use Rattle.text.specs.StepLaws.{number-moved, pass-got, pass-bad, pass-moved}
use Rattle.input_line.specs.Judges.{sized, LeafJudged}
use Rattle.input_line.specs.SizedLaws.{never-sized, bad-sized}

-- ---- the type that a word stands for
pub word-bool : (τ : Ty) → declared_word τ ≡ field_bool → τ ≡ tbool
unfolding declared_word
word-bool tbool e = refl
word-bool tint e = absurd (omega arith)
word-bool (tnamed t k) e = absurd (omega arith)

pub word-int : (τ : Ty) → declared_word τ ≡ field_int → τ ≡ tint
unfolding declared_word
word-int tbool e = absurd (omega arith)
word-int tint e = refl
word-int (tnamed t k) e = absurd (omega arith)

-- a constant is of no other type
bool-sized : (P : File) (τ : Ty) → ((declared_word τ ≡ field_bool) → ⊥) → (b : Bool) (bs : List ℕ) → sized P τ (got (vleaf (kbool b)) bs) ≡ bad bad_input_line
unfolding sized fits constant_fits choose declared_word
bool-sized P tbool ne b bs = absurd (ne refl)
bool-sized P tint ne b bs = refl
bool-sized P (tnamed t k) ne b bs = refl

int-sized : (P : File) (τ : Ty) → ((declared_word τ ≡ field_int) → ⊥) → (n : ℕ) (bs : List ℕ) → sized P τ (got (vleaf (kint n)) bs) ≡ bad bad_input_line
unfolding sized fits constant_fits choose declared_word
int-sized P tbool ne n bs = refl
int-sized P tint ne n bs = absurd (ne refl)
int-sized P (tnamed t k) ne n bs = refl

-- ---- an Int that was read has 32 bits
int-least : {bs : List ℕ} {y : Read ℕ} {n : ℕ} {rest : List ℕ} → Reads (Starts int_bytes (λ i. i < int_range) bs) y → y ≡ got n rest → n < int_range
int-least {n} (reads_got {a = m} s) e = let same : m ≡ n = cc in rw same at s.within
int-least reads_bad e = absurd (let z : ◌≡◌ {A = ℕ} 0 1 = cc in omega arith)

pub int_small : (line : List ℕ) (at : ℕ) {n : ℕ} {rest : List ℕ} → int (bytes_from line at) ≡ got n rest → n < int_range
int_small line at e = int-least (int-exact.forth.reads (bytes_from line at) (from-small line at)) e

module _ (line : List ℕ) (at word : ℕ) where
  -- ---- a Bool
  pub bool-unwanted : ((word ≡ field_bool) → ⊥) → LeafJudged line at word bool_form None
  unfolding value_behind given
  bool-unwanted ne = record {
    says = λ P inner τ is. sym (never-sized P τ (code bool_first bools (bytes_from line at)) (λ b bs. got (vleaf (kbool b)) bs) (bool-sized P τ (λ e. ne (is ∙ e))));
    on = stopped;
    none = no_number;
  }

  module _ {x : Number} (v : ReadsNumber line at x (code_place bool_first (length bools) (bytes_from line at)) × Below byte_range x) where
    pub bool-none : {n : Refusal} → x ≡ Err n → LeafJudged line at word bool_form None
    unfolding value_behind given
    bool-none e = record {
      says = λ P inner τ is. sym (bad-sized P τ (code-stops bool_first bools (λ b bs. got (vleaf (kbool b)) bs) v.0 e));
      on = stopped;
      none = no_number;
    }

    pub bool-read : {f : Found} → word ≡ field_bool → x ≡ Ok f → LeafJudged line at word bool_form (Some (record { value = 0; next = f.next }))
    unfolding value_behind given sized fits constant_fits tree_size choose
    bool-read {f} is-bool e = record {
      says = λ P inner τ is.
          let some_bool = look_at bools f.value false (code_below bool_first bools v.0 e) in
          let read = code-then bool_first bools (λ b bs. got (vleaf (kbool b)) bs) v.0 (get_or bools f.value false) e refl some_bool in
          rw (word-bool τ (sym is ∙ is-bool), read);
      on = number-moved v.0 e;
      none = below {f = record { value = 0; next = f.next }} (omega arith);
    }

  -- ---- an Int
  pub int-unwanted : ((word ≡ field_int) → ⊥) → LeafJudged line at word int_form None
  unfolding value_behind given
  int-unwanted ne = record {
    says = λ P inner τ is. sym (never-sized P τ (int (bytes_from line at)) (λ n bs. got (vleaf (kint n)) bs) (int-sized P τ (λ e. ne (is ∙ e))));
    on = stopped;
    none = no_number;
  }

  module _ {x : Step} (v : Passes line at x (forget (int (bytes_from line at)))) where
    pub int-none : {n : Refusal} → x ≡ Err n → LeafJudged line at word int_form None
    unfolding value_behind given and_then
    int-none e = record {
      says = λ P inner τ is. sym (bad-sized P τ (ap (λ y. and_then y (λ n bs. got (vleaf (kint n)) bs)) (pass-bad {y = int (bytes_from line at)} v e)));
      on = stopped;
      none = no_number;
    }

    pub int-read : {c : Cursor} → word ≡ field_int → x ≡ Ok c → LeafJudged line at word int_form (Some (record { value = 0; next = c }))
    unfolding value_behind given and_then sized fits constant_fits tree_size choose
    int-read {c} is-int e = record {
      says = λ P inner τ is.
          let g = pass-got {y = int (bytes_from line at)} v e in
          rw (word-int τ (sym is ∙ is-int), g.is, lt-ltb g.value int_range (int_small line at g.is));
      on = pass-moved v e;
      none = below {f = record { value = 0; next = c }} (omega arith);
    }
