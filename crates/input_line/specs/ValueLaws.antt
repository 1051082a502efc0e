-- A value and its forms, return by return.
use Rattle.language.specs.declared.refusals.Refusal.{Refusal}
use Rattle.language.specs.RefusalNumbers.{number_of}
use Rattle.std.specs.Prelude.{Ok, Err, Option as Maybe, None}
use Prim.Native.Nat.{ℕ, zero, suc, ◌-◌, ◌≤◌, ◌<◌}
use Rattle.std.specs.Prelude.{List, ◌≡◌, length, get_or}
use Rattle.std.proofs.Math.Option.{some}
use Rattle.std.proofs.Math.Path.{refl, sym, ap}
use Rattle.std.proofs.Common.{◌∙◌, arith}
use Rattle.language.specs.Limits.{byte_range}
use Rattle.language.specs.Codes.{expr_bool, expr_int, expr_construct, expr_first}
use Rattle.language.specs.Refusals.{bad_input_line}
use Rattle.language.specs.Syntax.{Ty, File}
use Rattle.language.specs.Heap.{Tree}
use Rattle.language.specs.Parser.{bad, Parser}
use Rattle.language.specs.ReadExpr.{Form, bool_form, forms}
use Rattle.language.specs.Line.{value_behind, value_at}
use Rattle.theory.specs.Places.{look_at}
use Rattle.text.specs.declared.Found.{Found}
use Rattle.text.specs.Bytes.{Number, bytes_from, bytes_left, given, stopped, ReadsNumber, Below, no_number}
use Rattle.text.specs.Codes.{code_place}
use Rattle.text.specs.CodeLaws.{code-then, code-stops, code_below}
use Rattle.text.specs.StepLaws.{number-got, number-moved, moved_on, below_more}
use Rattle.input_line.specs.Judges.{sized, as_number, LeafJudged, Judges}
use Rattle.input_line.specs.ReadParts.{code-shorter}
use Rattle.input_line.specs.SizedLaws.{bad-sized}

-- the form at a place of the table
abbrev pub form_at : ℕ → Form
form_at i = get_or forms i bool_form

-- the places of the forms that a value has
abbrev pub bool_place : ℕ
bool_place = expr_bool - expr_first

abbrev pub int_place : ℕ
int_place = expr_int - expr_first

abbrev pub construct_place : ℕ
construct_place = expr_construct - expr_first

-- ---- no value has another form than `10`, `11`, `19`
pub other-form : (P : File) (inner : Parser Tree) (bs : List ℕ) (i : ℕ) → i < length forms → ((i ≡ bool_place) → ⊥) → ((i ≡ int_place) → ⊥) → ((i ≡ construct_place) → ⊥) → value_behind P inner (form_at i) bs ≡ bad bad_input_line
unfolding value_behind
other-form P inner bs zero less a b c = absurd (a refl)
other-form P inner bs (suc zero) less a b c = absurd (b refl)
other-form P inner bs (suc (suc zero)) less a b c = refl
other-form P inner bs (suc (suc (suc zero))) less a b c = refl
other-form P inner bs (suc (suc (suc (suc zero)))) less a b c = refl
other-form P inner bs (suc (suc (suc (suc (suc zero))))) less a b c = refl
other-form P inner bs (suc (suc (suc (suc (suc (suc zero)))))) less a b c = refl
other-form P inner bs (suc (suc (suc (suc (suc (suc (suc zero))))))) less a b c = refl
other-form P inner bs (suc (suc (suc (suc (suc (suc (suc (suc zero)))))))) less a b c = refl
other-form P inner bs (suc (suc (suc (suc (suc (suc (suc (suc (suc zero))))))))) less a b c = absurd (c refl)
other-form P inner bs (suc (suc (suc (suc (suc (suc (suc (suc (suc (suc zero)))))))))) less a b c = refl
other-form P inner bs (suc (suc (suc (suc (suc (suc (suc (suc (suc (suc (suc zero))))))))))) less a b c = refl
other-form P inner bs (suc (suc (suc (suc (suc (suc (suc (suc (suc (suc (suc (suc zero)))))))))))) less a b c = refl
other-form P inner bs (suc (suc (suc (suc (suc (suc (suc (suc (suc (suc (suc (suc (suc i))))))))))))) less a b c = absurd (omega arith)

module _ (line : List ℕ) (at : ℕ) {x : Number} (v : ReadsNumber line at x (code_place expr_first (length forms) (bytes_from line at)) × Below byte_range x) {f : Found} (e : x ≡ Ok f) where
  pub form-fewer : bytes_left line at ≡ suc (bytes_left line f.next.at)
  form-fewer = code-shorter expr_first (length forms) (bytes_from line at) (number-got v.0 e)

  pub form-less : f.value < length forms
  form-less = code_below expr_first forms v.0 e

module _ (line index : List ℕ) (at word : ℕ) {x : Number} (v : ReadsNumber line at x (code_place expr_first (length forms) (bytes_from line at)) × Below byte_range x) where
  abbrev Value : Maybe Found → Type 0
  Value r = Judges line index at word r (λ n P. value_at n P)

  pub value_none : {n : Refusal} → x ≡ Err n → Value None
  unfolding value_at given sized
  value_none {n} e = record { says = λ text P i τ a is m enough. sym (cases P τ m); on = stopped; small = no_number }
    where
      cases : (P : File) (τ : Ty) (m : ℕ) → sized P τ (value_at m P (bytes_from line at)) ≡ bad bad_input_line
      cases P τ zero = refl
      cases P τ (suc m) = bad-sized P τ {n = number_of n} (code-stops expr_first forms (value_behind P (value_at m P)) v.0 e)

  module _ {f : Found} (e : x ≡ Ok f) where
    module _ (F : Form) (form : form_at f.value ≡ F) where
      -- what stands behind the code decides
      behind-form : (r : Maybe Found) (P : File) (τ : Ty) → ((m : ℕ) → bytes_left line f.next.at ≤ m → given line (as_number r) ≡ sized P τ (value_behind P (value_at m P) F (bytes_from line f.next.at))) →
          (n : ℕ) → bytes_left line at ≤ n → given line (as_number r) ≡ sized P τ (value_at n P (bytes_from line at))
      unfolding value_at
      behind-form r P τ says zero enough = absurd (omega (arith, form-fewer line at v e))
      behind-form r P τ says (suc m) enough = says m (omega (arith, form-fewer line at v e))
          ∙ ap (sized P τ) (sym (code-then expr_first forms (value_behind P (value_at m P)) v.0 F e refl (look_at forms f.value bool_form (form-less line at v e) ∙ ap some form)))

      pub value-leaf : {r : Maybe Found} → LeafJudged line f.next.at word F r → Value r
      value-leaf {r} u = record {
        says = λ text P i τ a is. behind-form r P τ (λ m enough. u.says P (value_at m P) τ is);
        on = moved_on (number-moved v.0 e) u.on;
        small = below_more (omega arith) u.none;
      }

      pub value-construct : {r : Maybe Found} → Judges line index f.next.at word r (λ n P. value_behind P (value_at n P) F) → Value r
      value-construct {r} u = record {
        says = λ text P i τ a is. behind-form r P τ (u.says text P i τ a is);
        on = moved_on (number-moved v.0 e) u.on;
        small = u.small;
      }

    pub value-other : ((f.value ≡ bool_place) → ⊥) → ((f.value ≡ int_place) → ⊥) → ((f.value ≡ construct_place) → ⊥) → Value None
    unfolding given
    value-other not_bool not_int not-con = record {
      says = λ text P i τ a is. behind-form (form_at f.value) refl None P τ (λ m enough. sym (bad-sized P τ (other-form P (value_at m P) (bytes_from line f.next.at) f.value (form-less line at v e) not_bool not_int not-con)));
      on = stopped;
      small = no_number;
    }
