-- Values against the fields of a constructor, one by one.
use Rattle.std.specs.Prelude.{ℕ, suc, ◌+◌, ◌*◌, ◌%◌, ◌≤◌, ◌<◌, Bool, false, ◌≡◌, refl, get_or, drop}
use mathlib.Core.List.{List, ◌∷◌}
use Rattle.std.proofs.Math.Bool.{true}
use Rattle.std.proofs.Math.Path.{sym, ap₂}
use Rattle.std.proofs.Common.{ap, ◌∙◌, add-one, arith, drop_of_length-le, drop-cons}
use Rattle.std.proofs.Math.ListN.{length}
use Rattle.language.specs.Limits.{byte_range}
use Rattle.language.specs.Result.{both}
use Rattle.language.specs.Syntax.{Field, fbool, fint, own, other, Ty, tbool}
use Rattle.language.specs.Sizes.{field_types, own_sizes, size_of_type, same_type, same_types}
use Rattle.index.specs.Tables.{constructor_words, type_words}
use Rattle.index.specs.Indexed.{field_at}
use Rattle.type_rows.specs.Rows.{field_agrees, ToldFields, ToldRow, FieldsAgree}
use Rattle.type_rows.specs.RowWordLaws.{bound_type, agrees-by-type}
use Rattle.type_rows.specs.ToldLaws.{fields-counted, field_told, field-within, word-told, word_small}

unfoldable pub agreeing : ℕ → List Field → List Ty → Bool
agreeing t fs τs = same_types (field_types t fs (own_sizes fs τs)) τs

agreeing-first : (t : ℕ) (f : Field) (fs : List Field) (τ : Ty) (τs : List Ty) → agreeing t (f ∷ fs) (τ ∷ τs) ≡ both (same_type (bound_type t f (size_of_type τ)) τ) (agreeing t fs τs)
unfolding agreeing bound_type field_types own_sizes same_types
agreeing-first t fbool fs τ τs = refl
agreeing-first t fint fs τ τs = refl
agreeing-first t own fs τ τs = refl
agreeing-first t (other u k) fs τ τs = refl

-- those before i agree, so those from i on decide
pub record AgreeFrom (types row : List ℕ) (t c i : ℕ) : Type 0 where
  pub says : (fs : List Field) (τs : List Ty) → ToldFields types t c fs → ToldRow row (length fs) τs → agreeing t fs τs ≡ agreeing t (drop i fs) (drop i τs)

module _ {types row : List ℕ} {t c n i : ℕ} (a : (n ≡ get_or types (type_words * t + 1 + constructor_words * c) 0 % byte_range) × (n < byte_range)) (v : AgreeFrom types row t c i) where
  module _ {field word : ℕ} {b : Bool} (h : i < n) (is : field ≡ field_at types t c i) (read : word ≡ get_or row i 0) (test : b ≡ field_agrees field word t) where
    next-decides : (fs : List Field) (τs : List Ty) → ToldFields types t c fs → ToldRow row (length fs) τs → agreeing t fs τs ≡ both b (agreeing t (drop (suc i) fs) (drop (suc i) τs))
    next-decides fs τs q p =
        let less : i < length fs = omega (arith, fields-counted q a) in
        let same : b ≡ same_type (bound_type t (get_or fs i fbool) (size_of_type (get_or τs i tbool))) (get_or τs i tbool) =
        test ∙ ap₂ (λ (f w : ℕ). field_agrees f w t) (is ∙ field_told q less) (read ∙ word-told p less) ∙ agrees-by-type q.small (field-within q less) (word_small p less) in
        v.says fs τs q p ∙ ap₂ (agreeing t) (drop-cons fs i fbool less) (drop-cons τs i tbool (omega (arith, less, p.long)))
        ∙ agreeing-first t (get_or fs i fbool) (drop (suc i) fs) (get_or τs i tbool) (drop (suc i) τs) ∙ ap (λ r. both r (agreeing t (drop (suc i) fs) (drop (suc i) τs))) (sym same)

    pub agree-not : b ≡ false → FieldsAgree types row t c false
    unfolding both agreeing
    agree-not e = record { says = λ fs τs q p. sym (next-decides fs τs q p ∙ rw e) }

    pub agree_on : b ≡ true → AgreeFrom types row t c (i + 1)
    unfolding both
    agree_on e = record { says = λ fs τs q p. next-decides fs τs q p ∙ rw (e, add-one) }

  pub agree-end : n ≤ i → FieldsAgree types row t c true
  unfolding agreeing field_types own_sizes same_types
  agree-end h = record { says = says }
    where
      says : (fs : List Field) (τs : List Ty) → ToldFields types t c fs → ToldRow row (length fs) τs → true ≡ agreeing t fs τs
      says fs τs q p =
          let all : length fs ≤ i = omega (arith, fields-counted q a) in
          sym (v.says fs τs q p ∙ ap₂ (agreeing t) (drop_of_length-le fs {i = i} all) (drop_of_length-le τs {i = i} (omega (arith, all, p.long))))
