-- The types of a constructor's fields, written into a scope one by one.
use Rattle.std.specs.Prelude.{ℕ, zero, suc, ◌+◌, ◌*◌, ◌%◌, ◌≤◌, ◌<◌, List, [], ◌∷◌, ◌++◌, map, ◌≡◌, refl, length, take, drop, set}
use Rattle.std.proofs.Math.Path.{sym, ap}
use Rattle.std.proofs.Common.{ap₂, ◌∙◌, add-one, arith, length-set, take_all, get_or-take, get_or-drop, ne_eqb}
use Rattle.std.proofs.Math.ListN.{get_or, get_or-map}
use Rattle.std.proofs.lemmas.List.{length-map, take-set-le}
use Rattle.std.proofs.Math.Seq.{paste, paste-zero, paste-suc}
use Rattle.std.proofs.lemmas.List.Edits.{take-paste, drop-paste}
use Rattle.language.specs.Limits.{byte_range}
use Rattle.language.specs.Format.{bit}
use Rattle.language.specs.Syntax.{Field, fbool, fint, own, other, owns, tbool}
use Rattle.language.specs.Layout.{tag_step}
use Rattle.language.specs.Sizes.{field_types}
use Rattle.text.specs.Bytes.{declared_word, field_word}
use Rattle.index.specs.Tables.{constructor_words, type_words}
use Rattle.index.specs.Enters.{is_own}
use Rattle.index.specs.Indexed.{field_at}
use Rattle.type_rows.specs.Rows.{bound_word, ToldFields, FieldsBound}
use Rattle.type_rows.specs.RowWordLaws.{bound_type, bound-by-type}
use Rattle.type_rows.specs.ToldLaws.{fields-counted, field_told, field-within}

-- ---- the type of field i
types_long : (t : ℕ) (fs : List Field) (ks : List ℕ) → length (field_types t fs ks) ≡ length fs
unfolding field_types
types_long t [] ks = refl
types_long t (fbool ∷ fs) ks = ap suc (types_long t fs ks)
types_long t (fint ∷ fs) ks = ap suc (types_long t fs ks)
types_long t (own ∷ fs) [] = ap suc (types_long t fs [])
types_long t (own ∷ fs) (k ∷ ks) = ap suc (types_long t fs ks)
types_long t (other u j ∷ fs) ks = ap suc (types_long t fs ks)

type-of-field : (t : ℕ) (fs : List Field) (ks : List ℕ) (i : ℕ) → get_or (field_types t fs ks) i tbool ≡ bound_type t (get_or fs i fbool) (get_or ks (owns (take i fs)) 0)
unfolding field_types bound_type owns
type-of-field t [] ks i = refl
type-of-field t (fbool ∷ fs) ks zero = refl
type-of-field t (fint ∷ fs) ks zero = refl
type-of-field t (own ∷ fs) [] zero = refl
type-of-field t (own ∷ fs) (k ∷ ks) zero = refl
type-of-field t (other u j ∷ fs) ks zero = refl
type-of-field t (fbool ∷ fs) ks (suc i) = type-of-field t fs ks i
type-of-field t (fint ∷ fs) ks (suc i) = type-of-field t fs ks i
type-of-field t (own ∷ fs) [] (suc i) = type-of-field t fs [] i
type-of-field t (own ∷ fs) (k ∷ ks) (suc i) = type-of-field t fs ks i
type-of-field t (other u j ∷ fs) ks (suc i) = type-of-field t fs ks i

-- ---- the fields of the type itself before it
owns-more : (f : Field) (fs : List Field) → owns (f ∷ fs) ≡ bit (is_own (field_word f)) + owns fs
unfolding owns field_word
owns-more fbool fs = omega arith
owns-more fint fs = omega arith
owns-more own fs = omega arith
owns-more (other u k) fs = rw (ne_eqb (tag_step * (u + 1) + k) 2 (λ e. omega arith)) (omega arith)

owns-next : (fs : List Field) (i : ℕ) → i < length fs → owns (take (suc i) fs) ≡ owns (take i fs) + bit (is_own (field_word (get_or fs i fbool)))
unfolding owns
owns-next [] i less = absurd (omega arith)
owns-next (f ∷ fs) zero less = omega (arith, owns-more f [])
owns-next (f ∷ fs) (suc i) less = omega (arith, owns-more f (take (suc i) fs), owns-more f (take i fs), owns-next fs i (omega arith))

owns-before : (fs : List Field) (i : ℕ) → i < length fs → field_word (get_or fs i fbool) ≡ 2 → owns (take i fs) < owns fs
unfolding owns
owns-before [] i less e = absurd (omega arith)
owns-before (f ∷ fs) zero less e = omega (arith, owns-more f fs, ap (λ w. bit (is_own w)) e)
owns-before (f ∷ fs) (suc i) less e = omega (arith, owns-more f fs, owns-more f (take i fs), owns-before fs i (omega arith) e)

-- ---- the loop: the types of the first i fields are written, next of them of the type itself
abbrev words : ℕ → List Field → List ℕ → List ℕ
words t fs ks = map declared_word (field_types t fs ks)

pub record Binding (types scope₀ sizes : List ℕ) (t c to from n next i : ℕ) (scope : List ℕ) : Type 0 where
  pub few : i ≤ n
  pub low : next ≤ i
  pub long : length scope ≡ length scope₀
  pub before : take to scope ≡ take to scope₀
  pub says : (fs : List Field) (ks : List ℕ) → ToldFields types t c fs → take (owns fs) (drop from sizes) ≡ ks → to + length fs ≤ length scope₀ → (next ≡ owns (take i fs)) × (scope ≡ paste scope₀ to (words t fs ks) i)

pub binding-start : (types scope sizes : List ℕ) (t c to from n : ℕ) → Binding types scope sizes t c to from n 0 0 scope
unfolding owns
binding-start types scope sizes t c to from n = record { few = omega arith; low = omega arith; long = refl; before = refl; says = λ fs ks q e fits. (refl, paste-zero scope to (words t fs ks)) }

words_long : (t : ℕ) (fs : List Field) (ks : List ℕ) → length (words t fs ks) ≡ length fs
words_long t fs ks = length-map (field_types t fs ks) declared_word ∙ types_long t fs ks

module _ {types scope₀ sizes : List ℕ} {t c to from n next i : ℕ} {scope : List ℕ} (a : (n ≡ get_or types (type_words * t + 1 + constructor_words * c) 0 % byte_range) × (n < byte_range)) (v : Binding types scope₀ sizes t c to from n next i scope) where
  module _ {field size word one : ℕ} (h : i < n) (is : field ≡ field_at types t c i) (read : size ≡ get_or sizes (from + next) 0) (bound : word ≡ bound_word field t size) (counts : (one ≡ bit (is_own field)) × (one ≤ 1)) where
    word-right : (fs : List Field) (ks : List ℕ) → ToldFields types t c fs → take (owns fs) (drop from sizes) ≡ ks → next ≡ owns (take i fs) → i < length fs → word ≡ get_or (words t fs ks) i 0
    unfolding declared_word
    word-right fs ks q e count less =
        bound ∙ ap (λ f. bound_word f t size) (is ∙ field_told q less) ∙ bound-by-type q.small (field-within q less) same
        ∙ sym (ap declared_word (type-of-field t fs ks i)) ∙ sym (get_or-map declared_word (field_types t fs ks) i tbool)
      where
        same : field_word (get_or fs i fbool) ≡ 2 → size ≡ get_or ks (owns (take i fs)) 0
        same z =
            read ∙ ap (λ j. get_or sizes (from + j) 0) count ∙ sym (get_or-drop from sizes (owns (take i fs)) 0)
            ∙ sym (get_or-take (owns fs) (drop from sizes) (owns (take i fs)) 0 (owns-before fs i less z)) ∙ ap (λ l. get_or l (owns (take i fs)) 0) e

    pub binding-on : Binding types scope₀ sizes t c to from n (next + one) (i + 1) (set scope (to + i) word)
    binding-on = record {
      few = omega arith;
      low = omega (arith, v.low, counts.1);
      long = length-set scope (to + i) word ∙ v.long;
      before = take-set-le to scope (to + i) word (omega arith) ∙ v.before;
      says = says;
    }
      where
        says : (fs : List Field) (ks : List ℕ) → ToldFields types t c fs → take (owns fs) (drop from sizes) ≡ ks → to + length fs ≤ length scope₀ → (next + one ≡ owns (take (i + 1) fs)) × (set scope (to + i) word ≡ paste scope₀ to (words t fs ks) (i + 1))
        says fs ks q e fits =
            let less : i < length fs = omega (arith, fields-counted q a) in
            let so_far = v.says fs ks q e fits in
            let own : one ≡ bit (is_own (field_word (get_or fs i fbool))) = counts.0 ∙ ap (λ f. bit (is_own f)) (is ∙ field_told q less) in
            rw add-one (
              omega (arith, so_far.0, own, owns-next fs i less),
              ap₂ (λ (l : List ℕ) (w : ℕ). set l (to + i) w) so_far.1 (word-right fs ks q e so_far.0 less) ∙ paste-suc scope₀ to (words t fs ks) i 0 (omega (arith, less, fits)) (omega (arith, less, words_long t fs ks)),
            )

  pub binding-end : n ≤ i → FieldsBound types scope₀ sizes t c to from scope
  binding-end h = record { says = says; before = v.before; long = v.long }
    where
      says : (fs : List Field) (ks : List ℕ) → ToldFields types t c fs → take (owns fs) (drop from sizes) ≡ ks → length ks ≡ owns fs → to + length fs ≤ length scope₀ →
          (take (to + length fs) scope ≡ take to scope₀ ++ words t fs ks) × (drop (to + length fs) scope ≡ drop (to + length fs) scope₀)
      says fs ks q e long fits =
          let all : i ≡ length fs = omega (arith, fields-counted q a, v.few) in
          let are : scope ≡ paste scope₀ to (words t fs ks) (length fs) = (v.says fs ks q e fits).1 ∙ ap (paste scope₀ to (words t fs ks)) all in
          let known : length fs ≤ length (words t fs ks) = omega (arith, words_long t fs ks) in (
            ap (take (to + length fs)) are ∙ take-paste scope₀ to (words t fs ks) (length fs) (omega arith) known ∙ ap (λ l. take to scope₀ ++ l) (take_all (length fs) (words t fs ks) (omega (arith, words_long t fs ks))),
            ap (drop (to + length fs)) are ∙ drop-paste scope₀ to (words t fs ks) (length fs) (omega arith) known,
          )
