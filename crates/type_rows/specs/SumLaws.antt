-- The sizes at a constructor's fields of its own type, summed one by one.
use Rattle.std.specs.Prelude.{ℕ, suc, ◌+◌, ◌*◌, ◌%◌, ◌≤◌, ◌<◌, ◌≡◌, refl, length, get_or}
use mathlib.Core.List.{List, [], ◌∷◌}
use Rattle.std.proofs.Common.{sym, ap₂, ◌∙◌, add-one, arith, drop-cons}
use Rattle.std.proofs.Math.Path.{ap}
use Rattle.std.proofs.Math.ListN.{drop, drop_of_length-le}
use Rattle.language.specs.Limits.{byte_range}
use Rattle.language.specs.Syntax.{Field, fbool, fint, own, other, Ty, tbool}
use Rattle.language.specs.Sizes.{own_sizes, size_of_type, sum}
use Rattle.text.specs.Bytes.{field_word}
use Rattle.index.specs.Tables.{constructor_words, type_words}
use Rattle.index.specs.Indexed.{field_at}
use Rattle.type_rows.specs.Rows.{size_in, ToldFields, ToldRow, OwnSum}
use Rattle.type_rows.specs.RowWordLaws.{size-in-word}
use Rattle.type_rows.specs.ToldLaws.{fields-counted, field_told, word-told, word_small}

-- what is summed so far and what is left make the whole
pub record Summed (types row : List ℕ) (t c n i so_far : ℕ) : Type 0 where
  pub few : i ≤ n
  pub low : so_far ≤ 255 * i
  pub whole : (fs : List Field) (τs : List Ty) → ToldFields types t c fs → ToldRow row (length fs) τs → sum (own_sizes fs τs) ≡ so_far + sum (own_sizes (drop i fs) (drop i τs))

own_first : (f : Field) (fs : List Field) (τ : Ty) (τs : List Ty) → field_word f ≡ 2 → sum (own_sizes (f ∷ fs) (τ ∷ τs)) ≡ size_of_type τ + sum (own_sizes fs τs)
unfolding field_word own_sizes sum
own_first fbool fs τ τs e = absurd (omega (arith, e))
own_first fint fs τ τs e = absurd (omega (arith, e))
own_first own fs τ τs e = refl
own_first (other u k) fs τ τs e = absurd (omega (arith, e))

other-first : (f : Field) (fs : List Field) (τ : Ty) (τs : List Ty) → (field_word f ≡ 2 → ⊥) → sum (own_sizes (f ∷ fs) (τ ∷ τs)) ≡ sum (own_sizes fs τs)
unfolding field_word own_sizes
other-first fbool fs τ τs e = refl
other-first fint fs τ τs e = refl
other-first own fs τ τs e = absurd (e refl)
other-first (other u k) fs τ τs e = refl

pub summed-start : (types row : List ℕ) (t c n : ℕ) → Summed types row t c n 0 0
summed-start types row t c n = record { few = omega arith; low = omega arith; whole = λ fs τs q p. omega arith }

module _ {types row : List ℕ} {t c n i so_far : ℕ} (a : (n ≡ get_or types (type_words * t + 1 + constructor_words * c) 0 % byte_range) × (n < byte_range)) (v : Summed types row t c n i so_far) where
  module _ {field : ℕ} (h : i < n) (is : field ≡ field_at types t c i) where
    module _ (fs : List Field) (τs : List Ty) (q : ToldFields types t c fs) (p : ToldRow row (length fs) τs) where
      less : i < length fs
      less = omega (arith, fields-counted q a)

      next-whole : sum (own_sizes fs τs) ≡ so_far + sum (own_sizes (get_or fs i fbool ∷ drop (suc i) fs) (get_or τs i tbool ∷ drop (suc i) τs))
      next-whole = v.whole fs τs q p ∙ ap (λ s. so_far + sum s) (ap₂ own_sizes (drop-cons fs i fbool less) (drop-cons τs i tbool (omega (arith, less, p.long))))

    -- a field of the type itself
    pub summed-own : {word size total : ℕ} → field ≡ 2 → word ≡ get_or row i 0 → (size ≡ size_in word) × (size < byte_range) → total ≡ so_far + size → Summed types row t c n (i + 1) total
    summed-own {word} {size} same read s on = rw on (record { few = omega arith; low = omega (arith, v.low, s.1); whole = whole })
      where
        whole : (fs : List Field) (τs : List Ty) → ToldFields types t c fs → ToldRow row (length fs) τs → sum (own_sizes fs τs) ≡ so_far + size + sum (own_sizes (drop (i + 1) fs) (drop (i + 1) τs))
        whole fs τs q p =
            let there : i < length fs = less fs τs q p in
            let worth : size ≡ size_of_type (get_or τs i tbool) = s.0 ∙ ap size_in (read ∙ word-told p there) ∙ size-in-word (word_small p there) in
            let first = own_first (get_or fs i fbool) (drop (suc i) fs) (get_or τs i tbool) (drop (suc i) τs) (sym (field_told q there) ∙ sym is ∙ same) in
            rw add-one (omega (arith, next-whole fs τs q p, first, worth))

    -- another field
    pub summed-other : {total : ℕ} → (field ≡ 2 → ⊥) → total ≡ so_far → Summed types row t c n (i + 1) total
    summed-other differs on = rw on (record { few = omega arith; low = omega (arith, v.low); whole = whole })
      where
        whole : (fs : List Field) (τs : List Ty) → ToldFields types t c fs → ToldRow row (length fs) τs → sum (own_sizes fs τs) ≡ so_far + sum (own_sizes (drop (i + 1) fs) (drop (i + 1) τs))
        whole fs τs q p =
            let there : i < length fs = less fs τs q p in
            let first = other-first (get_or fs i fbool) (drop (suc i) fs) (get_or τs i tbool) (drop (suc i) τs) (λ e. differs (is ∙ field_told q there ∙ e)) in
            rw add-one (omega (arith, next-whole fs τs q p, first))

  pub summed-end : n ≤ i → OwnSum types row t c so_far
  unfolding own_sizes sum
  summed-end h = record { says = says; less = omega (arith, v.low, v.few, a.1) }
    where
      says : (fs : List Field) (τs : List Ty) → ToldFields types t c fs → ToldRow row (length fs) τs → so_far ≡ sum (own_sizes fs τs)
      says fs τs q p =
          let none : drop i fs ≡ [] = drop_of_length-le fs {i = i} (omega (arith, fields-counted q a)) in
          omega (arith, v.whole fs τs q p, ap (λ gs. sum (own_sizes gs (drop i τs))) none)
