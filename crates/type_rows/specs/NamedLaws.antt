-- The sizes of the named types of a row, written one by one.
use Rattle.std.specs.Prelude.{ℕ, suc, ◌+◌, ◌%◌, ◌≤◌, ◌<◌, ◌≡◌, take}
use mathlib.Core.List.{List, [], ◌∷◌, ◌++◌}
use Rattle.std.proofs.Common.{sym, ◌∙◌, arith, drop_of_length-le, take_all, take-suc, drop-cons, length-take-le}
use Rattle.std.proofs.Math.Path.{ap, ap₂}
use Rattle.std.proofs.Math.Numerals.{add-one}
use Rattle.std.proofs.Math.ListN.{length, get_or, drop, set, length-set, length-drop}
use Rattle.std.proofs.lemmas.List.{set_at}
use Rattle.std.proofs.Math.Seq.{append_snoc}
use Rattle.language.specs.Syntax.{Ty, tbool, tint, tnamed}
use Rattle.language.specs.Layout.{tag_step}
use Rattle.language.specs.Sizes.{sizes_of}
use Rattle.text.specs.Bytes.{declared_word}
use Rattle.sizes.specs.Promises.{Small, small_named}
use Rattle.type_rows.specs.Rows.{ToldRow, NamedSizes}
use Rattle.type_rows.specs.ToldLaws.{word-told, word_small}

-- ---- of a row of these types i are passed: so many sizes are written, those of the others are left
pub record Written (τs : List Ty) (sizes₀ : List ℕ) (count i : ℕ) (sizes : List ℕ) : Type 0 where
  pub left : drop count (sizes_of τs) ≡ sizes_of (drop i τs)
  pub within : count ≤ length (sizes_of τs)
  pub is : sizes ≡ take count (sizes_of τs) ++ drop count sizes₀

pub record Writing (row : List ℕ) (n : ℕ) (sizes₀ : List ℕ) (count i : ℕ) (sizes : List ℕ) : Type 0 where
  pub low : count ≤ i
  pub few : i ≤ n
  pub long : length sizes ≡ length sizes₀
  pub says : (τs : List Ty) → ToldRow row n τs → length (sizes_of τs) ≤ length sizes₀ → Written τs sizes₀ count i sizes

-- ---- what is left has a first element, which is written
record Starts (l : List ℕ) (j x : ℕ) (rest : List ℕ) : Type 0 where
  less : j < length l
  first : get_or l j 0 ≡ x
  others : drop (suc j) l ≡ rest

starts : {l : List ℕ} {j x : ℕ} {rest : List ℕ} → drop j l ≡ x ∷ rest → Starts l j x rest
starts {l} {j} {x} {rest} e = record { less = less; first = cc parts; others = cc parts }
  where
    less : j < length l
    less = omega (arith, length-drop j l, ap length e)

    parts : get_or l j 0 ∷ drop (suc j) l ≡ x ∷ rest
    parts = sym (drop-cons l j 0 less) ∙ e

write-next : (s d : List ℕ) (j : ℕ) → j < length s → length s ≤ length d → set (take j s ++ drop j d) j (get_or s j 0) ≡ take (suc j) s ++ drop (suc j) d
write-next s d j less fits =
    ap (λ l. set (take j s ++ l) j (get_or s j 0)) (drop-cons d j 0 (omega arith))
    ∙ set_at (take j s) (get_or d j 0) (drop (suc j) d) (get_or s j 0) j (length-take-le j s (omega arith))
    ∙ sym (append_snoc (take j s) (get_or s j 0) (drop (suc j) d))
    ∙ ap (λ l. l ++ drop (suc j) d) (sym (take-suc s j 0 less))

-- ---- the loop
module _ {row : List ℕ} {n : ℕ} {sizes₀ : List ℕ} {count i : ℕ} {sizes : List ℕ} (v : Writing row n sizes₀ count i sizes) where
  module _ {word : ℕ} (h : i < n) (read : word ≡ get_or row i 0) where
    next-left : (τs : List Ty) → ToldRow row n τs → length (sizes_of τs) ≤ length sizes₀ → drop count (sizes_of τs) ≡ sizes_of (get_or τs i tbool ∷ drop (suc i) τs)
    next-left τs q fits = (v.says τs q fits).left ∙ ap sizes_of (drop-cons τs i tbool (omega (arith, q.long)))

    -- a named type
    pub writing-named : {count' : ℕ} {sizes' sizes'' : List ℕ} → tag_step ≤ word → sizes'' ≡ set sizes count (word % tag_step) → sizes' ≡ sizes'' → count' ≡ count + 1 → Writing row n sizes₀ count' (i + 1) sizes'
    unfolding sizes_of declared_word
    writing-named named put are on = rw (on, are, put) (record { low = omega (arith, v.low); few = omega arith; long = length-set sizes count (word % tag_step) ∙ v.long; says = says })
      where
        says : (τs : List Ty) → ToldRow row n τs → length (sizes_of τs) ≤ length sizes₀ → Written τs sizes₀ (count + 1) (i + 1) (set sizes count (word % tag_step))
        says τs q fits = go (get_or τs i tbool) (word_small q h) (read ∙ word-told q h) (next-left τs q fits)
          where
            go : (τ : Ty) → Small τ → word ≡ declared_word τ → drop count (sizes_of τs) ≡ sizes_of (τ ∷ drop (suc i) τs) → Written τs sizes₀ (count + 1) (i + 1) (set sizes count (word % tag_step))
            go tbool s e d = absurd (omega (arith, e, named))
            go tint s e d = absurd (omega (arith, e, named))
            go (tnamed t k) (small_named p r) e d =
                let next : Starts (sizes_of τs) count k (sizes_of (drop (suc i) τs)) = starts d in
                let size : word % tag_step ≡ get_or (sizes_of τs) count 0 = omega (arith, e, r, next.first) in
                rw (add-one count, add-one i, size) (record {
                  left = next.others;
                  within = omega (arith, next.less);
                  is = ap (λ l. set l count (get_or (sizes_of τs) count 0)) (v.says τs q fits).is ∙ write-next (sizes_of τs) sizes₀ count next.less fits;
                })

    -- Bool or Int
    pub writing-plain : {count' : ℕ} {sizes' : List ℕ} → word < tag_step → sizes' ≡ sizes → count' ≡ count → Writing row n sizes₀ count' (i + 1) sizes'
    unfolding sizes_of declared_word
    writing-plain plain are on = rw (on, are) (record { low = omega (arith, v.low); few = omega arith; long = v.long; says = says })
      where
        says : (τs : List Ty) → ToldRow row n τs → length (sizes_of τs) ≤ length sizes₀ → Written τs sizes₀ count (i + 1) sizes
        says τs q fits = rw add-one (record { left = go (get_or τs i tbool) (read ∙ word-told q h) (next-left τs q fits); within = (v.says τs q fits).within; is = (v.says τs q fits).is })
          where
            go : (τ : Ty) → word ≡ declared_word τ → drop count (sizes_of τs) ≡ sizes_of (τ ∷ drop (suc i) τs) → drop count (sizes_of τs) ≡ sizes_of (drop (suc i) τs)
            go tbool e d = d
            go tint e d = d
            go (tnamed t k) e d = absurd (omega (arith, e, plain))

  pub writing-end : n ≤ i → NamedSizes row n sizes₀ count sizes
  unfolding sizes_of
  writing-end h = record { says = says; few = omega (arith, v.low, v.few); long = v.long }
    where
      says : (τs : List Ty) → ToldRow row n τs → length (sizes_of τs) ≤ length sizes₀ → (count ≡ length (sizes_of τs)) × (sizes ≡ sizes_of τs ++ drop (length (sizes_of τs)) sizes₀)
      says τs q fits =
          let w : Written τs sizes₀ count i sizes = v.says τs q fits in
          let none : drop count (sizes_of τs) ≡ [] = w.left ∙ ap sizes_of (drop_of_length-le τs {i = i} (omega (arith, q.long))) in
          let all : count ≡ length (sizes_of τs) = omega (arith, w.within, length-drop count (sizes_of τs), ap length none) in
          (all, w.is ∙ ap₂ (λ (a b : List ℕ). a ++ b) (take_all count (sizes_of τs) (omega arith)) (ap (λ j. drop j sizes₀) all))
