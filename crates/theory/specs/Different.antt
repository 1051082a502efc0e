-- Lists without repeats, and how many different things satisfy a predicate.
use Rattle.std.specs.Prelude.{ℕ, suc, ◌≤◌, ◌≡◌, refl, length}
use mathlib.Core.List.Memᴰ.{head as in_head}
use mathlib.Core.List.Memᴰ.{tail as in_Tail}
use mathlib.Core.List.{List, [], ◌∷◌, ◌++◌, Memᴰ as In}
use Rattle.std.proofs.Common.{sym, ◌∙◌, arith}
pub use Rattle.language.specs.Instances.{Distinct, distinct_nil, distinct_cons, MoreThan, AtMost}
use Rattle.theory.specs.Alls.{all-member}

-- ---- no repeats
in_appended : {A : Type 0} {a b : A} (l : List A) → In b (l ++ (a ∷ [])) → (In b l → ⊥) → b ≡ a
in_appended [] (in_head e) f = e
in_appended (x ∷ l) (in_head e) f = absurd (f (in_head e))
in_appended (x ∷ l) (in_Tail i) f = in_appended l i (λ j. f (in_Tail j))
in_appended {A = A} {a = a} {b = b} [] (in_Tail i) f = elim i [ ]

pub distinct_append : {A : Type 0} {a : A} {l : List A} → Distinct l → (In a l → ⊥) → Distinct (l ++ (a ∷ []))
distinct_append distinct_nil f = distinct_cons f distinct_nil
distinct_append {a} (distinct_cons {a = b} {l} g d) f =
    distinct_cons (λ i. f (in_head (sym (in_appended l i g)))) (distinct_append d (λ i. f (in_Tail i)))

-- ---- how many
-- a list without one thing that stands in it
record Without {A : Type 0} (a : A) (l : List A) : Type 0 where
  rest : List A
  shorter : length l ≡ suc (length rest)
  keeps : (b : A) → In b l → (b ≡ a → ⊥) → In b rest

take_out : {A : Type 0} {a : A} {l : List A} → In a l → Without a l
take_out {A} {a} (in_head {x} {xs} e) = record { rest = xs; shorter = refl; keeps = keep }
  where
    keep : (b : A) → In b (x ∷ xs) → (b ≡ a → ⊥) → In b xs
    keep b (in_head i) f = absurd (f (i ∙ sym e))
    keep b (in_Tail i) f = i
take_out {A} {a} (in_Tail {x} {xs} i) = go (take_out i)
  where
    go : Without a xs → Without a (x ∷ xs)
    go w = record { rest = x ∷ w.rest; shorter = omega (arith, w.shorter); keeps = keep }
      where
        keep : (b : A) → In b (x ∷ xs) → (b ≡ a → ⊥) → In b (x ∷ w.rest)
        keep b (in_head j) f = in_head j
        keep b (in_Tail j) f = in_Tail (w.keeps b j f)

-- different things that all stand in m are no more than m is long
pub pigeonhole : {A : Type 0} {l : List A} → Distinct l → (m : List A) → ((a : A) → In a l → In a m) → length l ≤ length m
pigeonhole distinct_nil m f = omega arith
pigeonhole (distinct_cons {a} {l} g d) m f =
    let w = take_out (f a (in_head refl)) in
    omega (arith, w.shorter, pigeonhole d w.rest (λ b i. w.keeps b (f b (in_Tail i)) (λ e. g (rw e at i))))

pub not-more-and-at-most : {A : Type 0} {n : ℕ} {K : A → Type 0} → MoreThan n K → AtMost n K → ⊥
not-more-and-at-most m f = omega (arith, pigeonhole m.distinct f.these (λ a i. f.all a (all-member m.all i)), m.many, f.few)
