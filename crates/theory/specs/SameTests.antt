-- The tests of equality of types and sizes hold exactly of equals.
use Rattle.std.specs.Prelude.{ℕ, List, [], ◌∷◌, true, ◌≡◌, refl}
use Rattle.std.proofs.Common.{eqb-true, eq-eqb}
use Rattle.language.specs.Syntax.{Ty, tbool, tint, tnamed}
use Rattle.language.specs.Sizes.{same_type, same_types, same_sizes}
use Rattle.theory.specs.Lists.{false-is-not-true, both_left, both_right, both_true}

-- ---- what is tested the same is equal
pub same-type : (σ τ : Ty) → same_type σ τ ≡ true → σ ≡ τ
unfolding same_type
same-type tbool tbool e = refl
same-type tbool tint e = false-is-not-true e
same-type tbool (tnamed u j) e = false-is-not-true e
same-type tint tbool e = false-is-not-true e
same-type tint tint e = refl
same-type tint (tnamed u j) e = false-is-not-true e
same-type (tnamed t k) tbool e = false-is-not-true e
same-type (tnamed t k) tint e = false-is-not-true e
same-type (tnamed t k) (tnamed u j) e = rw (eqb-true t u (both_left _ _ e), eqb-true k j (both_right _ _ e))

pub same-types : (σs τs : List Ty) → same_types σs τs ≡ true → σs ≡ τs
unfolding same_types
same-types [] [] e = refl
same-types [] (τ ∷ τs) e = false-is-not-true e
same-types (σ ∷ σs) [] e = false-is-not-true e
same-types (σ ∷ σs) (τ ∷ τs) e = rw (same-type σ τ (both_left _ _ e), same-types σs τs (both_right _ _ e))

pub same-sizes : (ks js : List ℕ) → same_sizes ks js ≡ true → ks ≡ js
unfolding same_sizes
same-sizes [] [] e = refl
same-sizes [] (j ∷ js) e = false-is-not-true e
same-sizes (k ∷ ks) [] e = false-is-not-true e
same-sizes (k ∷ ks) (j ∷ js) e = rw (eqb-true k j (both_left _ _ e), same-sizes ks js (both_right _ _ e))

-- ---- equals are tested the same
type-itself : (τ : Ty) → same_type τ τ ≡ true
unfolding same_type
type-itself tbool = refl
type-itself tint = refl
type-itself (tnamed t k) = both_true (eq-eqb t t refl) (eq-eqb k k refl)

types-itself : (τs : List Ty) → same_types τs τs ≡ true
unfolding same_types
types-itself [] = refl
types-itself (τ ∷ τs) = both_true (type-itself τ) (types-itself τs)

sizes-itself : (ks : List ℕ) → same_sizes ks ks ≡ true
unfolding same_sizes
sizes-itself [] = refl
sizes-itself (k ∷ ks) = both_true (eq-eqb k k refl) (sizes-itself ks)

pub type-same : {σ τ : Ty} → σ ≡ τ → same_type σ τ ≡ true
type-same {τ} e = rw e (type-itself τ)

pub types_same : {σs τs : List Ty} → σs ≡ τs → same_types σs τs ≡ true
types_same {τs} e = rw e (types-itself τs)

pub sizes-same : {ks js : List ℕ} → ks ≡ js → same_sizes ks js ≡ true
sizes-same {js} e = rw e (sizes-itself js)
