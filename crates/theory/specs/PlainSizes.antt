-- Types with sizes and their plain types: what a plain type says of a type, and the plain types of scopes.
use Rattle.std.specs.Prelude.{ℕ, zero, suc, List, [], ◌∷◌, ◌++◌, map, ◌≡◌, refl}
use Rattle.std.proofs.Math.Option.{Option, none, some}
use Rattle.std.proofs.Common.{ap, ap₂, ◌∙◌, arith}
use Rattle.std.proofs.Math.ListN.{get_elem? as look}
use Rattle.language.specs.Result.{chain}
use Rattle.language.specs.Syntax.{Field, fbool, fint, own, other, Plain, pbool, pint, pnamed, Ty, tbool, tint, tnamed, ResultType, rbool, rint, rnamed, Op, oadd, osub, omul, oeq, olt, ole, oand, oor}
use Rattle.language.specs.PlainTypes.{plain_field, plain_fields, plain_result, plain_declared, operand_type}
use Rattle.language.specs.Sizes.{type_size, type_at, sizes_of, parameter_types, field_types, size_of_type}
use Rattle.language.specs.Typing.{base_type}
use Rattle.theory.specs.Lists.{none-is-not-some}

-- ---- a plain type fixes a base type, and the number of a named one
pub bool-plain : (τ : Ty) → plain_declared τ ≡ pbool → τ ≡ tbool
unfolding plain_declared
bool-plain tbool e = refl
bool-plain tint e = absurd (let z : ◌≡◌ {A = ℕ} 0 1 = cc in omega arith)
bool-plain (tnamed t k) e = absurd (let z : ◌≡◌ {A = ℕ} 0 1 = cc in omega arith)

pub int-plain : (τ : Ty) → plain_declared τ ≡ pint → τ ≡ tint
unfolding plain_declared
int-plain tbool e = absurd (let z : ◌≡◌ {A = ℕ} 0 1 = cc in omega arith)
int-plain tint e = refl
int-plain (tnamed t k) e = absurd (let z : ◌≡◌ {A = ℕ} 0 1 = cc in omega arith)

pub plain-named : (t k : ℕ) → plain_declared (tnamed t k) ≡ pnamed t
unfolding plain_declared
plain-named t k = refl

pub named-plain : {t : ℕ} (τ : Ty) → plain_declared τ ≡ pnamed t → τ ≡ tnamed t (size_of_type τ)
unfolding plain_declared size_of_type
named-plain tbool e = absurd (let z : ◌≡◌ {A = ℕ} 0 1 = cc in omega arith)
named-plain tint e = absurd (let z : ◌≡◌ {A = ℕ} 0 1 = cc in omega arith)
named-plain {t} (tnamed u k) e = let z : u ≡ t = cc in rw z

pub operand-plain : (o : Op) (τ : Ty) → plain_declared τ ≡ operand_type o → τ ≡ base_type (operand_type o)
unfolding operand_type base_type
operand-plain oadd τ e = int-plain τ e
operand-plain osub τ e = int-plain τ e
operand-plain omul τ e = int-plain τ e
operand-plain oeq τ e = int-plain τ e
operand-plain olt τ e = int-plain τ e
operand-plain ole τ e = int-plain τ e
operand-plain oand τ e = bool-plain τ e
operand-plain oor τ e = bool-plain τ e

pub base-plain : (π : Plain) → plain_declared (base_type π) ≡ π
unfolding plain_declared base_type
base-plain pbool = refl
base-plain pint = refl
base-plain (pnamed t) = refl

pub result-plain : {τ : Ty} (Δ : List ℕ) (r : ResultType) → type_at Δ r ≡ some τ → plain_declared τ ≡ plain_result r
unfolding type_at plain_result plain_declared chain
result-plain {τ} Δ rbool e = let z : tbool ≡ τ = cc in rw (← z)
result-plain {τ} Δ rint e = let z : tint ≡ τ = cc in rw (← z)
result-plain {τ} Δ (rnamed t s) e = go (type_size Δ s) e
  where
    go : (o : Option ℕ) → chain o (λ k. some (tnamed t k)) ≡ some τ → plain_declared τ ≡ pnamed t
    go (some k) f = let z : tnamed t k ≡ τ = cc in rw (← z)
    go none f = none-is-not-some f

-- ---- scopes
abbrev pub plains_of_types : List Ty → List Plain
plains_of_types Γ = map plain_declared Γ

plains-append : (Γ Δ : List Ty) → plains_of_types (Γ ++ Δ) ≡ plains_of_types Γ ++ plains_of_types Δ
plains-append [] Δ = refl
plains-append (τ ∷ Γ) Δ = ap (λ l. plain_declared τ ∷ l) (plains-append Γ Δ)

pub plains-joined : {G H : List Plain} (Γ Δ : List Ty) → plains_of_types Γ ≡ G → plains_of_types Δ ≡ H → plains_of_types (Γ ++ Δ) ≡ G ++ H
plains-joined Γ Δ p q = plains-append Γ Δ ∙ ap₂ (λ l m. l ++ m) p q

pub parameters-plain : (ps : List Plain) (ks : List ℕ) → plains_of_types (parameter_types ps ks) ≡ ps
unfolding parameter_types plain_declared
parameters-plain [] ks = refl
parameters-plain (pbool ∷ ps) ks = ap (λ l. pbool ∷ l) (parameters-plain ps ks)
parameters-plain (pint ∷ ps) ks = ap (λ l. pint ∷ l) (parameters-plain ps ks)
parameters-plain (pnamed t ∷ ps) [] = ap (λ l. pnamed t ∷ l) (parameters-plain ps [])
parameters-plain (pnamed t ∷ ps) (k ∷ ks) = ap (λ l. pnamed t ∷ l) (parameters-plain ps ks)

pub fields-plain : (t : ℕ) (fs : List Field) (ks : List ℕ) → plains_of_types (field_types t fs ks) ≡ plain_fields t fs
unfolding field_types plain_declared plain_field
fields-plain t [] ks = refl
fields-plain t (fbool ∷ fs) ks = ap (λ l. pbool ∷ l) (fields-plain t fs ks)
fields-plain t (fint ∷ fs) ks = ap (λ l. pint ∷ l) (fields-plain t fs ks)
fields-plain t (own ∷ fs) [] = ap (λ l. pnamed t ∷ l) (fields-plain t fs [])
fields-plain t (own ∷ fs) (k ∷ ks) = ap (λ l. pnamed t ∷ l) (fields-plain t fs ks)
fields-plain t (other u k ∷ fs) ks = ap (λ l. pnamed u ∷ l) (fields-plain t fs ks)

-- arguments are the parameters of their own plain types at their own sizes
pub own-parameters : (τs : List Ty) → parameter_types (plains_of_types τs) (sizes_of τs) ≡ τs
unfolding parameter_types plain_declared sizes_of
own-parameters [] = refl
own-parameters (tbool ∷ τs) = ap (λ l. tbool ∷ l) (own-parameters τs)
own-parameters (tint ∷ τs) = ap (λ l. tint ∷ l) (own-parameters τs)
own-parameters (tnamed t k ∷ τs) = ap (λ l. tnamed t k ∷ l) (own-parameters τs)

pub look-none-plain : (Γ : List Ty) (v : ℕ) → look Γ v ≡ none → look (plains_of_types Γ) v ≡ none
look-none-plain [] v e = refl
look-none-plain (τ ∷ Γ) zero e = none-is-not-some (let z : ◌≡◌ {A = Option Ty} none (some τ) = cc in z)
look-none-plain (τ ∷ Γ) (suc v) e = look-none-plain Γ v e
