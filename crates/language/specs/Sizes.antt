-- Sizes worked out, and types with sizes: figure 3 of the paper, document 01 under "Checking".
use Rattle.std.specs.Prelude.{ℕ, ◌+◌, ◌-◌, List, [], ◌∷◌, Bool, true, false, get_or, ltb, leb, eqb}
use Rattle.std.proofs.Math.Option.{Option, some}
use Rattle.language.specs.Limits.{size_most}
use Rattle.language.specs.Result.{both, when, chain}
use Rattle.language.specs.Syntax.{Field, fbool, fint, own, other, Plain, pbool, pint, pnamed, Ty, tbool, tint, tnamed, Size, lit, svar, plus, minus, ResultType, rbool, rint, rnamed, Relation, req, rlt, rle, Condition}

-- A size is "an integer that may be negative": what is added, and what is taken away, at sizes Δ of its variables.
unfoldable mutual
  pub added : List ℕ → Size → ℕ
  added Δ (lit k) = k
  added Δ (svar i) = get_or Δ i 0
  added Δ (plus a b) = added Δ a + added Δ b
  added Δ (minus a b) = added Δ a + taken Δ b

  pub taken : List ℕ → Size → ℕ
  taken Δ (lit k) = 0
  taken Δ (svar i) = 0
  taken Δ (plus a b) = taken Δ a + taken Δ b
  taken Δ (minus a b) = taken Δ a + added Δ b

-- the size of a type, "1 to 64"; none is refusal 10
unfoldable pub type_size : List ℕ → Size → Option ℕ
type_size Δ s = when (both (ltb (taken Δ s) (added Δ s)) (leb (added Δ s) (taken Δ s + size_most))) (added Δ s - taken Δ s)

unfoldable pub type_at : List ℕ → ResultType → Option Ty
type_at Δ rbool = some tbool
type_at Δ rint = some tint
type_at Δ (rnamed t s) = chain (type_size Δ s) (λ k. some (tnamed t k))

-- conditions compare whole numbers, negative ones too: across the two sums
unfoldable pub compare : Relation → ℕ → ℕ → Bool
compare req a b = eqb a b
compare rlt a b = ltb a b
compare rle a b = leb a b

unfoldable pub condition_holds : List ℕ → Condition → Bool
condition_holds Δ c = compare c.rel (added Δ c.left + taken Δ c.right) (added Δ c.right + taken Δ c.left)

unfoldable pub conditions_hold : List ℕ → List Condition → Bool
conditions_hold Δ [] = true
conditions_hold Δ (c ∷ cs) = both (condition_holds Δ c) (conditions_hold Δ cs)

unfoldable pub sum : List ℕ → ℕ
sum [] = 0
sum (k ∷ ks) = k + sum ks

-- the summed measure of a function at the sizes of its named arguments; repeats count twice
unfoldable pub summed_measure : List ℕ → List ℕ → ℕ
summed_measure [] ks = 0
summed_measure (i ∷ is) ks = get_or ks i 0 + summed_measure is ks

-- ---- scopes of types
-- the sizes of the named types among these, in order: those of an instance
unfoldable pub sizes_of : List Ty → List ℕ
sizes_of [] = []
sizes_of (tbool ∷ τs) = sizes_of τs
sizes_of (tint ∷ τs) = sizes_of τs
sizes_of (tnamed t k ∷ τs) = k ∷ sizes_of τs

-- parameters, the named ones at these sizes: "each named-type parameter brings the next size variable"
unfoldable pub parameter_types : List Plain → List ℕ → List Ty
parameter_types [] ks = []
parameter_types (pbool ∷ ps) ks = tbool ∷ parameter_types ps ks
parameter_types (pint ∷ ps) ks = tint ∷ parameter_types ps ks
parameter_types (pnamed t ∷ ps) [] = tnamed t 0 ∷ parameter_types ps []
parameter_types (pnamed t ∷ ps) (k ∷ ks) = tnamed t k ∷ parameter_types ps ks

-- the fields of a constructor of type t, those of its own type at these sizes; "a field of another type has exactly its k"
unfoldable pub field_types : ℕ → List Field → List ℕ → List Ty
field_types t [] ks = []
field_types t (fbool ∷ fs) ks = tbool ∷ field_types t fs ks
field_types t (fint ∷ fs) ks = tint ∷ field_types t fs ks
field_types t (own ∷ fs) [] = tnamed t 0 ∷ field_types t fs []
field_types t (own ∷ fs) (k ∷ ks) = tnamed t k ∷ field_types t fs ks
field_types t (other u k ∷ fs) ks = tnamed u k ∷ field_types t fs ks

-- the sizes at a constructor's own-type fields
unfoldable pub size_of_type : Ty → ℕ
size_of_type tbool = 0
size_of_type tint = 0
size_of_type (tnamed t k) = k

unfoldable pub own_sizes : List Field → List Ty → List ℕ
own_sizes [] τs = []
own_sizes (f ∷ fs) [] = []
own_sizes (fbool ∷ fs) (τ ∷ τs) = own_sizes fs τs
own_sizes (fint ∷ fs) (τ ∷ τs) = own_sizes fs τs
own_sizes (own ∷ fs) (τ ∷ τs) = size_of_type τ ∷ own_sizes fs τs
own_sizes (other t k ∷ fs) (τ ∷ τs) = own_sizes fs τs

-- ---- equality
unfoldable pub same_type : Ty → Ty → Bool
same_type tbool tbool = true
same_type tbool tint = false
same_type tbool (tnamed u j) = false
same_type tint tbool = false
same_type tint tint = true
same_type tint (tnamed u j) = false
same_type (tnamed t k) tbool = false
same_type (tnamed t k) tint = false
same_type (tnamed t k) (tnamed u j) = both (eqb t u) (eqb k j)

unfoldable pub same_types : List Ty → List Ty → Bool
same_types [] [] = true
same_types [] (τ ∷ τs) = false
same_types (σ ∷ σs) [] = false
same_types (σ ∷ σs) (τ ∷ τs) = both (same_type σ τ) (same_types σs τs)

unfoldable pub same_sizes : List ℕ → List ℕ → Bool
same_sizes [] [] = true
same_sizes [] (j ∷ js) = false
same_sizes (k ∷ ks) [] = false
same_sizes (k ∷ ks) (j ∷ js) = both (eqb k j) (same_sizes ks js)
