-- The cells of a type by recursion are those of the definition, which hands a table of smaller sizes on; and the numbers one by one,
-- as the loops of the code count them.
use Prim.Native.Nat.{ℕ, zero, suc, ◌+◌, ◌-◌, ◌≤◌, ◌<◌, max}
use mathlib.Core.List.{List, [], ◌∷◌, ◌++◌, map}
use Rattle.std.specs.Prelude.{◌≡◌, length, take}
use Rattle.std.proofs.Math.Path.{refl}
use Rattle.std.proofs.Common.{ap, ◌∙◌, take-suc}
use native.Mathlib.Omega.{arith}
use Rattle.std.proofs.Math.ListN.{get_or}
use Rattle.language.specs.Syntax.{Field, fbool, fint, own, other, Constructor, Ty, File, constructors_of, owns}
use Rattle.language.specs.Sizes.{sum}
use Rattle.language.specs.Within.{WithinTypes}
use Rattle.language.specs.Cells.{max_to, other_cells, own_cells, next_cells, cells_named, cells_of}
use Rattle.theory.specs.CellsEquation.{table_to, cells-next, cells-entry}
use Rattle.cells.specs.Most.{most_own, split_cells, made_cells, most_made, field_cells}

max_to-same : (f g : ℕ → ℕ) (n : ℕ) → ((p : ℕ) → 1 ≤ p → p ≤ n → f p ≡ g p) → max_to f n ≡ max_to g n
unfolding max_to
max_to-same f g zero same = refl
max_to-same f g (suc n) same = omega (arith, same (suc n) (omega arith) (omega arith), max_to-same f g n (λ p pos le. same p pos (omega arith)))

module _ (P : File) (types : WithinTypes 0 P.types) (t : ℕ) (named : t < length P.types) where
  -- ---- the table that is handed on says the same at every size that it reaches
  own_same : (K r m : ℕ) → m ≤ K → own_cells (table_to P t K) r m ≡ most_own P t r m
  unfolding own_cells most_own
  own_same K zero m le = refl
  own_same K (suc r) m le = max_to-same (λ p. get_or (table_to P t K) (p - 1) 0 + own_cells (table_to P t K) r (m - p)) (split_cells P t r m) (m - r) (λ p pos low.
      omega (arith, cells-entry P types t named K p pos (omega arith), own_same K r (m - p) (omega arith)))

  next-same : (k : ℕ) (cs : List Constructor) → next_cells (cells_named P) (table_to P t k) cs (suc k) ≡ most_made P t (suc k) cs
  unfolding next_cells most_made made_cells
  next-same k [] = refl
  next-same k (fs ∷ cs) = rw (own_same k (owns fs) (suc k - 1) (omega arith), next-same k cs)

  -- the cells at a size are the most that some constructor makes
  pub cells-made : (k : ℕ) → 1 ≤ k → cells_named P t k ≡ most_made P t k (constructors_of P t)
  cells-made zero pos = absurd (omega arith)
  cells-made (suc k) pos = cells-next P types t named k ∙ next-same k (constructors_of P t)

-- ---- one by one
module _ (P : File) (t : ℕ) where
  made_more : (k : ℕ) (cs : List Constructor) (fs : Constructor) → most_made P t k (cs ++ (fs ∷ [])) ≡ max (made_cells P t k fs) (most_made P t k cs)
  unfolding most_made
  made_more k [] fs = refl
  made_more k (gs ∷ cs) fs = omega (arith, made_more k cs fs)

  pub made-next : (k c : ℕ) (cs : List Constructor) → c < length cs → most_made P t k (take (suc c) cs) ≡ max (made_cells P t k (get_or cs c [])) (most_made P t k (take c cs))
  made-next k c cs less = ap (most_made P t k) (take-suc cs c [] less) ∙ made_more k (take c cs) (get_or cs c [])

  -- more values than sizes: none
  pub own-none : (r m : ℕ) → m < r → most_own P t r m ≡ 0
  unfolding most_own max_to
  own-none zero m less = absurd (omega arith)
  own-none (suc r) m less = let none : m - r ≡ 0 = omega arith in rw none

  -- the first of r values may have any of the sizes 1 to m - (r - 1)
  pub own_split : (r m : ℕ) → (r ≡ 0 → ⊥) → most_own P t r m ≡ max_to (split_cells P t (r - 1) m) (m - (r - 1))
  unfolding most_own
  own_split zero m some = absurd (some refl)
  own_split (suc r) m some = let less : suc r - 1 ≡ r = omega arith in rw less

pub split-next : (f : ℕ → ℕ) (p : ℕ) → max_to f (suc p) ≡ max (f (suc p)) (max_to f p)
unfolding max_to
split-next f p = refl

module _ (P : File) where
  others-more : (fs : List Field) (f : Field) → other_cells (cells_named P) (fs ++ (f ∷ [])) ≡ other_cells (cells_named P) fs + field_cells P f
  unfolding other_cells field_cells
  others-more [] fbool = refl
  others-more [] fint = refl
  others-more [] own = refl
  others-more [] (other u k) = omega arith
  others-more (fbool ∷ fs) f = omega (arith, others-more fs f)
  others-more (fint ∷ fs) f = omega (arith, others-more fs f)
  others-more (own ∷ fs) f = others-more fs f
  others-more (other u k ∷ fs) f = omega (arith, others-more fs f)

  pub others-next : (i : ℕ) (fs : List Field) → i < length fs → other_cells (cells_named P) (take (suc i) fs) ≡ other_cells (cells_named P) (take i fs) + field_cells P (get_or fs i fbool)
  others-next i fs less = ap (other_cells (cells_named P)) (take-suc fs i fbool less) ∙ others-more (take i fs) (get_or fs i fbool)

  types_more : (τs : List Ty) (τ : Ty) → sum (map (cells_of P) (τs ++ (τ ∷ []))) ≡ sum (map (cells_of P) τs) + cells_of P τ
  unfolding sum
  types_more [] τ = omega arith
  types_more (σ ∷ τs) τ = omega (arith, types_more τs τ)

  pub types-next : (i : ℕ) (τs : List Ty) (d : Ty) → i < length τs → sum (map (cells_of P) (take (suc i) τs)) ≡ sum (map (cells_of P) (take i τs)) + cells_of P (get_or τs i d)
  types-next i τs d less = ap (λ l. sum (map (cells_of P) l)) (take-suc τs i d less) ∙ types_more (take i τs) (get_or τs i d)
