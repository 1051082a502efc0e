-- No value of a type has more cells than the cells of the type.
use Rattle.std.specs.Prelude.{ℕ, zero, suc, ◌+◌, ◌-◌, ◌≤◌, ◌<◌, max, List, [], ◌∷◌, Bool, true, false, ◌≡◌, refl, length, get_or, leb}
use Rattle.std.proofs.Math.Option.{some}
use Rattle.std.proofs.Common.{ap, arith, le_refl, lt-ltb, leb-true, leb-false}
use Rattle.std.proofs.Math.ListN.{get_elem? as look}
use Rattle.language.specs.Result.{choose}
use Rattle.language.specs.Syntax.{Field, Constructor, Ty, File, constructors_of, owns}
use Rattle.language.specs.Within.{WithinTypes, Within}
use Rattle.language.specs.Sizes.{sum}
use Rattle.language.specs.Heap.{Tree, Trees}
use Rattle.language.specs.Values.{tree_cells, trees_cells, fits}
use Rattle.language.specs.Cells.{max_to, other_cells, own_cells, next_cells, cells_named, cells_of}
use Rattle.theory.specs.Lists.{none-is-not-some, look-inner-less}
use Rattle.theory.specs.TypedTrees.{TreeHas, has_bool, has_int, has_named, TreeVal, val_con, FieldTrees, fields_nil, fields_bool, fields_int, fields_own, fields_other, val-positive, owns-at-most-sum, fits-has}
use Rattle.theory.specs.CellsEquation.{own_cells-one-more, table_to, cells-next, cells-entry}

max_to-at-least : (f : ℕ → ℕ) (n p : ℕ) → 1 ≤ p → p ≤ n → f p ≤ max_to f n
unfolding max_to
max_to-at-least f zero p pos le = absurd (omega arith)
max_to-at-least f (suc n) p pos le = cases (leb p n) refl (λ small. max_to-at-least f n p pos small)
  where
    cases : (b : Bool) → leb p n ≡ b → (p ≤ n → f p ≤ max_to f n) → f p ≤ max (f (suc n)) (max_to f n)
    cases true e rec = omega (arith, rec (leb-true p n e))
    cases false e rec = let last : p ≡ suc n = omega (arith, leb-false p n e) in omega (arith, ap f last)

next_cells-at-least : (F : ℕ → ℕ → ℕ) (table : List ℕ) (cs : List Constructor) (k c : ℕ) {fs : Constructor} → look cs c ≡ some fs → owns fs ≤ k →
    1 + (other_cells F fs + own_cells table (owns fs) k) ≤ next_cells F table cs (suc k)
unfolding next_cells choose
next_cells-at-least F table [] k c e few = none-is-not-some e
next_cells-at-least F table (gs ∷ cs) k zero {fs} e few =
    let same : gs ≡ fs = cc in
    let step : suc k - 1 ≡ k = omega arith in
    rw (same, lt-ltb (owns fs) (suc k) (omega arith), step) (omega arith)
next_cells-at-least F table (gs ∷ cs) k (suc c) e few = omega (arith, next_cells-at-least F table cs k c e few)

module _ (P : File) (types : WithinTypes 0 P.types) where
  mutual
    unfolding tree_cells cells_of other_cells own_cells owns sum

    has_cells : {v : Tree} {τ : Ty} → TreeHas P v τ → tree_cells v ≤ cells_of P τ
    has_cells has_bool = omega arith
    has_cells (has_int less) = omega arith
    has_cells (has_named {k} v le) = val-cells v k le

    val-cells : {v : Tree} {t j : ℕ} → TreeVal P v t j → (m : ℕ) → j ≤ m → tree_cells v ≤ cells_named P t m
    val-cells (val_con e r s) zero le = absurd (omega arith)
    val-cells (val_con {t} {c} e r s) (suc m) le =
        let named = look-inner-less P.types t c e in
        omega (
          arith,
          fields-cells r named m m (le_refl m) (omega arith),
          cells-next P types t named m,
          next_cells-at-least (cells_named P) (table_to P t m) (constructors_of P t) m c e (omega (arith, owns-at-most-sum r)),
        )

    -- fields of a constructor whose own-type sizes sum to at most m; the table reaches size M
    fields-cells : {t : ℕ} {fs : List Field} {ws : Trees} {ks : List ℕ} → FieldTrees P t fs ws ks → t < length P.types → (M m : ℕ) → m ≤ M → sum ks ≤ m →
        trees_cells ws ≤ other_cells (cells_named P) fs + own_cells (table_to P t M) (owns fs) m
    fields-cells fields_nil named M m low le = omega arith
    fields-cells (fields_bool w r) named M m low le = omega (arith, has_cells w, fields-cells r named M m low le)
    fields-cells (fields_int w r) named M m low le = omega (arith, has_cells w, fields-cells r named M m low le)
    fields-cells (fields_own {t} {k} {fs} w r) named M m low le =
        let table = table_to P t M in
        omega (
          arith,
          val-cells w k (le_refl k),
          fields-cells r named M (m - k) (omega arith) (omega arith),
          cells-entry P types t named M k (val-positive w) (omega arith),
          own_cells-one-more table (owns fs) m,
          max_to-at-least (λ p. get_or table (p - 1) 0 + own_cells table (owns fs) (m - p)) (m - owns fs) k (val-positive w) (omega (arith, owns-at-most-sum r)),
        )
    fields-cells (fields_other w r) named M m low le = omega (arith, has_cells w, fields-cells r named M m low le)

-- "the most cells, written as a tree, of a value": none has more
pub no-more-cells : {P : File} → Within P → (v : Tree) (τ : Ty) → fits P v τ ≡ true → tree_cells v ≤ cells_of P τ
no-more-cells {P} within v τ e = has_cells P within.types (fits-has v τ e)
