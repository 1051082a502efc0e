-- The cells kept after an iteration, and the cells of any state of the file, are at most the cells of all channels.
use Rattle.std.specs.Prelude.{◌≤◌, List, [], ◌∷◌, map, true, ◌≡◌, length}
use Rattle.std.proofs.Common.{ap, arith}
use Rattle.language.specs.Syntax.{Ty, File, declared_types}
use Rattle.language.specs.Within.{Within}
use Rattle.language.specs.Sizes.{sum}
use Rattle.language.specs.Heap.{Tree, tree_at}
use Rattle.language.specs.Values.{tree_cells}
use Rattle.language.specs.Cells.{cells_of, channel_cells}
use Rattle.language.specs.Slide.{State, slide}
use Rattle.language.specs.Line.{trees_fit}
use Rattle.theory.specs.Lists.{false-is-not-true, both_left, both_right}
use Rattle.theory.specs.CellsMost.{no-more-cells}
use Rattle.theory.specs.SlideKept.{slide-cells-at-most, all-reached-stays}
use Rattle.theory.specs.TypedStates.{Holds, StateTyped, values-lower, holds-linked, channels-fit}

pub trees-cells-at-most : {P : File} → Within P → (vs : List Tree) (τs : List Ty) → trees_fit P vs τs ≡ true → sum (map tree_cells vs) ≤ sum (map (cells_of P) τs)
unfolding trees_fit sum
trees-cells-at-most within [] [] e = omega arith
trees-cells-at-most within [] (τ ∷ τs) e = false-is-not-true e
trees-cells-at-most within (v ∷ vs) [] e = false-is-not-true e
trees-cells-at-most within (v ∷ vs) (τ ∷ τs) e = omega (arith, no-more-cells within v τ (both_left _ _ e), trees-cells-at-most within vs τs (both_right _ _ e))

-- demand 3's "stated worst case"
pub kept-at-most : {P : File} → Within P → (s : State) → Holds P (declared_types P) s → length (slide s).heap ≤ channel_cells P
unfolding channel_cells
kept-at-most {P} within s x = omega (arith, slide-cells-at-most s (values-lower x.values), trees-cells-at-most within (map (tree_at s.heap) s.roots) (declared_types P) (channels-fit x))

pub state-cells-at-most : {P : File} {s : State} → Within P → StateTyped P s → length s.heap ≤ channel_cells P
state-cells-at-most {P} {s} within t =
    let stays = all-reached-stays (holds-linked t.holds) t.all-reached in
    omega (arith, ap (λ (x : State). length x.heap) stays, kept-at-most within s t.holds)
