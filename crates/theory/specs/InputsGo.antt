-- An allowed line's trees fit their inputs' types; put into a heap with room for the inputs' cells they are all built, and none is refused.
use Rattle.std.specs.Prelude.{ℕ, ◌+◌, ◌≤◌, List, [], ◌++◌, map, true, ◌≡◌, length, drop}
use Rattle.std.proofs.lemmas.Simd.{map-map}
use Rattle.std.proofs.lemmas.List.{map-append}
use Rattle.std.proofs.Math.Option.{some}
use Rattle.std.proofs.Math.Path.{ap}
use Rattle.std.proofs.Common.{◌∙◌, subst₂, arith}
use Rattle.language.specs.Syntax.{Input, File}
use Rattle.language.specs.Within.{all_nil, Within}
use Rattle.language.specs.Result.{ok}
use Rattle.language.specs.Sizes.{sum}
use Rattle.language.specs.Cells.{cells_of, input_cells}
use Rattle.language.specs.Heap.{Cell, Tree, tree_at}
use Rattle.language.specs.Values.{tree_cells}
use Rattle.language.specs.Slide.{State}
use Rattle.language.specs.Line.{trees_fit, line_trees}
use Rattle.language.specs.PlainMachine.{Nodes}
use Rattle.language.specs.Machine.{build_all, put_inputs}
use Rattle.language.specs.Run.{channel_trees}
use Rattle.theory.specs.LineExact.{line-forth-exact}
use Rattle.theory.specs.HeapValues.{env_nil}
use Rattle.theory.specs.Growth.{AllValues}
use Rattle.theory.specs.HeldChannels.{input_types, trees-stay, map-drop, nodes-left}
use Rattle.theory.specs.TypedStates.{Holds, StateTyped}
use Rattle.theory.specs.CellsKept.{trees-cells-at-most}
use Rattle.theory.specs.Builds.{all_build}
use Rattle.theory.specs.TypedBuilds.{all_hold}
use Rattle.theory.specs.InputsPut.{inputs-fit}

pub line-fits : (P : File) (line : List ℕ) {vs : List Tree} → line_trees P line ≡ some vs → trees_fit P vs (input_types P) ≡ true
line-fits P line {vs} e = (line-forth-exact P line vs e).1

module _ (P : File) (vs : List Tree) (fit : trees_fit P vs (input_types P) ≡ true) where
  pub inputs-cells : Within P → sum (map tree_cells vs) ≤ input_cells P
  unfolding input_cells
  inputs-cells within = omega (arith, trees-cells-at-most within vs (input_types P) fit, ap sum (map-map (cells_of P) (λ (i : Input). i.declared) P.inputs))

  pub inputs-go : Within P → (cells : ℕ) (h : List Cell) → length h + input_cells P ≤ cells → put_inputs P cells 0 vs h [] ≡ ok (build_all P vs h [])
  inputs-go within cells h room = inputs-fit P cells 0 vs h [] (omega (arith, inputs-cells within))

  pub inputs-hold : (h : List Cell) → AllValues P h → Holds P (input_types P) (build_all P vs h [])
  inputs-hold h values = all_hold P vs (input_types P) fit {σs = []} {s = record { heap = h; roots = [] }} (record { values = values; channels = env_nil })

-- what the plain machine does from the trees in the heap with the inputs, it does from those before it
pub fed-plain : {P : File} {s : State} → StateTyped P s → (vs : List Tree) {is : List ℕ} {result : List Tree} → let fed = build_all P vs s.heap [] in
    Nodes P (map (tree_at fed.heap) s.roots) is (map (tree_at fed.heap) (fed.roots ++ drop (length P.inputs) s.roots)) result → Nodes P (channel_trees s) is (vs ++ drop (length P.inputs) (channel_trees s)) result
fed-plain {P} {s} typed vs {is} {result} n =
    let built = all_build P vs s.heap [] all_nil in
    let fed = build_all P vs s.heap [] in
    let left = drop (length P.inputs) s.roots in
    subst₂ (λ last now. Nodes P last is now result) (trees-stay built.grown typed.holds.channels)
    (map-append (tree_at fed.heap) fed.roots left ∙ ap (λ us. us ++ map (tree_at fed.heap) left) built.trees ∙
    ap (λ us. vs ++ us) (trees-stay built.grown (nodes-left typed.holds.channels) ∙ map-drop (tree_at s.heap) (length P.inputs) s.roots)) n
