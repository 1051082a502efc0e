-- The nodes of an accepted file, updated in any order without repeats where their numbers are lent: each has a value of its declared type,
-- the one whose tree the plain machine derives, so none is refused.
use Rattle.std.specs.Prelude.{ℕ, ◌+◌, ◌≤◌, ◌<◌, false, not, ◌≡◌, refl, set}
use mathlib.Core.List.{List, [], ◌∷◌, ◌++◌, map}
use Rattle.std.proofs.Common.{ap, ◌∙◌, subst₂, arith}
use Rattle.std.proofs.Math.ListN.{length}
use borrow.Author.Tests.{le-leb, not-true}
use Rattle.language.specs.Result.{ok, need}
use Rattle.language.specs.Syntax.{Ty, File, no_node, node_at_of, node_channel, declared_types}
use Rattle.language.specs.Within.{Within}
use Rattle.language.specs.Sizes.{size_of_type}
use Rattle.language.specs.Estimate.{Estimate}
use Rattle.language.specs.Cells.{updates_numbers}
use Rattle.language.specs.Typing.{channels_at, Updates}
use Rattle.language.specs.Heap.{Cell, Tree, vnil, cell_at, size_in, trees_at, tree_at}
use Rattle.language.specs.Values.{tree_size}
use Rattle.language.specs.Slide.{State, mem}
use Rattle.language.specs.Order.{node_readings, Follows, f_none, f_next}
use Rattle.language.specs.Evaluator.{Channels}
use Rattle.language.specs.Machine.{Board, channel_value, update_nodes}
use Rattle.language.specs.PlainMachine.{Nodes, no_nodes, next_node, Derives}
use Rattle.language.specs.Run.{channel_trees}
use Rattle.theory.specs.Lists.{not_of_false, map-set}
use Rattle.theory.specs.Alls.{all_get_d}
use Rattle.theory.specs.Heaps.{Grown}
use Rattle.theory.specs.HeapValues.{Env, env_nil, Scoped, env-grown}
use Rattle.theory.specs.Growth.{AllValues}
use Rattle.theory.specs.ValuesFit.{size_word}
use Rattle.theory.specs.HeldChannels.{size-at-most, trees-stay}
use Rattle.theory.specs.TypedStates.{Holds}
use Rattle.theory.specs.Simulated.{Enough, simulated-eval}
use Rattle.theory.specs.Simulates.{estimate-sound}
use Rattle.theory.specs.Totals.{total, total-less}
use Rattle.theory.specs.OrderComplete.{mem-snoc-last, undone-before}
use Rattle.theory.specs.AnyOrder.{readings-length}
use Rattle.theory.specs.NodeNumbers.{number_at, number_in, update-at, declared-at, env-set}

-- ---- the plain machine's step, from the heap before it to the heap after it
pub node-plain : {P : File} {h g : List Cell} {last now : List ℕ} {ρs σs : List Ty} {i : ℕ} {is : List ℕ} {result : List Tree} (l : ℕ) →
    Grown h g → Env P h last ρs → Env P h now σs →
    Derives P (record { now = map (tree_at h) now; last = map (tree_at h) last }) vnil (node_at_of P i).update (tree_at g l) → tree_size P (tree_at g l) ≤ size_of_type (node_at_of P i).declared →
    Nodes P (map (tree_at g) last) is (map (tree_at g) (set now (node_channel P i) l)) result →
    Nodes P (map (tree_at h) last) (i ∷ is) (map (tree_at h) now) result
node-plain {P} {h} {g} {last} {now} {i} {is} {result} l grown previous before derives small rest =
    next_node derives small (subst₂ (λ us vs. Nodes P us is vs result) (trees-stay grown previous)
    (map-set (tree_at g) now (node_channel P i) l ∙ ap (λ vs. set vs (node_channel P i) (tree_at g l)) (trees-stay grown before)) rest)

-- ---- node by node
module _ (P : File) (b : Board) (last : List ℕ) (xs : List Estimate) where
  -- the heap numbers of the nodes not yet done
  abbrev pub to_come : List ℕ → ℕ
  to_come done = total (λ i. (number_at xs i).heap) (λ i. not (mem i done)) (length (node_readings P))

  -- after the nodes done: a value for each channel, now and from before the line; and the numbers of the others are lent
  pub record Ready (done : List ℕ) (h : List Cell) (now : List ℕ) : Type 0 where
    pub values : AllValues P h
    pub channels : Env P h now (declared_types P)
    pub previous : Env P h last (declared_types P)
    pub slots : (updates_numbers xs).env ≤ b.slots
    pub cells : length h + to_come done ≤ b.cells
    pub calls : (updates_numbers xs).stack ≤ b.calls

  -- after them: a value for each channel, as the plain machine has it
  pub record NodesGo (places : List ℕ) (h : List Cell) (now : List ℕ) : Type 0 where
    pub after : State
    pub is : update_nodes P b last places h now ≡ ok after
    pub holds : Holds P (declared_types P) after
    pub plain : Nodes P (map (tree_at h) last) places (map (tree_at h) now) (channel_trees after)

  -- a node's heap number is to come no more
  paid : (done : List ℕ) (i : ℕ) → i < length (node_readings P) → mem i done ≡ false → to_come (done ++ (i ∷ [])) + (number_at xs i).heap ≤ to_come done
  paid done i less new = total-less (λ j. (number_at xs j).heap) (λ j z. not_of_false (undone-before j i done (not-true (mem j (done ++ (i ∷ []))) z))) (length (node_readings P)) i less
      (ap not (mem-snoc-last i done)) (not_of_false new)

  module _ (within : Within P) (updates : Updates P (length P.inputs) P.nodes xs) where
    pub nodes-go : {done is : List ℕ} {h : List Cell} {now : List ℕ} → Follows (node_readings P) done is → Ready done h now → NodesGo is h now
    unfolding update_nodes channel_value need channels_at trees_at
    nodes-go {h} {now} f_none r = record { after = record { heap = h; roots = now }; is = refl; holds = record { values = r.values; channels = r.channels }; plain = no_nodes }
    nodes-go {h} {now} (f_next {i} {done} {is} less new all rest) r =
        let place : i < length P.nodes = omega (arith, readings-length P) in
        let channels : Channels = record { now = now; last = last } in
        let scoped : Scoped P channels (declared_types P) h [] [] = record { variables = env_nil; now = r.channels; last = r.previous } in
        let few = paid done i less new in
        let number = number_in xs i in
        let enough : Enough (number_at xs i) b.calls b.slots b.cells h = record { slots = omega (arith, number.slots, r.slots); cells = omega (arith, r.cells); calls = omega (arith, number.calls, r.calls) } in
        let ends = estimate-sound within b.cells (update-at updates i place) (all_get_d within.nodes i no_node place).update scoped enough in
        let l = ends.result in
        let g = ends.heap in
        let value = ends.is in
        let grown = value.grew.grown in
        let small = size-at-most value.has in
        let small-tree : tree_size P (tree_at g l) ≤ size_of_type (node_at_of P i).declared = omega (arith, size_word value.has) in
        let more = nodes-go rest (record {
          values = value.grew.values r.values;
          channels = env-set (env-grown grown r.channels) (node_channel P i) (declared-at P i place) value.has;
          previous = env-grown grown r.previous;
          slots = r.slots;
          cells = omega (arith, r.cells, value.grew.few);
          calls = r.calls;
        }) in
        record {
          after = more.after;
          is = rw (simulated-eval value, le-leb (size_in (cell_at g l)) (size_of_type (node_at_of P i).declared) small) more.is;
          holds = more.holds;
          plain = node-plain {result = channel_trees more.after} l grown r.previous r.channels value.derives small-tree more.plain;
        }
