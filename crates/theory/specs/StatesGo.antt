-- An accepted file with its three numbers lent, a valid state and an allowed line: an iteration in any order that respects the readings ends
-- with a state, whose trees are the plain machine's in that order; and two such orders end with the same trees.
use Rattle.std.specs.Prelude.{ℕ, ◌+◌, true, ◌≡◌, drop}
use mathlib.Core.List.{List, [], ◌++◌}
use Rattle.std.proofs.Math.Path.{sym, ap}
use Rattle.std.proofs.Common.{◌∙◌, subst, arith, length-append, length-drop}
use Rattle.std.proofs.Math.ListN.{length}
use Rattle.std.proofs.lemmas.List.{length-map}
use Rattle.language.specs.Result.{ok, bind}
use Rattle.language.specs.Syntax.{Input, Node, File}
use Rattle.language.specs.Within.{all_nil}
use Rattle.language.specs.Estimate.{Estimate}
use Rattle.language.specs.Cells.{updates_numbers}
use Rattle.language.specs.Heap.{Tree, tree_at}
use Rattle.language.specs.Slide.{State, slide, mem}
use Rattle.language.specs.Order.{node_readings, Respects}
use Rattle.language.specs.Line.{trees_fit}
use Rattle.language.specs.PlainMachine.{Nodes}
use Rattle.language.specs.Machine.{Board, build_all, iterate_in}
use Rattle.language.specs.Run.{channel_trees, Enough}
use Rattle.theory.specs.HeapValues.{env-grown, env-append, env-length}
use Rattle.theory.specs.Slides.{slide-keeps-trees}
use Rattle.theory.specs.TypedStates.{StateTyped, holds-linked}
use Rattle.theory.specs.SlideTyped.{slide-typed}
use Rattle.theory.specs.CellsKept.{state-cells-at-most}
use Rattle.theory.specs.Builds.{all_build}
use Rattle.theory.specs.AcceptedFiles.{AcceptedFile, enough-paid}
use Rattle.theory.specs.HeldChannels.{input_types, node_types, nodes-left}
use Rattle.theory.specs.LineExact.{inputs-count}
use Rattle.theory.specs.InputsGo.{inputs-cells, inputs-go, inputs-hold, fed-plain}
use Rattle.theory.specs.Totals.{total}
use Rattle.theory.specs.AnyOrder.{readings-length, same-trees}
use Rattle.theory.specs.NodeNumbers.{number_at, heap-total, updates-length}
use Rattle.theory.specs.NodesGo.{Ready, NodesGo, nodes-go}

-- the state after an iteration in an order, and that the plain machine has its trees
pub record StateGoes (P : File) (places : List ℕ) (b : Board) (s : State) (us : List Tree) : Type 0 where
  pub after : State
  pub is : iterate_in places P b s us ≡ ok after
  pub typed : StateTyped P after
  pub plain : Nodes P (channel_trees s) places (us ++ drop (length P.inputs) (channel_trees s)) (channel_trees after)

module _ {t : List ℕ} {P : File} {x : Estimate} (a : AcceptedFile t P x) {s : State} (typed : StateTyped P s) (us : List Tree) (fit : trees_fit P us (input_types P) ≡ true) where
  module _ {b : Board} (enough : Enough x b) {is : List ℕ} (r : Respects (node_readings P) is) where
    -- with the inputs put in
    abbrev fed : State
    fed = build_all P us s.heap []

    abbrev channels_now : List ℕ
    channels_now = fed.roots ++ drop (length P.inputs) s.roots

    nodes-ready : Ready P b s.roots a.sizes.updates [] fed.heap channels_now
    unfolding mem
    nodes-ready =
        let inputs = inputs-hold P us fit s.heap typed.holds.values in
        let built = all_build P us s.heap [] all_nil in
        let paid = enough-paid a enough in
        let few = state-cells-at-most a.within typed in
        let fed-few = inputs-cells P us fit a.within in
        let xs = a.sizes.updates in
        let count : length (node_readings P) ≡ length xs = readings-length P ∙ sym (updates-length a.derived.updates) in
        let heap : total (λ i. (number_at xs i).heap) (λ i. true) (length (node_readings P)) ≡ (updates_numbers xs).heap = ap (total (λ i. (number_at xs i).heap) (λ i. true)) count ∙ heap-total xs in
        record {
          values = inputs.values;
          channels = env-append inputs.channels (env-grown built.grown (nodes-left typed.holds.channels));
          previous = env-grown built.grown typed.holds.channels;
          slots = paid.slots;
          cells = omega (arith, built.count, paid.cells, heap);
          calls = paid.calls;
        }

    nodes-gone : NodesGo P b s.roots a.sizes.updates is fed.heap channels_now
    nodes-gone = nodes-go P b s.roots a.sizes.updates a.within a.derived.updates r.follows nodes-ready

    iterate-goes : iterate_in is P b s us ≡ ok (slide nodes-gone.after)
    unfolding iterate_in bind
    iterate-goes =
        let paid = enough-paid a enough in
        rw (inputs-go P us fit a.within b.cells s.heap (omega (arith, state-cells-at-most a.within typed)), nodes-gone.is)

    pub state-goes : StateGoes P is b s us
    state-goes = record {
      after = slide nodes-gone.after;
      is = iterate-goes;
      typed = slide-typed nodes-gone.after nodes-gone.holds;
      plain = subst (Nodes P (channel_trees s) is (us ++ drop (length P.inputs) (channel_trees s))) (sym (slide-keeps-trees nodes-gone.after (holds-linked nodes-gone.holds))) (fed-plain typed us nodes-gone.plain);
    }

  -- a tree for each channel
  trees-for-all : length (us ++ drop (length P.inputs) (channel_trees s)) ≡ length P.inputs + length P.nodes
  trees-for-all =
      let inputs = length-map P.inputs (λ (i : Input). i.declared) in
      let nodes = length-map P.nodes (λ (n : Node). n.declared) in
      let roots = env-length typed.holds.channels in
      omega (
        arith,
        length-append us (drop (length P.inputs) (channel_trees s)),
        length-drop (length P.inputs) (channel_trees s),
        length-map s.roots (tree_at s.heap),
        roots,
        length-append (input_types P) (node_types P.nodes),
        inputs,
        nodes,
        inputs-count P us fit,
      )

  -- ---- two orders, on any two boards that lend the numbers
  pub same-values : {b d : Board} (m : Enough x b) (n : Enough x d) {is js : List ℕ} (q : Respects (node_readings P) is) (r : Respects (node_readings P) js) →
      channel_trees (state-goes m q).after ≡ channel_trees (state-goes n r).after
  same-values m n q r = same-trees q r trees-for-all (state-goes m q).plain (state-goes n r).plain
