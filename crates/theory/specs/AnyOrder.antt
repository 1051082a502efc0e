-- The plain machine's trees after a line are the same in every order that respects the readings.
use Rattle.std.specs.Prelude.{ℕ, ◌+◌, ◌-◌, ◌≤◌, ◌<◌, false, ◌≡◌, refl, eqb}
use mathlib.Core.List.{List, [], ◌∷◌, ◌++◌}
use Rattle.std.proofs.Math.Bool.{true}
use Rattle.std.proofs.Math.Option.{some}
use Rattle.std.proofs.Math.Path.{sym, subst}
use Rattle.std.proofs.Common.{◌∙◌, arith, eqb-true, set}
use Rattle.std.proofs.Math.ListN.{length, get_elem? as look, length-set, get_or-map}
use Rattle.std.proofs.lemmas.List.{length-map}
use Rattle.language.specs.Syntax.{Node, File, no_node, node_at_of, node_channel}
use Rattle.language.specs.Within.{All}
use Rattle.language.specs.Sizes.{size_of_type}
use Rattle.language.specs.Heap.{Tree, vnil}
use Rattle.language.specs.Values.{tree_size}
use Rattle.language.specs.Slide.{mem}
use Rattle.language.specs.Order.{readings, nodes_among, node_readings, read_by, Follows, f_none, f_next, Respects}
use Rattle.language.specs.PlainMachine.{Derives, Nodes, no_nodes, next_node}
use Rattle.theory.specs.Lists.{false-is-not-true, look-beyond, same-list, look-set-same, look-set-other}
use Rattle.theory.specs.Choices.{by-test, one-cases}
use Rattle.theory.specs.Members.{mem-head, mem-tail}
use Rattle.theory.specs.OneTree.{one-result}
use Rattle.theory.specs.Places.{below_or_not, equal_or_not}
use Rattle.theory.specs.OrderComplete.{mem-snoc, mem-snoc-last, mem-snoc-cases, undone-before}
use Rattle.theory.specs.SameReadings.{derives-same, readings-are}

-- what is done is not done again
pub not-again : {R : List (List ℕ)} {done is : List ℕ} → Follows R done is → (j : ℕ) → mem j done ≡ true → (i : ℕ) → mem i is ≡ true → j ≡ i → ⊥
unfolding mem
not-again f_none j e i there same = false-is-not-true there
not-again (f_next {i = k} {done} {is} less new all rest) j e i there same = equal_or_not i k
    (λ at. false-is-not-true (sym new ∙ subst (λ x. mem x done ≡ true) (same ∙ at) e))
    (λ other. not-again rest j (mem-snoc j k done e) i (later i k is there other) same)
  where
    later : (i k : ℕ) (is : List ℕ) → mem i (k ∷ is) ≡ true → (i ≡ k → ⊥) → mem i is ≡ true
    later i k is there other = one-cases (eqb i k) (mem i is) there (λ z. absurd (other (eqb-true i k z))) (λ z. z)

-- a row of readings for each node
pub readings-length : (P : File) → length (node_readings P) ≡ length P.nodes
unfolding node_readings
readings-length P = length-map P.nodes _

module _ (P : File) where
  -- what a node reads, as the table of readings has it
  pub read-by : (i : ℕ) → read_by (node_readings P) i ≡ nodes_among (length P.inputs) (readings (node_at_of P i).update)
  unfolding node_readings nodes_among readings
  read-by i = get_or-map (λ (n : Node). nodes_among (length P.inputs) (readings n.update)) P.nodes i no_node

  -- ---- a channel that is not updated keeps its tree
  pub keeps : {last now vs : List Tree} {is : List ℕ} → Nodes P last is now vs → (c : ℕ) → ((i : ℕ) → mem i is ≡ true → c ≡ node_channel P i → ⊥) → look vs c ≡ look now c
  keeps no_nodes c other = refl
  keeps (next_node {i} {is} {now} {v} d small rest) c other =
      keeps rest c (λ k there. other k (mem-tail k i is there)) ∙ look-set-other now (node_channel P i) c v (other i (mem-head i is))

  pub keeps-length : {last now vs : List Tree} {is : List ℕ} → Nodes P last is now vs → length vs ≡ length now
  keeps-length no_nodes = refl
  keeps-length (next_node {i} {now} {v} d small rest) = keeps-length rest ∙ length-set now (node_channel P i) v

  -- ---- a node is settled: its tree is the one that its update derives from the trees after the line
  pub record Settled (last vs : List Tree) (i : ℕ) : Type 0 where
    pub tree : Tree
    pub at : look vs (node_channel P i) ≡ some tree
    pub derives : Derives P (record { now = vs; last = last }) vnil (node_at_of P i).update tree
    pub small : tree_size P tree ≤ size_of_type (node_at_of P i).declared

  -- two lists of trees agree at the inputs and at the nodes done
  pub record Agree (done : List ℕ) (now vs : List Tree) : Type 0 where
    pub at_inputs : (c : ℕ) → c < length P.inputs → look now c ≡ look vs c
    pub at_done : (j : ℕ) → mem j done ≡ true → look now (node_channel P j) ≡ look vs (node_channel P j)

  -- then a node that reads only those derives the same from both
  derives-from : {last now vs : List Tree} {done : List ℕ} (i : ℕ) {v : Tree} → Agree done now vs → All (λ j. mem j done ≡ true) (read_by (node_readings P) i) →
      Derives P (record { now = now; last = last }) vnil (node_at_of P i).update v → Derives P (record { now = vs; last = last }) vnil (node_at_of P i).update v
  derives-from i agree all d = derives-same refl (readings-are (length P.inputs) (readings (node_at_of P i).update) agree.at_inputs agree.at_done (rw (read-by i) at all)) d

  agree-sym : {now vs : List Tree} {done : List ℕ} → Agree done now vs → Agree done vs now
  agree-sym agree = record { at_inputs = λ c less. sym (agree.at_inputs c less); at_done = λ j e. sym (agree.at_done j e) }

  kept-agree : {last now vs : List Tree} {done is : List ℕ} → Follows (node_readings P) done is → Nodes P last is now vs → Agree done now vs
  kept-agree f p = record {
    at_inputs = λ c less. sym (keeps p c (λ i there e. omega arith));
    at_done = λ j e. sym (keeps p (node_channel P j) (λ i there same. not-again f j e i there (omega arith)));
  }

  -- ---- in an order that respects the readings every node is settled
  pub settles : {last now vs : List Tree} {done is : List ℕ} → Follows (node_readings P) done is → Nodes P last is now vs → length P.inputs + length (node_readings P) ≤ length now → (i : ℕ) → mem i is ≡ true → Settled last vs i
  unfolding mem
  settles f_none no_nodes room i there = false-is-not-true there
  settles {last} {now} {vs} (f_next {done} {is} less new all rest) (next_node {i = k} {v} d small p) room i there = equal_or_not i k
      (λ at. subst (Settled last vs) (sym at) (record {
        tree = v;
        at = sym ((kept-agree rest p).at_done k (mem-snoc-last k done)) ∙ look-set-same now (node_channel P k) v (omega arith);
        derives = derives-from {done = done} k (kept-agree (f_next less new all rest) (next_node d small p)) all d;
        small = small;
      }))
      (λ other. settles {now = set now (node_channel P k) v} rest p (omega (arith, length-set now (node_channel P k) v)) i (one-cases (eqb i k) (mem i is) there (λ z. absurd (other (eqb-true i k z))) (λ z. z)))

  -- ---- and where every node is settled, any order that respects the readings leads there
  pub leads : {last now vs : List Tree} {done is : List ℕ} → Follows (node_readings P) done is → ((i : ℕ) → i < length (node_readings P) → Settled last vs i) → Agree done now vs →
      ((i : ℕ) → i < length (node_readings P) → (mem i done ≡ false → mem i is ≡ true)) → length now ≡ length P.inputs + length (node_readings P) → length vs ≡ length now → Nodes P last is now vs
  unfolding mem
  leads {last} {now} {vs} {done} f_none settled agree every room same = subst (Nodes P last [] now) (same-list now vs each) no_nodes
    where
      node_done : (j : ℕ) → j < length (node_readings P) → mem j done ≡ true
      node_done j less = by-test (mem j done) (λ z. z) (λ z. false-is-not-true (every j less z))

      each : (c : ℕ) → look now c ≡ look vs c
      each c = below_or_not c (length P.inputs) (agree.at_inputs c) (λ le.
          below_or_not c (length now)
          (λ less. let is : length P.inputs + (c - length P.inputs) ≡ c = omega arith in subst (λ x. look now x ≡ look vs x) is (agree.at_done (c - length P.inputs) (node_done _ (omega arith))))
          (λ beyond. look-beyond now c beyond ∙ sym (look-beyond vs c (omega arith))))
  leads {last} {now} {vs} (f_next {i} {done} {is} less new all rest) settled agree every room same =
      let s = settled i less in
      next_node (derives-from i (agree-sym agree) all s.derives) s.small
      (leads {now = set now (node_channel P i) s.tree} rest settled (record {
        at_inputs = λ c low. look-set-other now (node_channel P i) c s.tree (λ e. omega arith) ∙ agree.at_inputs c low;
        at_done = λ j e. equal_or_not j i
            (λ at. rw at (look-set-same now (node_channel P i) s.tree (omega arith) ∙ sym s.at))
            (λ other. look-set-other now (node_channel P i) (node_channel P j) s.tree (λ e. other (omega arith)) ∙
            mem-snoc-cases j i done e (agree.at_done j) (λ z. absurd (other z)));
      }) (λ j low left. one-cases (eqb j i) (mem j is) (every j low (undone-before j i done left)) (λ z. false-is-not-true (sym left ∙ subst (λ x. mem x (done ++ (i ∷ [])) ≡ true) (sym (eqb-true j i z)) (mem-snoc-last i done))) (λ z. z))
      (length-set now (node_channel P i) s.tree ∙ room) (same ∙ sym (length-set now (node_channel P i) s.tree)))

  -- ---- every order that respects the readings leads to the same trees
  pub any_order : {last now vs : List Tree} {is js : List ℕ} → Respects (node_readings P) is → Respects (node_readings P) js → length now ≡ length P.inputs + length P.nodes →
      Nodes P last is now vs → Nodes P last js now vs
  any_order {now} r s room p = let all : length now ≡ length P.inputs + length (node_readings P) = omega (arith, readings-length P) in
      leads s.follows (λ i less. settles r.follows p (omega arith) i (r.every i less)) (kept-agree r.follows p) (λ i less left. s.every i less) all (keeps-length p)

-- ---- one tree for each channel, whatever the order
module _ {P : File} {is js : List ℕ} (r : Respects (node_readings P) is) (s : Respects (node_readings P) js) where
  pub same-trees : {last now vs ws : List Tree} → length now ≡ length P.inputs + length P.nodes → Nodes P last is now vs → Nodes P last js now ws → vs ≡ ws
  same-trees room p q = one-result (any_order P r s room p) q
