-- The next node of the definition's order is the one that is found by sets.
use Prim.Native.Nat.{ℕ, zero, suc, ◌+◌, ◌-◌, ◌^◌, ◌≤◌, ◌<◌}
use mathlib.Core.List.{List, [], ◌∷◌, ◌++◌}
use Rattle.std.proofs.Math.Bool.{true}
use Rattle.std.specs.Prelude.{not, Option, Some, None, ◌≡◌, length, get_or, ltb}
use Rattle.std.proofs.Math.Path.{refl, ap}
use Rattle.std.proofs.Common.{sym, ◌∙◌, subst, arith, ltb-true, ltb-false, eq-eqb, ne_eqb}
use Rattle.std.proofs.Math.Dec.{eqb}
use Rattle.std.specs.Int.Bits.{bit_or}
use Rattle.std.proofs.lemmas.Nat.{or_lt}
use Rattle.std.proofs.Math.Pow.{pow-lt, ones_lt}
use Rattle.language.specs.Result.{both, one_of, choose}
use Rattle.language.specs.Syntax.{File, no_node, node_at_of}
use Rattle.language.specs.Scope.{outer_scope}
use Rattle.language.specs.Within.{All, all_nil, all_cons, Within}
use Rattle.language.specs.Slide.{mem}
use Rattle.language.specs.Order.{readings, nodes_among, node_readings, all_mem, ready, and_then, order_from}
use Rattle.theory.specs.Lists.{both_left, both_right, both_true, false-is-not-true}
use Rattle.theory.specs.Alls.{all_get_d, all_map}
use Rattle.theory.specs.Choices.{by-test, one_left, one_right, one_none}
use Rattle.theory.specs.Members.{mem-append, all-mem}
use Rattle.theory.specs.Places.{equal_or_not}
use Rattle.theory.specs.AnyOrder.{readings-length, read-by}
use Rattle.theory.specs.Orderly.{readings-within}
use Rattle.index.specs.Indexed.{Indexed}
use Rattle.channel_sets.specs.Sets.{word_bits, in_set, set_of}
use Rattle.channel_sets.specs.SetLaws.{in-union, in-single, in-first, not-in-first, in-set, part-has, is-part, set-less}
use Rattle.ends.specs.Told.{TellsReadings}
use Rattle.node_order.specs.Lowest.{LowestBelow}
use Rattle.node_order.specs.LowestLaws.{lowest-same, lowest-found, lowest-absent}
use Rattle.node_order.specs.Rows.{ready_in}
use Rattle.node_order.specs.Files.{Gathered, DoneIs}

-- ---- the channels that an update names
pub readings-channels : {P : File} → Within P → (i : ℕ) → i < length P.nodes → All (λ c. c < length P.inputs + length P.nodes) (readings (node_at_of P i).update)
unfolding outer_scope
readings-channels within i less = readings-within (all_get_d within.nodes i no_node less).update

-- ---- all that is read is done
module _ {inputs nodes : ℕ} (few : inputs + nodes ≤ word_bits) {done : List ℕ} {set : ℕ} (d : DoneIs inputs nodes done set) where
  -- a channel of the set: an input, or a node done
  in-done : (c : ℕ) → c < inputs + nodes → inputs ≤ c → in_set set c ≡ mem (c - inputs) done
  in-done c less le = let there : inputs + (c - inputs) ≡ c = omega (arith, le) in subst (λ x. in_set set x ≡ mem (c - inputs) done) there (d.at_node (c - inputs) (omega (arith, less, le)))

  all_there : (cs : List ℕ) → All (λ c. c < inputs + nodes) cs → ((c : ℕ) → mem c cs ≡ true → in_set set c ≡ true) → all_mem (nodes_among inputs cs) done ≡ true
  unfolding all_mem nodes_among choose mem
  all_there [] all_nil f = refl
  all_there (c ∷ cs) (all_cons less all) f = by-test (ltb c inputs)
      (λ e. rw e (all_there cs all (λ k there. f k (one_right (eqb k c) there))))
      (λ e. rw e (both_true (sym (in-done c less (ltb-false c inputs e)) ∙ f c (one_left (mem c cs) (eq-eqb c c refl))) (all_there cs all (λ k there. f k (one_right (eqb k c) there)))))

  there-all : (cs : List ℕ) → All (λ c. c < inputs + nodes) cs → all_mem (nodes_among inputs cs) done ≡ true → All (λ c. in_set set c ≡ true) cs
  unfolding all_mem nodes_among choose
  there-all [] all_nil e = all_nil
  there-all (c ∷ cs) (all_cons less all) e = by-test (ltb c inputs)
      (λ z. all_cons (d.at_input c (ltb-true c inputs z)) (there-all cs all (rw z at e)))
      (λ z. let both-parts : both (mem (c - inputs) done) (all_mem (nodes_among inputs cs) done) ≡ true = rw z at e in
      all_cons (in-done c less (ltb-false c inputs z) ∙ both_left _ _ both-parts) (there-all cs all (both_right (mem (c - inputs) done) _ both-parts)))

  all_done : (cs : List ℕ) → All (λ c. c < inputs + nodes) cs → eqb (bit_or set (set_of cs)) set ≡ all_mem (nodes_among inputs cs) done
  all_done cs all = by-test (all_mem (nodes_among inputs cs) done)
      (λ e. eq-eqb _ _ (is-part word_bits (set_of cs) set (set-less word_bits (all_map (λ c less. omega (arith, less, few)) all)) d.small (λ c less there. all-mem (there-all cs all e) c (sym (in-set cs c) ∙ there))) ∙ sym e)
      (λ e. ne_eqb _ _ (λ same. false-is-not-true (sym e ∙ all_there cs all (λ c there. part-has (set_of cs) set same c (in-set cs c ∙ there)))) ∙ sym e)

-- ---- the next node
module _ {P : File} (within : Within P) {row done : List ℕ} {set : ℕ} (g : Gathered P row) (d : DoneIs (length P.inputs) (length P.nodes) done set) where
  few-channels : length P.inputs + length P.nodes ≤ word_bits
  few-channels = omega (arith, within.few_inputs, within.few_nodes)

  ready-same : (i : ℕ) → i < length P.nodes → ready_in set (length P.inputs + i) (get_or row i 0) ≡ ready (node_readings P) done i
  unfolding ready_in ready
  ready-same i less = (λ k. both (not (d.at_node i less k)) ((ap (λ (x : ℕ). eqb (bit_or set x) set) (g.each i less) ∙
      all_done few-channels d (readings (node_at_of P i).update) (readings-channels within i less) ∙ ap (λ js. all_mem js done) (sym (read-by P i))) k))

  next : {r : Option ℕ} → LowestBelow (λ i. ready_in set (length P.inputs + i) (get_or row i 0)) (length P.nodes) r → LowestBelow (ready (node_readings P) done) (length (node_readings P)) r
  next {r} l = subst (λ n. LowestBelow (ready (node_readings P) done) n r) (sym (readings-length P)) (lowest-same ready-same l)

  pub next-found : {r : ℕ} (m : ℕ) → LowestBelow (λ i. ready_in set (length P.inputs + i) (get_or row i 0)) (length P.nodes) (Some r) →
      order_from (node_readings P) (suc m) done ≡ r ∷ order_from (node_readings P) m (done ++ (r ∷ []))
  unfolding order_from and_then
  next-found m l = ap (λ o. and_then o (λ i. order_from (node_readings P) m (done ++ (i ∷ [])))) (lowest-found (next l))

  pub next-none : (m : ℕ) → LowestBelow (λ i. ready_in set (length P.inputs + i) (get_or row i 0)) (length P.nodes) None → order_from (node_readings P) m done ≡ []
  unfolding order_from and_then
  next-none zero l = refl
  next-none (suc m) l = ap (λ o. and_then o (λ i. order_from (node_readings P) m (done ++ (i ∷ [])))) (lowest-absent (next l))

-- ---- the set as nodes are done
pub done_none : (inputs nodes : ℕ) → inputs < word_bits → DoneIs inputs nodes [] (2 ^ inputs - 1)
unfolding mem
done_none inputs nodes less = record {
  small = omega (arith, ones_lt inputs, pow-lt less);
  at_input = λ c low. in-first inputs c low;
  at_node = λ j low. not-in-first inputs (inputs + j) (omega arith);
}

pub done_more : {inputs nodes : ℕ} {done : List ℕ} {set : ℕ} (i : ℕ) → inputs + nodes ≤ word_bits → i < nodes → DoneIs inputs nodes done set → DoneIs inputs nodes (done ++ (i ∷ [])) (bit_or set (2 ^ (inputs + i)))
unfolding mem one_of
done_more {inputs} {nodes} {done} {set} i few less d = record {
  small = or_lt word_bits set (2 ^ (inputs + i)) d.small (pow-lt within);
  at_input = λ c low. in-union set (2 ^ (inputs + i)) c ∙ one_left (in_set (2 ^ (inputs + i)) c) (d.at_input c low);
  at_node = λ j low. in-union set (2 ^ (inputs + i)) (inputs + j) ∙ (λ k. one_of (d.at_node j low k) ((in-single (inputs + i) (inputs + j) ∙ same j) k)) ∙ sym (mem-append j done (i ∷ []) ∙ ap (one_of (mem j done)) (one_none (eqb j i)));
}
  where
    within : inputs + i < word_bits
    within = omega (arith, few, less)

    same : (j : ℕ) → eqb (inputs + j) (inputs + i) ≡ eqb j i
    same j = equal_or_not j i (λ e. eq-eqb (inputs + j) (inputs + i) (ap (λ x. inputs + x) e) ∙ sym (eq-eqb j i e)) (λ other. ne_eqb (inputs + j) (inputs + i) (λ e. other (omega (arith, e))) ∙ sym (ne_eqb j i other))

-- ---- what the walk over the updates gathered
pub readings-gathered : {text index row : List ℕ} {P : File} → Indexed text index P → TellsReadings text index row → Gathered P row
readings-gathered {P = P} x t = record { each = λ i less. (t.says P x i less).is (wide x.within (readings-channels x.within i less)) }
  where
    wide : Within P → {cs : List ℕ} → All (λ c. c < length P.inputs + length P.nodes) cs → All (λ c. c < word_bits) cs
    wide w all = all_map (λ c less. omega (arith, less, w.few_inputs, w.few_nodes)) all
