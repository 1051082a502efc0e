-- The readings of a file's nodes as a row of sets: the row tells which node reads which, and so the frame of refusal 25.
use Prim.Native.Nat.{ℕ, suc, ◌+◌, ◌-◌, ◌≤◌, ◌<◌}
use Rattle.std.specs.Prelude.{List, [], ◌∷◌, Option, Some, None, ◌≡◌, refl, ltb, eqb}
use Rattle.std.specs.Option.{unwrap_or}
use Rattle.std.proofs.Common.{sym, ap, ◌∙◌, subst, ltb-true, ltb-false, eq-eqb, ne_eqb}
use native.Mathlib.Omega.{arith}
use Rattle.std.proofs.Math.ListN.{length}
use Rattle.language.specs.Refusals.{no_frame, self_reading}
use Rattle.language.specs.Result.{Result, no, one_of, choose}
use Rattle.language.specs.Syntax.{File, node_at_of, node_channel, channel_frame}
use Rattle.language.specs.Within.{Within}
use Rattle.language.specs.Slide.{mem}
use Rattle.language.specs.Order.{readings, nodes_among, node_readings, Acyclic, LowestSelfReader, orderly}
use Rattle.theory.specs.Choices.{by-test}
use Rattle.theory.specs.Places.{equal_or_not}
use Rattle.theory.specs.Tests.{verdict, verdict-refused}
use Rattle.theory.specs.ReadThrough.{below}
use Rattle.theory.specs.AnyOrder.{readings-length, read-by}
use Rattle.theory.specs.Orderly.{readings-named, rows-acyclic, row-lowest, acyclic-passes, lowest-refused}
use Rattle.index.specs.declared.Counts.{Counts}
use Rattle.index.specs.Sections.{counts_in}
use Rattle.index.specs.Indexed.{Indexed}
use Rattle.heads.specs.Places.{channel_line_of, channel-line}
use Rattle.channel_sets.specs.Sets.{in_set}
use Rattle.channel_sets.specs.SetLaws.{in-set}
use Rattle.node_order.specs.Lowest.{LowestBelow, lowest_at, none_passes}
use Rattle.node_order.specs.Rows.{Table, SelfReader}
use Rattle.node_order.specs.Files.{Gathered, OrderFrame, no-frame, frame_of, JudgesOrder}

-- ---- a node among channels
pub among-mem : (inputs j : ℕ) (cs : List ℕ) → mem j (nodes_among inputs cs) ≡ mem (inputs + j) cs
unfolding mem nodes_among choose one_of
among-mem inputs j [] = refl
among-mem inputs j (c ∷ cs) = by-test (ltb c inputs)
    (λ e. rw e (among-mem inputs j cs ∙ sym (ap (λ b. one_of b (mem (inputs + j) cs)) (ne_eqb (inputs + j) c (λ same. omega (arith, ltb-true c inputs e, same))))))
    (λ e. rw e ((λ i. one_of (shifted (ltb-false c inputs e) i) (among-mem inputs j cs i))))
  where
    shifted : inputs ≤ c → eqb j (c - inputs) ≡ eqb (inputs + j) c
    shifted le = equal_or_not j (c - inputs)
        (λ same. eq-eqb j (c - inputs) same ∙ sym (eq-eqb (inputs + j) c (omega (arith, le, same))))
        (λ other. ne_eqb j (c - inputs) other ∙ sym (ne_eqb (inputs + j) c (λ same. other (omega (arith, le, same)))))

pub gathered-table : {P : File} {row : List ℕ} → Gathered P row → Table (length P.inputs) row (node_readings P)
gathered-table {P} g = record {
  each = λ i j in-i in-j.
      ap (λ (x : ℕ). in_set x (length P.inputs + j)) (g.each i (omega (arith, in-i, readings-length P))) ∙ in-set (readings (node_at_of P i).update) (length P.inputs + j) ∙
      sym (among-mem (length P.inputs) j (readings (node_at_of P i).update)) ∙ ap (mem j) (sym (read-by P i));
}

-- ---- the frame of refusal 25
module _ {index row : List ℕ} {n : Counts} (e : n ≡ counts_in index) {o : Option ℕ} (s : SelfReader row n.inputs n.nodes o) where
  module _ {text : List ℕ} {P : File} (x : Indexed text index P) (g : Gathered P row) where
    inputs_are : n.inputs ≡ length P.inputs
    inputs_are = ap (λ (k : Counts). k.inputs) e ∙ sym x.counted.input_count

    nodes-are : n.nodes ≡ length P.nodes
    nodes-are = ap (λ (k : Counts). k.nodes) e ∙ sym x.counted.node_count

    lowest : LowestBelow (λ k. below (node_readings P) (length (node_readings P)) k k) n.nodes o
    lowest = s.says (node_readings P) (readings-length P ∙ sym nodes-are) (omega (arith, nodes-are, x.within.few_nodes)) (readings-named x.within)
        (subst (λ m. Table m row (node_readings P)) (sym inputs_are) (gathered-table g))

  pub order-none : {r : Option ℕ} → o ≡ None → r ≡ None → JudgesOrder index row r
  order-none c q = rw q (record { says = λ x g. no-frame (no-cycle x g (rw c at (lowest x g))) })
    where
      no-cycle : {text : List ℕ} {P : File} → Indexed text index P → Gathered P row → LowestBelow (λ k. below (node_readings P) (length (node_readings P)) k k) n.nodes None → Acyclic P
      no-cycle {P = P} x g (none_passes low) = rows-acyclic x.within (λ k less. low.each k (omega (arith, less, nodes-are x g, readings-length P)))

  module _ {i : ℕ} (c : o ≡ Some i) where
    pub order-refused : {frame line : ℕ} → line ≡ channel_line_of index (n.inputs + i) → frame ≡ line + 1 → JudgesOrder index row (Some frame)
    order-refused {frame} {line} l q = record {
      says = λ {text} {P} x g.
          let place : i < length P.nodes = omega (arith, s.less c, nodes-are x g) in
          let channel : n.inputs + i ≡ node_channel P i = omega (arith, inputs_are x g) in
          let there = channel-line (node_channel P i) x (omega (arith, place)) in
          frame_of {frame = frame} (self-reader x place (rw c at (lowest x g))) (omega (arith, q, l ∙ ap (channel_line_of index) channel ∙ there));
    }
      where
        self-reader : {text : List ℕ} {P : File} → Indexed text index P → i < length P.nodes → LowestBelow (λ k. below (node_readings P) (length (node_readings P)) k k) n.nodes (Some i) → LowestSelfReader P i
        self-reader x place (lowest_at less at low) = row-lowest x.within i place at low.each

-- ---- what the frame decides
module _ {P : File} where
  pub orderly-verdict : {r : Option ℕ} → Within P → OrderFrame P r → {A : Type 0} (x : Result A) → orderly P x ≡ verdict self_reading (unwrap_or r no_frame) x
  unfolding verdict
  orderly-verdict within (no-frame acyclic) x = acyclic-passes P x acyclic
  orderly-verdict within (frame_of {i} node e) x = lowest-refused within node x ∙ (let next : channel_frame P (node_channel P i) ≡ suc (length P.types + length P.functions + node_channel P i) = omega arith in rw (e ∙ next, next))

  -- where there is none it goes on; else it is refused there
  pub orderly-passes : Within P → OrderFrame P None → {A : Type 0} (x : Result A) → orderly P x ≡ x
  unfolding verdict
  orderly-passes within o x = orderly-verdict within o x

  pub orderly-refused : {frame : ℕ} → Within P → OrderFrame P (Some frame) → {A : Type 0} (x : Result A) → orderly P x ≡ no self_reading frame
  orderly-refused {frame} within o x = orderly-verdict within o x ∙ verdict-refused self_reading frame x (named o)
    where
      named : OrderFrame P (Some frame) → frame ≡ 0 → ⊥
      named (frame_of node e) z = omega (arith, e, z)

  pub frame-acyclic : OrderFrame P None → Acyclic P
  frame-acyclic (no-frame acyclic) = acyclic
