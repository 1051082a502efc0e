-- The numbers that a file needs: to stop at each sum is to stop at the end.
use Rattle.std.specs.Prelude.{ℕ, ◌+◌, ◌≡◌, length, replicate}
use mathlib.Core.List.{List, map}
use Rattle.std.proofs.Common.{sym, arith, length-append}
use Rattle.std.proofs.Math.Path.{subst}
use Rattle.std.proofs.lemmas.List.{length-map}
use Rattle.language.specs.Syntax.{Input, Node, File, declared_types}
use Rattle.language.specs.Within.{Within}
use Rattle.language.specs.Estimate.{Estimate as Exact, stop, stopped}
use Rattle.language.specs.Cells.{channel_cells, input_cells, updates_numbers, numbers_needed}
use Rattle.index.specs.declared.Counts.{Counts}
use Rattle.index.specs.Sections.{counts_in, types_of}
use Rattle.index.specs.Tables.{type_table}
use Rattle.estimate.specs.declared.Estimate.{Estimate as Held}
use Rattle.estimate.specs.Stands.{Stands}
use Rattle.index.specs.Indexed.{Counted}
use Rattle.cells.specs.Counts.{Right, ChannelsTold, CountsChannels}
use Rattle.cells.specs.TableLaws.{right-nothing}
use Rattle.cells.specs.ChannelLaws.{all-channels-counted, inputs-counted}
use Rattle.answers.specs.Boards.{numbers_of}
use Rattle.checker.specs.Checks.{Needs}

channel-count : (P : File) → length (declared_types P) ≡ length P.inputs + length P.nodes
channel-count P = omega (
  arith,
  length-append (map (λ (i : Input). i.declared) P.inputs) (map (λ (n : Node). n.declared) P.nodes),
  length-map P.inputs (λ (i : Input). i.declared),
  length-map P.nodes (λ (n : Node). n.declared),
)

module _ {index table table₁ table₂ : List ℕ} {n : Counts} {u : Held} {all inputs cells heap : ℕ} (size : ℕ) (counts : n ≡ counts_in index) where
  pub needs-all : table ≡ replicate size 0 → CountsChannels index table (n.inputs + n.nodes) all table₁ → CountsChannels index table₁ n.inputs inputs table₂ → cells ≡ stop (all + inputs) → heap ≡ stop (cells + u.heap) →
      Needs index u (record { env = u.env; heap = heap; stack = u.stack })
  unfolding numbers_needed
  needs-all zeros v w e f = record { says = so }
    where
      so : (P : File) → Within P → types_of index ≡ type_table P.types → ChannelsTold index P → Counted (counts_in index) P → (xs : List Exact) → Stands u (updates_numbers xs) → numbers_of (record { env = u.env; heap = heap; stack = u.stack }) ≡ stopped (numbers_needed P xs)
      so P within types told k xs s =
          let c : Counted n P = subst (λ m. Counted m P) (sym counts) k in
          let right : Right index table P = subst (λ t. Right index t P) (sym zeros) (right-nothing size within types) in
          let one = all-channels-counted v P right told (omega (arith, c.input_count, c.node_count)) in
          let next : Right index table₁ P = v.right P right (record { told = told; few = omega (arith, channel-count P, c.input_count, c.node_count) }) in
          let two = inputs-counted w P next told (sym c.input_count) in
          let sum : heap ≡ stop (channel_cells P + input_cells P + (updates_numbers xs).heap) = omega (arith, one, two, e, f, s.heap) in
          λ i. record { env = s.env i; heap = sum i; stack = s.stack i }
