use mathlib.Core.Bool.{false}
use mathlib.Core.Path.{◌≡◌}
use Rattle.node_order.specs.Rows.{self_in}
use Rattle.node_order.specs.Lowest.{Below}
use Rattle.node_order.proofs.reads_itself.Given as goal

abbrev pub invariant-loop-node : goal.invariant-loop-node
invariant-loop-node l = Below (λ k. self_in l.readings l.inputs k ≡ false) l.node
