use Prim.Native.Nat.{◌+◌}
use mathlib.Core.Bool.{false}
use mathlib.Core.Path.{◌≡◌}
use lib.ListN.{get_or}
use Rattle.node_order.specs.Rows.{ready_in}
use Rattle.node_order.specs.Lowest.{Below}
use Rattle.node_order.proofs.next_node.Given as goal

abbrev pub invariant-loop-i : goal.invariant-loop-i
invariant-loop-i l = Below (λ k. ready_in l.done (l.inputs + k) (get_or l.readings k 0) ≡ false) l.i
