use Rattle.node_order.specs.Lowest.{Below}
use Rattle.node_order.specs.Rows.{Lower}
use Rattle.node_order.proofs.reads_lower.Given as goal

abbrev pub invariant-loop-i : goal.invariant-loop-i
invariant-loop-i l = Below (Lower l.readings l.inputs) l.i
