use Rattle.node_order.specs.RowLaws.{ReadingThrough}
use Rattle.node_order.proofs.read_through.Given as goal

abbrev pub invariant-loop-k : goal.invariant-loop-k
invariant-loop-k l = ReadingThrough l.inputs l.nodes l.initial.readings l.readings l.k
