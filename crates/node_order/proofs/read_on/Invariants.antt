use Rattle.node_order.specs.RowLaws.{ReadingOn}
use Rattle.node_order.proofs.read_on.Given as goal

abbrev pub invariant-loop-i : goal.invariant-loop-i
invariant-loop-i l = ReadingOn l.inputs l.k l.initial.readings l.readings l.i
