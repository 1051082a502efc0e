use Rattle.marking.specs.Marks.{MarkedFrom}
use Rattle.marking.proofs.visit_all.Given as goal

abbrev pub invariant-loop-i : goal.invariant-loop-i
invariant-loop-i l = MarkedFrom l.index l.state l.used l.initial.marks l.i l.marks
