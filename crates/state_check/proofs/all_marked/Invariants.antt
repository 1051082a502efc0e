use Rattle.state_check.specs.LoadLaws.{MarkedTo}
use Rattle.state_check.proofs.all_marked.Given as goal

abbrev pub invariant-loop-i : goal.invariant-loop-i
invariant-loop-i l = MarkedTo l.marks l.i
