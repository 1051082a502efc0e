use Rattle.sliding.specs.Sliding.{Sweeps}
use Rattle.sliding.proofs.sweep.Given as goal

abbrev pub invariant-loop-cell : goal.invariant-loop-cell
invariant-loop-cell l = Sweeps l.index l.initial.state l.initial.marks l.used l.cell l.next l.state l.marks
