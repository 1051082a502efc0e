use Rattle.cell_check.specs.CellLaws.{UnusedFrom}
use Rattle.cell_check.proofs.unused_clear.Given as goal

abbrev pub invariant-loop-j : goal.invariant-loop-j
invariant-loop-j l = UnusedFrom l.state l.cell l.n l.j
