use Rattle.cell_check.specs.HeapLaws.{HeapSoFar}
use Rattle.cell_check.proofs.cells_fit.Given as goal

abbrev pub invariant-loop-cell : goal.invariant-loop-cell
invariant-loop-cell l = HeapSoFar l.index l.types l.state l.cell
