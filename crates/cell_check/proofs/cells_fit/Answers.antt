-- A cell at each turn, until one is not right.
use Rattle.cell_check.specs.HeapLaws.{heap-start, heap-on, heap-not}
use Rattle.cell_check.proofs.cells_fit.Goals as goal

pub loop-cell-init : goal.loop-cell-init
loop-cell-init c = heap-start _ _ _

pub returns-then-not-cell_fits : goal.returns-then-not-cell_fits
returns-then-not-cell_fits c = heap-not c.loop-cell.invariant c.cell_fits.ensures c.loop-cell-test.true c.if-not-cell_fits.true

pub loop-cell-preserved : goal.loop-cell-preserved
loop-cell-preserved c = heap-on c.loop-cell.invariant c.cell_fits.ensures c.if-not-cell_fits.false
