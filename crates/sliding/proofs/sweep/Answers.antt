-- A cell at each turn, the lowest first.
use Rattle.sliding.specs.SweepLaws.{sweep-start, sweep-on}
use Rattle.sliding.proofs.sweep.Goals as goal

pub loop-cell-init : goal.loop-cell-init
loop-cell-init c = sweep-start _ _ _ _ c.requires

pub loop-cell-preserved : goal.loop-cell-preserved
loop-cell-preserved c = sweep-on c.requires c.loop-cell-test.true c.loop-cell.invariant c.pass-next.ensures
