-- A cell at each turn, the highest first.
use native.Mathlib.Omega.{arith}
use Rattle.marking.specs.MarkLaws.{marked_start, marked-on}
use Rattle.marking.proofs.visit_all.Goals as goal

pub loop-i-init : goal.loop-i-init
loop-i-init c = marked_start _ _ _ _

pub loop-i-preserved : goal.loop-i-preserved
loop-i-preserved c = marked-on _ c.loop-i-test.true (omega arith) c.loop-i.invariant c.visit.ensures
