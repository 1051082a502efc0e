-- A part at each turn.
use Rattle.ends.specs.ToldLaws.{lines-on, lines_end}
use Rattle.ends.proofs.lines_ends.Goals as goal

pub loop-k-preserved : goal.loop-k-preserved
loop-k-preserved c = lines-on _ _ _ _ _ _ c.loop-k-test.true c.loop-k.invariant c.part_start.ensures c.line_ends.ensures

pub returns : goal.returns
returns c = lines_end _ _ _ _ _ _ c.loop-k.auto.k-end c.loop-k-test.false c.loop-k.invariant
