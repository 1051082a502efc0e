-- Lines stored: at each turn the line of one frame more.
use Rattle.writer.specs.LinesLaws.{lines_start, line-fits, lines-on, lines_end}
use Rattle.writer.proofs.put_lines.Goals as goal

pub loop-i-init : goal.loop-i-init
loop-i-init c = lines_start _ _ _ _

pub put_line-at-requires : goal.put_line-at-requires
put_line-at-requires c = line-fits c.loop-i.invariant c.loop-i-test.true c.frame_line-line.ensures c.requires

pub loop-i-preserved : goal.loop-i-preserved
loop-i-preserved c = lines-on c.loop-i.invariant c.loop-i-test.true c.frame_line-line.ensures c.put_line-at.ensures

pub returns : goal.returns
returns c = lines_end c.loop-i.invariant c.loop-i-test.false
