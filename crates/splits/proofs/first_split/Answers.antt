-- The first split, size by size; where there is none, or no room, nothing is written.
use Rattle.splits.specs.StartLaws.{written_on, written_all, starts-nothing}
use Rattle.splits.proofs.first_split.Goals as goal

pub returns-then-r-eq0 : goal.returns-then-r-eq0
returns-then-r-eq0 c = starts-nothing _ _ _ _ c.if-r-eq0.true

pub loop-i-preserved : goal.loop-i-preserved
loop-i-preserved c = written_on c.loop-i.invariant c.loop-i-test.true

pub returns : goal.returns
returns c = written_all c.loop-i.invariant c.loop-i-test.false c.if-n-r.false
