use Rattle.text.specs.Bytes.{bytes_left}
use Rattle.writer.specs.LineLaws.{CountTo}
use Rattle.writer.proofs.byte_count.Given as goal

abbrev pub invariant-loop-f : goal.invariant-loop-f
invariant-loop-f l = CountTo l.line l.n l.c

abbrev pub decreases-loop-f : goal.decreases-loop-f
decreases-loop-f l = bytes_left l.line l.c.at
