use Rattle.text.specs.Bytes.{bytes_left}
use Rattle.writer.specs.LineLaws.{LineTo}
use Rattle.writer.proofs.put_line.Given as goal

abbrev pub invariant-loop-f : goal.invariant-loop-f
invariant-loop-f l = LineTo l.line l.from l.initial.buffer l.at l.c l.buffer

abbrev pub decreases-loop-f : goal.decreases-loop-f
decreases-loop-f l = bytes_left l.line l.c.at
