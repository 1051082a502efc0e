use Rattle.writer.specs.LinesLaws.{LinesTo}
use Rattle.writer.proofs.put_lines.Given as goal

abbrev pub invariant-loop-i : goal.invariant-loop-i
invariant-loop-i l = LinesTo l.text l.index l.frames l.initial.buffer l.at l.i l.buffer
