use Rattle.writer.specs.LinesLaws.{LengthTo}
use Rattle.writer.proofs.strict_length.Given as goal

abbrev pub invariant-loop-i : goal.invariant-loop-i
invariant-loop-i l = LengthTo l.text l.index l.frames l.total l.i
