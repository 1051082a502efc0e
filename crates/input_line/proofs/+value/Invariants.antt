use Prim.Native.Nat.{◌+◌, ◌*◌}
use Rattle.text.specs.Places.{bytes_left}
use Rattle.input_line.specs.FieldsLaws.{FieldsLeft}
use Rattle.input_line.proofs.+value.Given as goal

abbrev pub decreases-construct : goal.decreases-construct
decreases-construct l = 2 * bytes_left l.line.now l.c.at + 1

abbrev pub decreases-value : goal.decreases-value
decreases-value l = 2 * bytes_left l.line.now l.c.at

abbrev pub invariant-construct-loop-j : goal.invariant-construct-loop-j
invariant-construct-loop-j l = FieldsLeft l.line l.index l.word l.constructor l.n l.initial.next l.j l.size l.next
