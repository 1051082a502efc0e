use Rattle.state_words.specs.Words.{field_at, row_of}
use Rattle.marking.specs.Marks.{Touched}
use Rattle.marking.proofs.mark_fields.Given as goal

abbrev pub invariant-loop-j : goal.invariant-loop-j
invariant-loop-j l = Touched (row_of (field_at l.state l.cell) l.j) l.initial.marks l.marks
