use Rattle.cell_check.specs.FieldLaws.{LeftTo}
use Rattle.cell_check.proofs.fields_fit.Given as goal

abbrev pub invariant-loop-j : goal.invariant-loop-j
invariant-loop-j l = LeftTo l.index l.state l.cell l.tag l.n l.j l.left
