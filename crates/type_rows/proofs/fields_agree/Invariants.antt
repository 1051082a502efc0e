use Rattle.index.specs.Sections.{types_of}
use Rattle.type_rows.specs.AgreeLaws.{AgreeFrom}
use Rattle.type_rows.proofs.fields_agree.Given as goal

abbrev pub invariant-loop-i : goal.invariant-loop-i
invariant-loop-i l = AgreeFrom (types_of l.index) l.row l.t l.c l.i
