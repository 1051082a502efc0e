use Rattle.index.specs.Sections.{types_of}
use Rattle.type_rows.specs.SumLaws.{Summed}
use Rattle.type_rows.proofs.own_sum.Given as goal

abbrev pub invariant-loop-i : goal.invariant-loop-i
invariant-loop-i l = Summed (types_of l.index) l.row l.t l.c l.n l.i l.sum
