use Rattle.construction.specs.ConstructLaws.{SummedTo}
use Rattle.construction.proofs.own_sum.Given as goal

abbrev pub invariant-loop-i : goal.invariant-loop-i
invariant-loop-i l = SummedTo l.index l.state l.used l.values l.t l.c l.n l.i l.own
