use Rattle.instances.specs.FindLaws.{Passed}
use Rattle.instances.proofs.walk.Given as goal

abbrev pub invariant-loop-i : goal.invariant-loop-i
invariant-loop-i l = Passed l.list l.used l.f l.sizes l.i
