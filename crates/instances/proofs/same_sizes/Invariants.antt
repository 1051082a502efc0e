use Rattle.instances.specs.FindLaws.{SameBefore}
use Rattle.instances.proofs.same_sizes.Given as goal

abbrev pub invariant-loop-j : goal.invariant-loop-j
invariant-loop-j l = SameBefore l.list l.from l.sizes l.j
