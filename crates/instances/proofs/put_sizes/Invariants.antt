use Rattle.instances.specs.WriteLaws.{Stored}
use Rattle.instances.proofs.put_sizes.Given as goal

abbrev pub invariant-loop-j : goal.invariant-loop-j
invariant-loop-j l = Stored l.initial.list l.from l.sizes l.j l.list
