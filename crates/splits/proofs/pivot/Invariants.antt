use Rattle.std.proofs.Common.{◌-◌}
use Rattle.splits.specs.MoveLaws.{Looks}
use Rattle.splits.proofs.pivot.Given as goal

abbrev pub invariant-loop-j : goal.invariant-loop-j
invariant-loop-j l = Looks l.sizes l.at l.end (l.j - 1)
