use Rattle.ends.specs.Told.{TellsLines}
use Rattle.ends.proofs.lines_ends.Given as goal

abbrev pub invariant-loop-k : goal.invariant-loop-k
invariant-loop-k l = TellsLines l.text l.index l.part l.first l.from l.n l.k l.initial.ends l.ends
