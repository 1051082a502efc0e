use Rattle.splits.specs.StartLaws.{Written}
use Rattle.splits.proofs.first_split.Given as goal

abbrev pub invariant-loop-i : goal.invariant-loop-i
invariant-loop-i l = Written l.initial.sizes l.at l.r l.n l.i l.sizes
