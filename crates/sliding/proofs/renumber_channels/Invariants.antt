use Rattle.sliding.specs.FinishLaws.{Renumbered}
use Rattle.sliding.proofs.renumber_channels.Given as goal

abbrev pub invariant-loop-c : goal.invariant-loop-c
invariant-loop-c l = Renumbered l.initial.state l.marks l.c l.state
