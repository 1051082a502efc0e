use Rattle.ends.specs.Told.{WalksUpdates}
use Rattle.ends.proofs.updates_ends.Given as goal

abbrev pub invariant-loop-k : goal.invariant-loop-k
invariant-loop-k l = WalksUpdates l.text l.index l.c l.k l.initial.ends l.ends l.readings
