use Prim.Native.Nat.{◌<◌}
use Rattle.instances.specs.Listed.{hint_words}
use Rattle.instances.proofs.hint_place.Given as goal

abbrev pub invariant-loop-j : goal.invariant-loop-j
invariant-loop-j l = l.h < hint_words
