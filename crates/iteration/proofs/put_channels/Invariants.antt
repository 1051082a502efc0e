use Prim.Native.Nat.{◌≤◌}
use Rattle.iteration.specs.Whole.{ChannelsPut}
use Rattle.iteration.proofs.put_channels.Given as goal

abbrev pub invariant-loop-c : goal.invariant-loop-c
invariant-loop-c l = ChannelsPut l.channels l.c l.initial.state l.state × (l.c ≤ l.n)
