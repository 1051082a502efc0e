use Prim.Native.Nat.{◌≤◌}
use Rattle.cells.specs.ChannelLaws.{ChannelsTo}
use Rattle.cells.proofs.channels_cells.Given as goal

abbrev pub invariant-loop-i : goal.invariant-loop-i
invariant-loop-i l = (l.i ≤ l.n) × ChannelsTo l.index l.initial.table l.n l.i l.sum l.table
