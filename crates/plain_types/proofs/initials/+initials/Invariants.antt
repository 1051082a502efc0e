use Prim.Native.Nat.{◌+◌, ◌*◌}
use Rattle.plain_types.proofs.initials.+initials.Given as goal

abbrev pub decreases-initial : goal.decreases-initial
decreases-initial l = l.levels * 1024

abbrev pub decreases-initials : goal.decreases-initials
decreases-initials l = l.levels * 1024 + (1 + l.n)
