use Prim.Native.Nat.{◌+◌, ◌*◌}
use Rattle.heads.proofs.skip.+skipping.Given as goal

abbrev pub decreases-skip : goal.decreases-skip
decreases-skip l = l.levels * 1024

abbrev pub decreases-skip_several : goal.decreases-skip_several
decreases-skip_several l = l.levels * 1024 + (1 + l.n)
