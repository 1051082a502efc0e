use Prim.Native.Nat.{◌-◌}
use lib.ListN.{length}
use Rattle.text_lines.specs.Lines.{PairsTo}
use Rattle.text_lines.proofs.eights_end.Given as goal

abbrev pub invariant-loop-end : goal.invariant-loop-end
invariant-loop-end l = PairsTo l.digits l.text l.at l.end

abbrev pub decreases-loop-end : goal.decreases-loop-end
decreases-loop-end l = length l.text - l.end
