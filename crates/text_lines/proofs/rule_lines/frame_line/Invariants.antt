use Prim.Native.Nat.{◌-◌}
use lib.ListN.{length}
use Rattle.text_lines.specs.GroupWalk.{Grouped}
use Rattle.text_lines.proofs.rule_lines.frame_line.Given as goal

abbrev pub invariant-loop-end : goal.invariant-loop-end
invariant-loop-end l = Grouped l.text l.at l.end

abbrev pub decreases-loop-end : goal.decreases-loop-end
decreases-loop-end l = length l.text - l.end
