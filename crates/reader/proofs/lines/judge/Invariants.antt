use Prim.Native.Nat.{◌-◌}
use lib.ListN.{length}
use Rattle.reader.specs.JudgeLaws.{JudgedTo}
use Rattle.reader.proofs.lines.judge.Given as goal

abbrev pub invariant-loop-at : goal.invariant-loop-at
invariant-loop-at l = JudgedTo l.text l.initial.index l.at l.frames l.channels l.index

abbrev pub decreases-loop-at : goal.decreases-loop-at
decreases-loop-at l = length l.text - l.at
