-- The place of the key is `i` and what is found from there on.
use Rattle.std.proofs.Common.{length, ◌≤◌}
use Rattle.instance_list.specs.RecordLaws.{From}
use Rattle.instance_list.proofs.find.Given as goal

abbrev pub invariant-loop-i : goal.invariant-loop-i
invariant-loop-i l = record { low : l.i ≤ length l.list; rest : From l.list l.key l.i }
