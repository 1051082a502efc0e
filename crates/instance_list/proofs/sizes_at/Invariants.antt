use Rattle.instance_list.specs.RecordLaws.{ReadBefore}
use Rattle.instance_list.proofs.sizes_at.Given as goal

abbrev pub invariant-loop-j : goal.invariant-loop-j
invariant-loop-j l = ReadBefore l.words l.from l.j l.sizes
