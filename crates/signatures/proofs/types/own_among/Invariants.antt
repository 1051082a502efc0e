use Rattle.index.specs.Enters.{is_own}
use Rattle.index.specs.CountLaws.{Counted}
use Rattle.signatures.proofs.types.own_among.Given as goal

abbrev pub invariant-loop-i : goal.invariant-loop-i
invariant-loop-i l = Counted is_own l.types l.from l.n l.i l.sum
