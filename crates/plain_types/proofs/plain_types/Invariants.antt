use Rattle.plain_types.specs.JudgeLaws.{AgreeBefore}
use Rattle.plain_types.proofs.plain_types.Given as goal

abbrev pub invariant-loop-i : goal.invariant-loop-i
invariant-loop-i l = AgreeBefore l.text l.index l.i
