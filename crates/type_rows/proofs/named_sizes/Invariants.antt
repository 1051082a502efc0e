use Rattle.type_rows.specs.NamedLaws.{Writing}
use Rattle.type_rows.proofs.named_sizes.Given as goal

abbrev pub invariant-loop-i : goal.invariant-loop-i
invariant-loop-i l = Writing l.row l.n l.initial.sizes l.count l.i l.sizes
