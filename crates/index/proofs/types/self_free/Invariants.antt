use Rattle.index.specs.Sections.{types_of}
use Rattle.index.specs.FreeLaws.{FreeFrom}
use Rattle.index.proofs.types.self_free.Given as goal

abbrev pub invariant-loop-c : goal.invariant-loop-c
invariant-loop-c l = FreeFrom (types_of l.index) l.t l.c
