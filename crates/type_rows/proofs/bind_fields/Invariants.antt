use Rattle.index.specs.Sections.{types_of}
use Rattle.type_rows.specs.BindLaws.{Binding}
use Rattle.type_rows.proofs.bind_fields.Given as goal

abbrev pub invariant-loop-i : goal.invariant-loop-i
invariant-loop-i l = Binding (types_of l.index) l.initial.scope l.sizes l.t l.c l.to l.from l.n l.next l.i l.scope
