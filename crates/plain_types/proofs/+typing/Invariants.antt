use Prim.Native.Nat.{◌+◌, ◌*◌}
use Rattle.plain_types.proofs.+typing.Given as goal

abbrev pub decreases-exprs::adjust : goal.decreases-exprs::adjust
decreases-exprs::adjust l = l.p.levels * 1024 + 700

abbrev pub decreases-exprs::binding : goal.decreases-exprs::binding
decreases-exprs::binding l = l.p.levels * 1024 + 700

abbrev pub decreases-exprs::choice : goal.decreases-exprs::choice
decreases-exprs::choice l = l.p.levels * 1024 + 700

abbrev pub decreases-exprs::expect : goal.decreases-exprs::expect
decreases-exprs::expect l = l.p.levels * 1024 + 1

abbrev pub decreases-exprs::expr : goal.decreases-exprs::expr
decreases-exprs::expr l = l.p.levels * 1024

abbrev pub decreases-exprs::fit : goal.decreases-exprs::fit
decreases-exprs::fit l = l.p.levels * 1024 + 700

abbrev pub decreases-exprs::operation : goal.decreases-exprs::operation
decreases-exprs::operation l = l.p.levels * 1024 + 700

abbrev pub decreases-lists::branches : goal.decreases-lists::branches
decreases-lists::branches l = l.p.levels * 1024 + (2 + l.series.count)

abbrev pub decreases-lists::call : goal.decreases-lists::call
decreases-lists::call l = l.p.levels * 1024 + 700

abbrev pub decreases-lists::case_of : goal.decreases-lists::case_of
decreases-lists::case_of l = l.p.levels * 1024 + 700

abbrev pub decreases-lists::make : goal.decreases-lists::make
decreases-lists::make l = l.p.levels * 1024 + 700

abbrev pub decreases-lists::several : goal.decreases-lists::several
decreases-lists::several l = l.p.levels * 1024 + (2 + l.series.count)
