use Prim.Native.Nat.{◌-◌}
use Rattle.index.specs.Sections.{types_of, functions_of}
use Rattle.ends.specs.Walks.{WalksOn}
use Rattle.ends.proofs.walk.+expression.Given as goal

abbrev pub decreases-expression : goal.decreases-expression
decreases-expression l = l.levels

abbrev pub invariant-loop : goal.invariant-loop
invariant-loop l = WalksOn l.line (types_of l.index) (functions_of l.index) l.from l.initial.so_far l.inner l.n l.initial.ends l.so_far (l.n - l.counter) l.ends
