use Prim.Native.Nat.{◌+◌, ◌-◌, ◌≤◌}
use mathlib.Core.Path.{◌≡◌}
use lib.ListN.{length}
use Rattle.language.specs.ReadExpr.{plain}
use Rattle.index.specs.Enters.{plain_words}
use Rattle.index.specs.EnterLaws.{Leads}
use Rattle.signatures.proofs.functions.parameters_into.Given as goal

abbrev pub invariant-loop-i : goal.invariant-loop-i
invariant-loop-i l = (l.i ≤ l.n) × ((length l.functions ≡ length l.initial.functions) × Leads (plain l.types) plain_words l.line l.n l.initial.next.at l.to l.initial.functions (l.n - l.i) l.next.at (l.to + l.i) l.functions)
