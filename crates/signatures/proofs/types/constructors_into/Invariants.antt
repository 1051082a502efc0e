use Prim.Native.Nat.{◌+◌, ◌*◌, ◌-◌, ◌≤◌}
use mathlib.Core.Path.{◌≡◌}
use lib.ListN.{length}
use Rattle.index.specs.Tables.{constructor_words, constructor_entry}
use Rattle.index.specs.Enters.{constructor_behind}
use Rattle.index.specs.EnterLaws.{Leads}
use Rattle.signatures.proofs.types.constructors_into.Given as goal

abbrev pub invariant-loop-i : goal.invariant-loop-i
invariant-loop-i l = (l.i ≤ l.n) × ((length l.types ≡ length l.initial.types) × Leads (constructor_behind l.t) constructor_entry l.line l.n l.initial.next.at l.to l.initial.types (l.n - l.i) l.next.at (l.to + constructor_words * l.i) l.types)
