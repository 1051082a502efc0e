use Prim.Native.Nat.{◌+◌, ◌-◌, ◌≤◌}
use mathlib.Core.Path.{◌≡◌}
use lib.ListN.{length}
use Rattle.language.specs.ReadExpr.{field}
use Rattle.index.specs.Enters.{field_words}
use Rattle.index.specs.EnterLaws.{Leads}
use Rattle.signatures.proofs.types.fields_into.Given as goal

abbrev pub invariant-loop-i : goal.invariant-loop-i
invariant-loop-i l = (l.i ≤ l.n) × ((length l.types ≡ length l.initial.types) × Leads (field l.t) field_words l.line l.n l.initial.next.at l.to l.initial.types (l.n - l.i) l.next.at (l.to + l.i) l.types)
