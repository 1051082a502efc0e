use Prim.Native.Nat.{◌-◌, ◌≤◌}
use Rattle.language.specs.Reader.{condition}
use Rattle.signatures.specs.PassLaws.{PassesOn}
use Rattle.signatures.proofs.functions.conditions.Given as goal

abbrev pub invariant-loop : goal.invariant-loop
invariant-loop l = (l.counter ≤ l.n) × PassesOn (condition l.vars) l.line l.n l.initial.next.at (l.n - l.counter) l.next.at
