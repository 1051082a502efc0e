use Prim.Native.Nat.{◌-◌, ◌≤◌}
use Rattle.language.specs.Parser.{index}
use Rattle.signatures.specs.PassLaws.{PassesOn}
use Rattle.signatures.proofs.functions.measure.Given as goal

abbrev pub invariant-loop : goal.invariant-loop
invariant-loop l = (l.counter ≤ l.n) × PassesOn (index l.vars) l.line l.n l.initial.next.at (l.n - l.counter) l.next.at
