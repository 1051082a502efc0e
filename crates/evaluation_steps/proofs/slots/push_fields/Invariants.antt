use Prim.Native.Nat.{◌≤◌}
use Rattle.evaluation_steps.specs.Slots.{Pushed, FieldOf}
use Rattle.evaluation_steps.proofs.slots.push_fields.Given as goal

abbrev pub invariant-loop-i : goal.invariant-loop-i
invariant-loop-i l = (l.i ≤ l.n) × Pushed (FieldOf l.state l.used l.cell) l.initial.slots l.top l.i l.slots
