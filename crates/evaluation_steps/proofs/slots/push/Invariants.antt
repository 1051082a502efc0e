use Prim.Native.Nat.{◌≤◌}
use Rattle.evaluation_steps.specs.Slots.{Pushed, WordOf}
use Rattle.evaluation_steps.proofs.slots.push.Given as goal

abbrev pub invariant-loop-i : goal.invariant-loop-i
invariant-loop-i l = (l.i ≤ l.n) × Pushed (WordOf l.row) l.initial.slots l.top l.i l.slots
