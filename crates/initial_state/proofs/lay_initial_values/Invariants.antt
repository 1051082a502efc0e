use Rattle.initial_state.specs.LayLaws.{Laying}
use Rattle.initial_state.proofs.lay_initial_values.Given as goal

abbrev pub invariant-loop-c : goal.invariant-loop-c
invariant-loop-c l = Laying l.text l.index l.ends l.n l.calls l.initial.state l.initial.slots l.state l.slots l.used l.c
