use Rattle.input_line.specs.InputLaws.{InputsLeft}
use Rattle.input_line.proofs.inputs_fit.Given as goal

abbrev pub invariant-loop-i : goal.invariant-loop-i
invariant-loop-i l = InputsLeft l.line l.index l.n l.initial.next l.i l.next
