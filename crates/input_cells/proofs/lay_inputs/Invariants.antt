use Rattle.input_cells.specs.InputsLaidLaws.{InputsTo}
use Rattle.input_cells.proofs.lay_inputs.Given as goal

abbrev pub invariant-loop-i : goal.invariant-loop-i
invariant-loop-i l = InputsTo l.line l.index l.cells l.used l.initial.state l.initial.roots l.n l.initial.next l.i l.next l.top l.state l.roots
