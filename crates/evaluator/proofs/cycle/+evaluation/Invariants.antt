use Rattle.evaluation_steps.specs.Measures.{measure_of}
use Rattle.evaluation_steps.specs.ArgumentLaws.{Gathered}
use Rattle.evaluator.proofs.cycle.+evaluation.Given as goal

abbrev pub decreases-arguments : goal.decreases-arguments
decreases-arguments l = measure_of l.program.now.text.now l.program.now.index.now l.p 2

abbrev pub decreases-binding : goal.decreases-binding
decreases-binding l = measure_of l.program.now.text.now l.program.now.index.now l.p 1

abbrev pub decreases-body : goal.decreases-body
decreases-body l = measure_of l.program.now.text.now l.program.now.index.now l.p 1

abbrev pub decreases-branch : goal.decreases-branch
decreases-branch l = measure_of l.program.now.text.now l.program.now.index.now l.p 1

abbrev pub decreases-choice : goal.decreases-choice
decreases-choice l = measure_of l.program.now.text.now l.program.now.index.now l.p 1

abbrev pub decreases-compound : goal.decreases-compound
decreases-compound l = measure_of l.program.now.text.now l.program.now.index.now l.p 4

abbrev pub decreases-expr : goal.decreases-expr
decreases-expr l = measure_of l.program.now.text.now l.program.now.index.now l.p 0

abbrev pub decreases-finish : goal.decreases-finish
decreases-finish l = measure_of l.program.now.text.now l.program.now.index.now l.p 3

abbrev pub decreases-fit : goal.decreases-fit
decreases-fit l = measure_of l.program.now.text.now l.program.now.index.now l.p 2

abbrev pub decreases-operand : goal.decreases-operand
decreases-operand l = measure_of l.program.now.text.now l.program.now.index.now l.p 1

abbrev pub decreases-operator : goal.decreases-operator
decreases-operator l = measure_of l.program.now.text.now l.program.now.index.now l.p 1

abbrev pub invariant-arguments-loop-i : goal.invariant-arguments-loop-i
invariant-arguments-loop-i l = Gathered l.program.text.now l.program.index.now l.program.ends.now l.program.channels.now l.initial.state l.initial.slots l.p l.n l.state l.slots l.row l.at l.used l.i
