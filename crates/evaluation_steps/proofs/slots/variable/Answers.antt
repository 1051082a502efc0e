-- The cell of a variable: a word of the first slots, 0 beyond them.
use Rattle.evaluation_steps.specs.LeafLaws.{slot-beyond}
use Rattle.evaluation_steps.proofs.slots.variable.Goals as goal

pub returns : goal.returns
returns c = slot-beyond _ c.if-v-top.false
