-- A word at each turn, until one is not zero.
use Rattle.cell_check.specs.CellLaws.{unused-not, unused-on, unused-end}
use Rattle.cell_check.proofs.unused_clear.Goals as goal

pub returns-then-cell_field-ne0 : goal.returns-then-cell_field-ne0
returns-then-cell_field-ne0 c = unused-not c.loop-j.invariant c.loop-j-test.true c.cell_field.ensures c.if-cell_field-ne0.true

pub loop-j-preserved : goal.loop-j-preserved
loop-j-preserved c = unused-on c.loop-j.invariant c.loop-j-test.true c.cell_field.ensures c.if-cell_field-ne0.false

pub returns : goal.returns
returns c = unused-end c.loop-j.invariant c.loop-j-test.false
