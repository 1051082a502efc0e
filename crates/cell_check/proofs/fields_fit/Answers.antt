-- A field at each turn.
use native.Mathlib.Omega.{arith}
use Rattle.cell_check.specs.FieldLaws.{left-out, left-on, left_end}
use Rattle.cell_check.proofs.fields_fit.Goals as goal

pub returns-in_default : goal.returns-in_default
returns-in_default c = left-out c.loop-j.invariant c.loop-j-test.true c.in_default.ensures

pub loop-j-preserved : goal.loop-j-preserved
loop-j-preserved c = left-on c.loop-j.invariant c.loop-j-test.true c.in-Some.ensures

pub returns : goal.returns
returns c = left_end (omega arith) c.loop-j-test.false c.loop-j.invariant
