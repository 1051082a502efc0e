-- A number beyond the cells fits nothing.
use native.Mathlib.Omega.{arith}
use Rattle.cell_check.specs.FieldLaws.{location-beyond, location-judged}
use Rattle.cell_check.proofs.location_fits.Goals as goal

pub returns-then-used-l : goal.returns-then-used-l
returns-then-used-l c = location-beyond (omega (arith, c.if-used-l.true))

pub returns : goal.returns
returns c = location-judged c.if-used-l.false c.cell_tag.ensures c.cell_value.ensures c.type_fits.ensures
