use Prim.Native.Nat.{◌+◌, ◌*◌}
use Rattle.text.specs.Places.{bytes_left}
use Rattle.input_cells.specs.FieldsLaidLaws.{FieldsLaid}
use Rattle.input_cells.proofs.+laying.Given as goal

abbrev pub decreases-lay : goal.decreases-lay
decreases-lay l = 2 * bytes_left l.line.now l.c.at

abbrev pub decreases-lay_fields : goal.decreases-lay_fields
decreases-lay_fields l = 2 * bytes_left l.line.now l.c.at + 1

abbrev pub invariant-lay_fields-loop-j : goal.invariant-lay_fields-loop-j
invariant-lay_fields-loop-j l = FieldsLaid l.line l.index l.cells l.used l.initial.state l.tag l.n l.initial.next l.j l.next l.top l.own l.state l.waiting
