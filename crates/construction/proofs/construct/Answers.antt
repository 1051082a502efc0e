-- Too large, none left, or written.
use Rattle.std.proofs.Common.{rules}
use Rattle.new_cells.specs.AllocLaws.{cell-made, row_written}
use Rattle.construction.specs.ConstructLaws.{too_large, none-constructed, constructed}
use Rattle.construction.proofs.construct.Goals as goal

pub returns-in_default : goal.returns-in_default
returns-in_default c = too_large c.own_sum.ensures c.in_default.is

pub returns-then-state-state_length : goal.returns-then-state-state_length
returns-then-state-state_length c = none-constructed c.own_sum.ensures c.in-Some.is c.state_length.ensures c.if-state-state_length.true

pub returns : goal.returns
returns c = constructed c.own_sum.ensures _ c.in-Some.is (search rules) c.constructor_tag-tag.ensures (cell-made (row_written _ _ _ c.state_length.ensures c.if-state-state_length.false c.put_constructor.ensures))
