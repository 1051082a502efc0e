-- The type's number, then the constructor's.
use Rattle.cell_check.specs.CellLaws.{type-unknown, type-known}
use Rattle.cell_check.proofs.known_constructor.Goals as goal

pub returns-else-t-types : goal.returns-else-t-types
returns-else-t-types c = type-unknown c.tag_type-t.ensures c.if-t-types.false

pub returns-then-t-types : goal.returns-then-t-types
returns-then-t-types c = type-known c.tag_type-t.ensures c.if-t-types.true c.tag_constructor.ensures c.constructors.ensures
