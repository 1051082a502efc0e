-- The lowest node that reads itself.
use Rattle.node_order.specs.RowLaws.{lower-self, through-self}
use Rattle.node_order.proofs.self_reader.Goals as goal

pub returns-then-reads_lower : goal.returns-then-reads_lower
returns-then-reads_lower c = lower-self (rw c.if-reads_lower.true at c.reads_lower.ensures)

pub returns : goal.returns
returns c = through-self c.read_through.ensures c.reads_itself.ensures
