-- A node that is ready.
use Rattle.node_order.specs.RowLaws.{not-ready, ready-if}
use Rattle.node_order.proofs.is_ready.Goals as goal

pub returns-then-not-has : goal.returns-then-not-has
returns-then-not-has c = ready-if _ _ _ c.has.ensures c.word_at.ensures c.if-not-has.true

pub returns-else-not-has : goal.returns-else-not-has
returns-else-not-has c = not-ready _ _ _ c.has.ensures c.if-not-has.false
