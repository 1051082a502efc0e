-- A node's readings joined to another's.
use mathlib.Core.Path.{sym, ◌∙◌}
use Rattle.node_order.specs.RowLaws.{joined-there, joined-not}
use Rattle.node_order.proofs.joined.Goals as goal

pub returns-then-has : goal.returns-then-has
returns-then-has c = joined-there _ _ _ (sym c.has.ensures ∙ c.if-has.true)

pub returns : goal.returns
returns c = joined-not _ _ _ (sym c.has.ensures ∙ c.if-has.false)
