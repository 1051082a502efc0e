-- The search for the next node.
use mathlib.Core.Path.{sym, ◌∙◌}
use Rattle.node_order.specs.LowestLaws.{below_more, lowest-here, lowest-none}
use Rattle.node_order.proofs.next_node.Goals as goal

pub returns-then-is_ready : goal.returns-then-is_ready
returns-then-is_ready c = lowest-here c.loop-i.invariant c.loop-i-test.true (sym c.is_ready.ensures ∙ c.if-is_ready.true)

pub loop-i-preserved : goal.loop-i-preserved
loop-i-preserved c = below_more c.loop-i.invariant (sym c.is_ready.ensures ∙ c.if-is_ready.false)

pub returns : goal.returns
returns c = lowest-none c.loop-i.invariant c.loop-i-test.false
