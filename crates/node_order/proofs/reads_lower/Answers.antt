-- Whether every node reads only channels below its own.
use native.Mathlib.Omega.{arith}
use Rattle.node_order.specs.LowestLaws.{below_more}
use Rattle.node_order.specs.RowLaws.{lower-here, lower-all, lower-not}
use Rattle.node_order.proofs.reads_lower.Goals as goal

pub returns-then-word_at-inputs-ne0 : goal.returns-then-word_at-inputs-ne0
returns-then-word_at-inputs-ne0 c = lower-not _ _ _ c.word_at.ensures c.loop-i-test.true (λ none. omega (arith, c.if-word_at-inputs-ne0.true, none))

pub loop-i-preserved : goal.loop-i-preserved
loop-i-preserved c = below_more c.loop-i.invariant (lower-here _ _ _ c.word_at.ensures c.if-word_at-inputs-ne0.false)

pub returns : goal.returns
returns c = lower-all c.loop-i.invariant c.loop-i-test.false
