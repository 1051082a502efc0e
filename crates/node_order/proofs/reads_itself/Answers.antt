-- The search for a node that reads its own channel.
use Prim.Native.Nat.{ℕ, ◌+◌}
use mathlib.Core.Path.{sym, ap, ◌∙◌}
use Rattle.channel_sets.specs.Sets.{in_set}
use Rattle.node_order.specs.LowestLaws.{below_more, lowest-here, lowest-none}
use Rattle.node_order.proofs.reads_itself.Goals as goal

pub returns-then-has : goal.returns-then-has
returns-then-has c = lowest-here c.loop-node.invariant c.loop-node-test.true (ap (λ (x : ℕ). in_set x (c.args.inputs + c.loop-node.node)) (sym c.word_at.ensures) ∙ sym c.has.ensures ∙ c.if-has.true)

pub loop-node-preserved : goal.loop-node-preserved
loop-node-preserved c = below_more c.loop-node.invariant (ap (λ (x : ℕ). in_set x (c.args.inputs + c.loop-node.node)) (sym c.word_at.ensures) ∙ sym c.has.ensures ∙ c.if-has.false)

pub returns : goal.returns
returns c = lowest-none c.loop-node.invariant c.loop-node-test.false
