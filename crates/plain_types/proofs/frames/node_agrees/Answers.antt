-- A node agrees where its initial value and its update do.
use Rattle.plain_types.specs.FrameLaws.{node-unfit, node-fits}
use Rattle.plain_types.proofs.frames.node_agrees.Goals as goal

pub returns-then-initial_agrees : goal.returns-then-initial_agrees
returns-then-initial_agrees c = node-fits _ _ _ _ c.initial_agrees.ensures c.if-initial_agrees.true c.update_start-at.ensures c.line_behind_types-line.ensures c.value_agrees.ensures

pub returns-else-initial_agrees : goal.returns-else-initial_agrees
returns-else-initial_agrees c = rw c.if-initial_agrees.false (node-unfit _ _ _ _ c.initial_agrees.ensures c.if-initial_agrees.false)
