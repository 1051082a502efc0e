-- A frame agrees as the definition's test of its number says.
use Rattle.plain_types.specs.JudgeLaws.{frame-function, frame-input, frame-node, frame-none}
use Rattle.plain_types.proofs.frames.frame_agrees.Goals as goal

pub returns-then-i-most : goal.returns-then-i-most
returns-then-i-most c = frame-function _ _ _ c.frame_counts-counts.ensures.0 _ c.if-i-most.true c.function_agrees.ensures

pub returns-then-c-inputs : goal.returns-then-c-inputs
returns-then-c-inputs c = frame-input _ _ _ c.frame_counts-counts.ensures.0 _ c.if-i-most.false c.if-c-inputs.true c.initial_agrees.ensures

pub returns-then-c-inputs-2 : goal.returns-then-c-inputs-2
returns-then-c-inputs-2 c = frame-node _ _ _ c.frame_counts-counts.ensures.0 _ c.if-i-most.false c.if-c-inputs.false c.if-c-inputs-2.true c.node_agrees.ensures

pub returns : goal.returns
returns c = frame-none _ _ _ c.frame_counts-counts.ensures.0 _ c.if-i-most.false c.if-c-inputs.false c.if-c-inputs-2.false
