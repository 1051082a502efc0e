-- The nodes' updates, one after the other.
use Rattle.std.proofs.Common.{ap, Err, rules}
use Rattle.language.specs.HandedOn.{handed_on}
use mathlib.Core.Path.{refl, ◌∙◌}
use native.Mathlib.Omega.{arith}
use Rattle.evaluation_steps.specs.KeepLaws.{board-moved}
use Rattle.iteration.specs.NodesLaws.{mapped-ok, mapped-err, next-below, updating-none, updating-more, updating-refused, updating-stopped, updating-all, few-inputs, few-nodes}
use Rattle.iteration.proofs.nodes.update_nodes.Goals as goal

pub first-done-requires : goal.first-done-requires
first-done-requires c = few-inputs c.requires.few_channels c.frame_counts-counts.ensures.0

pub loop-init : goal.loop-init
loop-init c = updating-none _ _ _ _ _ _ _ _ _ c.requires.few_channels c.frame_counts-counts.ensures.0 c.requires.board c.first-done.ensures

pub next_node-requires : goal.next_node-requires
next_node-requires c = few-nodes c.requires.few_channels c.frame_counts-counts.ensures.0

pub shape_of-state-in_default : goal.shape_of-state-in_default
shape_of-state-in_default c = c.loop.invariant.moved.long

pub shape_of-slots-in_default : goal.shape_of-slots-in_default
shape_of-slots-in_default c = c.loop.invariant.slots_long

pub returns-in_default : goal.returns-in_default
returns-in_default c = updating-stopped _ _ _ _ _ _ _ _ _ c.requires.few_channels c.frame_counts-counts.ensures.0 c.loop.invariant c.next_node.ensures c.in_default.is refl

pub overflow_add-channel : goal.overflow_add-channel
overflow_add-channel c = omega (arith, c.frame_counts-counts.ensures.1.inputs, c.frame_counts-counts.ensures.1.nodes, next-below _ _ _ _ _ _ _ _ _ c.requires.few_channels c.frame_counts-counts.ensures.0 c.loop.invariant c.next_node.ensures c.in-Some.is)

pub update_node-requires : goal.update_node-requires
update_node-requires c = board-moved c.loop.invariant.moved c.requires.board

pub shape_of-state-in_err-value : goal.shape_of-state-in_err-value
shape_of-state-in_err-value c = c.update_node.auto.state ∙ c.loop.invariant.moved.long

pub shape_of-slots-in_err-value : goal.shape_of-slots-in_err-value
shape_of-slots-in_err-value c = c.update_node.auto.slots ∙ c.loop.invariant.slots_long

pub returns-in_err-value : goal.returns-in_err-value
returns-in_err-value c = updating-refused _ _ _ _ _ _ _ _ _ c.requires.few_channels c.frame_counts-counts.ensures.0 c.loop.invariant c.next_node.ensures c.loop-test.true c.in-Some.is refl c.update_node.ensures (mapped-err c.update_node.result _ c.map_err.ensures.cases c.in_err-value.was).1 (let p = (mapped-err c.update_node.result _ c.map_err.ensures.cases c.in_err-value.was).2 in handed_on c.from_residual.ensures ∙ ap Err (search (rules, p)))

pub single-done-requires : goal.single-done-requires
single-done-requires c = omega (arith, few-nodes c.requires.few_channels c.frame_counts-counts.ensures.0, next-below _ _ _ _ _ _ _ _ _ c.requires.few_channels c.frame_counts-counts.ensures.0 c.loop.invariant c.next_node.ensures c.in-Some.is)

pub loop-preserved : goal.loop-preserved
loop-preserved c = updating-more _ _ _ _ _ _ _ _ _ c.requires.few_channels c.frame_counts-counts.ensures.0 c.loop.invariant c.next_node.ensures c.loop-test.true c.in-Some.is refl c.update_node.ensures (mapped-ok c.update_node.result _ c.map_err.ensures.cases c.in_ok-value.was) (search rules) c.put.ensures c.single-done.ensures refl

pub shape_of-state : goal.shape_of-state
shape_of-state c = c.loop.invariant.moved.long

pub shape_of-slots : goal.shape_of-slots
shape_of-slots c = c.loop.invariant.slots_long

pub returns : goal.returns
returns c = updating-all _ _ _ _ _ _ _ _ _ c.requires.few_channels c.frame_counts-counts.ensures.0 c.loop.invariant c.loop-test.false refl
