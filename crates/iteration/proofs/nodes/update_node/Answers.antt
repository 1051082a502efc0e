-- A node's update.
use mathlib.Core.Path.{refl}
use Rattle.language.specs.HandedOn.{handed_on}
use Rattle.iteration.specs.NodeLaws.{node-refused, node-large, node_done}
use Rattle.iteration.proofs.nodes.update_node.Goals as goal

pub channel_value-requires : goal.channel_value-requires
channel_value-requires c = c.requires

pub shape_of-state-in_err-value : goal.shape_of-state-in_err-value
shape_of-state-in_err-value c = c.channel_value.auto.state

pub shape_of-slots-in_err-value : goal.shape_of-slots-in_err-value
shape_of-slots-in_err-value c = c.channel_value.auto.slots

pub returns-in_err-value : goal.returns-in_err-value
returns-in_err-value c = node-refused _ _ _ _ _ _ _ _ _ c.update_start-at.ensures c.channel_value.ensures c.in_err-value.was (handed_on c.from_residual.ensures)

pub shape_of-state-then-declared_size-size : goal.shape_of-state-then-declared_size-size
shape_of-state-then-declared_size-size c = c.channel_value.auto.state

pub shape_of-slots-then-declared_size-size : goal.shape_of-slots-then-declared_size-size
shape_of-slots-then-declared_size-size c = c.channel_value.auto.slots

pub returns-then-declared_size-size : goal.returns-then-declared_size-size
returns-then-declared_size-size c = node-large _ _ _ _ _ _ _ _ _ c.update_start-at.ensures c.channel_value.ensures c.in_ok-value.was c.declared_size.ensures c.size.ensures c.if-declared_size-size.true refl

pub shape_of-state : goal.shape_of-state
shape_of-state c = c.channel_value.auto.state

pub shape_of-slots : goal.shape_of-slots
shape_of-slots c = c.channel_value.auto.slots

pub returns : goal.returns
returns c = node_done _ _ _ _ _ _ _ _ _ c.update_start-at.ensures c.channel_value.ensures c.in_ok-value.was c.declared_size.ensures c.size.ensures c.if-declared_size-size.false refl
