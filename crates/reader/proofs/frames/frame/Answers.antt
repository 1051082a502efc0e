-- A frame: its kind and order, and what stands behind the kind.
use Rattle.std.specs.Prelude.{not}
use Rattle.std.proofs.Common.{ap}
use Rattle.language.specs.HandedOn.{handed_on}
use Rattle.encoding.specs.CursorSpells.{byte-behind}
use Rattle.reader.specs.Frames.{meant}
use Rattle.reader.specs.EndedLaws.{ended-stops, ended-behind}
use Rattle.reader.specs.FrameLaws.{frame-no-byte, frame-no-kind, frame-unordered, frame-type, frame-function, frame-input, frame-node}
use Rattle.reader.proofs.frames.frame.Goals as goal

pub returns-in_err-f : goal.returns-in_err-f
returns-in_err-f c = frame-no-byte _ _ _ _ c.byte.ensures.0 c.in_err-f.was (handed_on c.from_residual.ensures)

pub returns-in_default : goal.returns-in_default
returns-in_default c = frame-no-kind _ _ _ _ c.byte.ensures.0 c.in_ok-f.was c.kind_of.ensures c.in_default.is

pub returns-then-not-in_order : goal.returns-then-not-in_order
returns-then-not-in_order c = frame-unordered _ _ _ _ c.byte.ensures.0 c.in_ok-f.was c.kind_of.ensures c.in-Some.is c.in_order.ensures (ap not c.if-not-in_order.true)

pub type_frame-requires : goal.type_frame-requires
type_frame-requires c = record { fits = c.requires; at_value = byte-behind c.byte.ensures.0 c.in_ok-f.was }

pub returns-in-Type : goal.returns-in-Type
returns-in-Type c = frame-type _ _ _ _ c.byte.ensures.0 c.in_ok-f.was c.kind_of.ensures c.in-Some.is c.in_order.ensures (ap not c.if-not-in_order.false) (ap meant c.in-Type.is) c.type_frame.ensures

pub function_frame-requires : goal.function_frame-requires
function_frame-requires c = record { fits = c.requires; at_value = byte-behind c.byte.ensures.0 c.in_ok-f.was }

pub returns-in_err-function_frame-in-Function : goal.returns-in_err-function_frame-in-Function
returns-in_err-function_frame-in-Function c = frame-function _ _ _ _ c.byte.ensures.0 c.in_ok-f.was c.kind_of.ensures c.in-Some.is c.in_order.ensures (ap not c.if-not-in_order.false) (ap meant c.in-Function.is) c.function_frame.ensures c.one_more-n.ensures (ended-stops _ _ c.in_err-function_frame-in-Function.was (handed_on c.from_residual-in_err-function_frame-in-Function.ensures))

pub returns-in_ok-function_frame-in-Function : goal.returns-in_ok-function_frame-in-Function
returns-in_ok-function_frame-in-Function c = frame-function _ _ _ _ c.byte.ensures.0 c.in_ok-f.was c.kind_of.ensures c.in-Some.is c.in_order.ensures (ap not c.if-not-in_order.false) (ap meant c.in-Function.is) c.function_frame.ensures c.one_more-n.ensures (ended-behind _ _ c.in_ok-function_frame-in-Function.was c.ended.ensures)

pub input_frame-requires : goal.input_frame-requires
input_frame-requires c = record { fits = c.requires; at_value = byte-behind c.byte.ensures.0 c.in_ok-f.was }

pub returns-in_err-input_frame-in-Input : goal.returns-in_err-input_frame-in-Input
returns-in_err-input_frame-in-Input c = frame-input _ _ _ _ c.byte.ensures.0 c.in_ok-f.was c.kind_of.ensures c.in-Some.is c.in_order.ensures (ap not c.if-not-in_order.false) (ap meant c.in-Input.is) c.input_frame.ensures c.one_more-n.ensures (ended-stops _ _ c.in_err-input_frame-in-Input.was (handed_on c.from_residual-in_err-input_frame-in-Input.ensures))

pub returns-in_ok-input_frame-in-Input : goal.returns-in_ok-input_frame-in-Input
returns-in_ok-input_frame-in-Input c = frame-input _ _ _ _ c.byte.ensures.0 c.in_ok-f.was c.kind_of.ensures c.in-Some.is c.in_order.ensures (ap not c.if-not-in_order.false) (ap meant c.in-Input.is) c.input_frame.ensures c.one_more-n.ensures (ended-behind _ _ c.in_ok-input_frame-in-Input.was c.ended-in-Input.ensures)

pub node_frame-requires : goal.node_frame-requires
node_frame-requires c = record { fits = c.requires; at_value = byte-behind c.byte.ensures.0 c.in_ok-f.was }

pub returns-in_err-node_frame-in-Node : goal.returns-in_err-node_frame-in-Node
returns-in_err-node_frame-in-Node c = frame-node _ _ _ _ c.byte.ensures.0 c.in_ok-f.was c.kind_of.ensures c.in-Some.is c.in_order.ensures (ap not c.if-not-in_order.false) (ap meant c.in-Node.is) c.node_frame.ensures c.one_more-n.ensures (ended-stops _ _ c.in_err-node_frame-in-Node.was (handed_on c.from_residual-in_err-node_frame-in-Node.ensures))

pub returns-in_ok-node_frame-in-Node : goal.returns-in_ok-node_frame-in-Node
returns-in_ok-node_frame-in-Node c = frame-node _ _ _ _ c.byte.ensures.0 c.in_ok-f.was c.kind_of.ensures c.in-Some.is c.in_order.ensures (ap not c.if-not-in_order.false) (ap meant c.in-Node.is) c.node_frame.ensures c.one_more-n.ensures (ended-behind _ _ c.in_ok-node_frame-in-Node.was c.ended-in-Node.ensures)
