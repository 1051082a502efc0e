-- The frame of the lowest node that reads itself.
use mathlib.Core.Path.{refl}
use Rattle.node_order.specs.FileLaws.{order-none, order-refused}
use Rattle.node_order.proofs.self_reading_frame.Goals as goal

pub returns-in_err-i : goal.returns-in_err-i
returns-in_err-i c = order-none c.frame_counts-counts.ensures.0 c.self_reader.ensures c.in_err-i.was c.from_residual.ensures

pub returns : goal.returns
returns c = order-refused c.frame_counts-counts.ensures.0 c.self_reader.ensures c.in_ok-i.was c.channel_line.ensures refl
