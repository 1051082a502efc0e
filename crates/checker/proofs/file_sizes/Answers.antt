-- A return each for refusal 9, 25 and 18, and what the sizes give.
use Rattle.std.proofs.Common.{arith}
use Rattle.checker.specs.CheckLaws.{few-channels, types-refused, order-refused, ordered, lent-refused, sizes-found}
use Rattle.checker.proofs.file_sizes.Goals as goal

pub returns-in-Some : goal.returns-in-Some
returns-in-Some c = types-refused c.requires _ c.in-Some.ensures

pub self_reading_frame-node-requires : goal.self_reading_frame-node-requires
self_reading_frame-node-requires c = few-channels c.requires

pub returns-in-Some-node : goal.returns-in-Some-node
returns-in-Some-node c = order-refused c.requires _ c.in_default.ensures c.find_readings.ensures c.in-Some-node.ensures

pub returns-then-not-given : goal.returns-then-not-given
returns-then-not-given c = lent-refused (ordered c.requires c.in_default.ensures c.find_readings.ensures c.in_default-node.ensures) _ c.if-not-given.true

pub returns : goal.returns
returns c = sizes-found (ordered c.requires c.in_default.ensures c.find_readings.ensures c.in_default-node.ensures) _ c.if-not-given.false (omega arith) c.sized_file.ensures
