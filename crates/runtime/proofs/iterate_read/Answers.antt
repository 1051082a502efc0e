-- An iteration of a file that was read: a return each for refusal 9 and 25, and what follows.
use Rattle.checker.specs.CheckLaws.{few-channels}
use Rattle.runtime.specs.IterateLaws.{types-refused, order-refused, walked}
use Rattle.runtime.proofs.iterate_read.Goals as goal

pub returns-in-Some : goal.returns-in-Some
returns-in-Some c = types-refused c.requires.read_held _ _ _ _ _ c.in-Some.ensures

pub self_reading_frame-node-requires : goal.self_reading_frame-node-requires
self_reading_frame-node-requires c = few-channels c.requires.read_held

pub returns-in-Some-node : goal.returns-in-Some-node
returns-in-Some-node c = order-refused c.requires.read_held _ _ _ _ _ c.in_default.ensures c.find_ends.ensures.1 c.in-Some-node.ensures

pub iterate_ordered-requires : goal.iterate_ordered-requires
iterate_ordered-requires c = record { walked = walked c.requires.read_held c.in_default.ensures c.find_ends.ensures.0 c.find_ends.ensures.1 c.in_default-node.ensures; cleared = c.requires.cleared }
