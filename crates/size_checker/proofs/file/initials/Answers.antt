-- Initial values: the list cleared, the counts tested.
use Rattle.size_laws.specs.ChannelLaws.{limited-few, limited-many}
use Rattle.size_laws.specs.FileLaws.{initials-many, initials-done}
use Rattle.size_checker.proofs.file.initials.Goals as goal

pub returns-then-not-limited-clause-sized : goal.returns-then-not-limited-clause-sized
returns-then-not-limited-clause-sized c = initials-many (limited-many c.limited.ensures c.if-not-limited.true)

pub channels_from-requires : goal.channels_from-requires
channels_from-requires c = limited-few c.limited.ensures c.if-not-limited.false

pub returns-clause-sized : goal.returns-clause-sized
returns-clause-sized c = initials-done _ (limited-few c.limited.ensures c.if-not-limited.false) c.clear.ensures c.channels_from.ensures.sized
