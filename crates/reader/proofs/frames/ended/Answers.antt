-- A frame's end: refused where bytes go on, or taken.
use Rattle.reader.specs.EndedLaws.{ended-goes-on, ended-there}
use Rattle.reader.proofs.frames.ended.Goals as goal

pub returns-then-more : goal.returns-then-more
returns-then-more c = ended-goes-on _ _ _ c.more.ensures c.if-more.true

pub returns : goal.returns
returns c = ended-there _ _ _ c.more.ensures c.if-more.false
