-- The list, then the buffers.
use Rattle.answers.specs.LendLaws.{list-short, list_long}
use Rattle.answers.proofs.all_lent.Goals as goal

pub returns-then-not-lent : goal.returns-then-not-lent
returns-then-not-lent c = list-short c.lent.ensures c.if-not-lent.true

pub returns : goal.returns
returns c = list_long c.lent.ensures c.if-not-lent.false c.buffers_lent.ensures
