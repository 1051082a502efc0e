-- The record is within the words, then the function is compared, then its sizes.
use Rattle.instances.specs.FindLaws.{other-function, same-function}
use Rattle.instances.proofs.is_instance.Goals as goal

pub returns-then-list-at-2 : goal.returns-then-list-at-2
returns-then-list-at-2 c = other-function c.if-list-at-2.true

pub returns : goal.returns
returns c = same-function c.if-list-at-2.false c.same_sizes.ensures
