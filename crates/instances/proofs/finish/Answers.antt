-- The numbers of a record stored over its old ones.
use Rattle.instances.specs.WriteLaws.{finished}
use Rattle.instances.proofs.finish.Goals as goal

pub returns : goal.returns
returns c = finished _ _ _ c.if-list-at.false c.put_numbers.ensures
