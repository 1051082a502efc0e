-- The record that the hint names, if it is the instance; else what the walk gives.
use Rattle.instances.specs.FindLaws.{hint-found}
use Rattle.instances.proofs.find.Goals as goal

pub returns-then-is_instance : goal.returns-then-is_instance
returns-then-is_instance c = hint-found c.if-k-gt0.true c.if-k-used.true c.is_instance.ensures c.if-is_instance.true
