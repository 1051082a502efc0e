-- `conditions_hold` meets its contract, return by return.
use Rattle.sizes.specs.ConditionLaws.{conditions-counted}
use Rattle.sizes.proofs.conditions_hold.Goals as goal

pub returns : goal.returns
returns c = conditions-counted _ _ _ c.read-f.ensures c.conditions.ensures
