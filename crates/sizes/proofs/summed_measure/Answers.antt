-- `weight` meets its contract, return by return.
use Rattle.sizes.specs.ConditionLaws.{measures_counted}
use Rattle.sizes.proofs.summed_measure.Goals as goal

pub measures-requires : goal.measures-requires
measures-requires c = c.read-f.ensures.less

pub returns : goal.returns
returns c = measures_counted _ _ _ c.read-f.ensures c.measures.ensures
