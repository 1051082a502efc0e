-- `condition` meets its contract, return by return.
use Rattle.sizes.specs.ConditionLaws.{sides-fit, condition-judged}
use Rattle.sizes.proofs.condition.Goals as goal

pub overflow_add-x : goal.overflow_add-x
overflow_add-x c = record { fits = sides-fit c.work_out-x.ensures.added_less c.work_out-y.ensures.taken_less }

pub overflow_add-y : goal.overflow_add-y
overflow_add-y c = record { fits = sides-fit c.work_out-y.ensures.added_less c.work_out-x.ensures.taken_less }

pub returns : goal.returns
returns c = condition-judged _ _ _ c.read-f.ensures c.work_out-x.ensures c.work_out-y.ensures c.compare-holds.ensures
