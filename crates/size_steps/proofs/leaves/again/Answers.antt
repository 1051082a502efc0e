-- A call of an instance that was entered before: only the measure is tested.
use Rattle.size_steps.specs.Lookups.{again-refused, again-found}
use Rattle.size_steps.proofs.leaves.again.Goals as goal

pub returns-then-not-may_call : goal.returns-then-not-may_call
returns-then-not-may_call c = again-refused c.may_call.ensures c.if-not-may_call.true

pub returns : goal.returns
returns c = again-found c.may_call.ensures c.if-not-may_call.false c.result_word.ensures c.from-ty.ensures c.numbers.ensures c.leaf.ensures
