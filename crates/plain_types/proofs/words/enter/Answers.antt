-- Words entered one by one: at each turn those before are in the scope.
use Rattle.plain_types.specs.EnterLaws.{entered-none, entered-more, entered_all}
use Rattle.plain_types.proofs.words.enter.Goals as goal

pub loop-i-init : goal.loop-i-init
loop-i-init c = entered-none _ _ _ _

pub loop-i-preserved : goal.loop-i-preserved
loop-i-preserved c = entered-more _ _ _ _ _ c.loop-i.invariant c.wanted-of.ensures c.from.ensures c.put.ensures

pub returns : goal.returns
returns c = entered_all _ _ _ _ (c.loop-i.auto.i-end, c.loop-i.invariant) c.loop-i-test.false
