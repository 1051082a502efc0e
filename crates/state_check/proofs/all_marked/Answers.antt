-- A mark at each turn, until one is missing.
use Rattle.state_check.specs.LoadLaws.{all_start, all-on, all-not}
use Rattle.state_check.proofs.all_marked.Goals as goal

pub loop-i-init : goal.loop-i-init
loop-i-init c = all_start _

pub returns-then-not-is_marked : goal.returns-then-not-is_marked
returns-then-not-is_marked c = all-not c.loop-i-test.true c.is_marked.ensures c.if-not-is_marked.true

pub loop-i-preserved : goal.loop-i-preserved
loop-i-preserved c = all-on c.loop-i.invariant c.is_marked.ensures c.if-not-is_marked.false
