-- What each node reads directly or by others.
use Rattle.node_order.specs.RowLaws.{through-none, through-more, through-all}
use Rattle.node_order.proofs.read_through.Goals as goal

pub loop-k-init : goal.loop-k-init
loop-k-init c = through-none

pub loop-k-preserved : goal.loop-k-preserved
loop-k-preserved c = through-more c.loop-k.invariant c.loop-k-test.true c.read_on.ensures

pub returns : goal.returns
returns c = through-all c.loop-k.invariant c.loop-k.auto.k-end c.loop-k-test.false
