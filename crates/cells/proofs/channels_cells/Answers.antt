-- The cells of the first channels, one channel after the other.
use native.Mathlib.Omega.{arith}
use Rattle.cells.specs.ChannelLaws.{channels-start, channels-on, channels-end}
use Rattle.cells.proofs.channels_cells.Goals as goal

pub loop-i-init : goal.loop-i-init
loop-i-init c = (omega arith, channels-start _ _ _)

pub loop-i-preserved : goal.loop-i-preserved
loop-i-preserved c = (omega (arith, c.loop-i-test.true), channels-on c.loop-i.invariant.1 c.loop-i-test.true c.declared_word-word.ensures c.cells_of-one.ensures c.capped_sum-sum.ensures)

pub returns : goal.returns
returns c = channels-end c.loop-i.invariant.1 c.loop-i.invariant.0 c.loop-i-test.false
