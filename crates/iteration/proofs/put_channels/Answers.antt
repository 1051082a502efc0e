-- The channels' cells written.
use native.Mathlib.Omega.{arith}
use Rattle.iteration.specs.WholeLaws.{put-none, put-more, put-long, put-done}
use Rattle.iteration.proofs.put_channels.Goals as goal

pub loop-c-init : goal.loop-c-init
loop-c-init c = (put-none _ _, omega arith)

pub loop-c-preserved : goal.loop-c-preserved
loop-c-preserved c = (put-more c.loop-c.invariant.0 c.word_at.ensures c.put_channel_cell.ensures, omega (arith, c.loop-c-test.true))

pub shape_of-state : goal.shape_of-state
shape_of-state c = put-long c.loop-c.invariant.0

pub returns : goal.returns
returns c = put-done c.loop-c.invariant.0 c.loop-c.invariant.1 c.loop-c-test.false
