-- Each record of the words put over the empty ones.
use Rattle.std.proofs.Common.{arith, add-one}
use Rattle.instance_list.specs.Records.{laid}
use Rattle.instance_list.proofs.fill.Goals as goal

pub loop-i-init : goal.loop-i-init
unfolding laid
loop-i-init c = record { low = omega arith; laid_so_far = c.clear.ensures }

pub loop-i-preserved : goal.loop-i-preserved
unfolding laid
loop-i-preserved c = record { low = omega arith; laid_so_far = rw add-one (cc) }
