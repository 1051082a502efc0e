-- A line's bytes counted: at each turn one more is read and one fewer is left.
use native.Mathlib.Omega.{arith}
use Rattle.writer.specs.LineLaws.{byte-less, count-start, count-few, count-on, count-end}
use Rattle.writer.proofs.byte_count.Goals as goal

pub loop-f-init : goal.loop-f-init
loop-f-init c = count-start _

pub returns : goal.returns
returns c = count-end c.loop-f.invariant c.byte.ensures.0 c.in_default.is

pub overflow_add-n : goal.overflow_add-n
overflow_add-n c = omega (arith, count-few c.loop-f.invariant c.byte.ensures.0 c.in-Ok.is)

pub loop-f-smaller : goal.loop-f-smaller
loop-f-smaller c = byte-less c.byte.ensures.0 c.in-Ok.is

pub loop-f-preserved : goal.loop-f-preserved
loop-f-preserved c = count-on c.loop-f.invariant c.byte.ensures.0 c.in-Ok.is
