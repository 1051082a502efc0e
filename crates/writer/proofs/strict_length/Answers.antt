-- The strict text's characters counted: at each turn those of one frame more.
use native.Mathlib.Omega.{arith}
use Rattle.writer.specs.LinesLaws.{length-start, length-within, length-on, length-end}
use Rattle.writer.proofs.strict_length.Goals as goal

pub loop-i-init : goal.loop-i-init
loop-i-init c = length-start _ _ _

pub overflow_mul-total : goal.overflow_mul-total
overflow_mul-total c = omega (arith, length-within c.loop-i.invariant c.loop-i-test.true c.frame_line-line.ensures c.byte_count-bytes.ensures, c.requires)

pub overflow_add-total : goal.overflow_add-total
overflow_add-total c = omega (arith, length-within c.loop-i.invariant c.loop-i-test.true c.frame_line-line.ensures c.byte_count-bytes.ensures, c.requires)

pub overflow_add-total-in-loop-i : goal.overflow_add-total-in-loop-i
overflow_add-total-in-loop-i c = omega (arith, length-within c.loop-i.invariant c.loop-i-test.true c.frame_line-line.ensures c.byte_count-bytes.ensures, c.requires)

pub loop-i-preserved : goal.loop-i-preserved
loop-i-preserved c = length-on c.loop-i.invariant c.loop-i-test.true c.frame_line-line.ensures c.byte_count-bytes.ensures

pub returns : goal.returns
returns c = length-end c.loop-i.invariant c.loop-i-test.false
