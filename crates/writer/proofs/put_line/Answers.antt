-- A line stored: at each turn the pair of one byte more, and LF behind the last.
use mathlib.Core.Path.{refl}
use native.Mathlib.Omega.{arith}
use Rattle.text.specs.StepLaws.{number-below}
use Rattle.writer.specs.LineLaws.{byte-less, line-start, line_kept, feed-fits, pair_fits, line_on, line-end}
use Rattle.writer.proofs.put_line.Goals as goal

pub loop-f-init : goal.loop-f-init
loop-f-init c = line-start _ _ _

pub bounds-buffer-at : goal.bounds-buffer-at
bounds-buffer-at c = feed-fits c.loop-f.invariant c.requires

pub overflow_add-result : goal.overflow_add-result
overflow_add-result c = omega (arith, feed-fits c.loop-f.invariant c.requires, line_kept c.loop-f.invariant)

pub returns : goal.returns
returns c = line-end c.loop-f.invariant c.byte.ensures.0 c.in_default.is refl

pub put_pair-requires : goal.put_pair-requires
put_pair-requires c = record { at_in_bounds = pair_fits c.loop-f.invariant c.requires c.byte.ensures.0 c.in-Ok.is; byte_lt_byte_range = number-below c.byte.ensures.1 c.in-Ok.is }

pub overflow_add-at : goal.overflow_add-at
overflow_add-at c = omega (arith, pair_fits c.loop-f.invariant c.requires c.byte.ensures.0 c.in-Ok.is, line_kept c.loop-f.invariant)

pub loop-f-smaller : goal.loop-f-smaller
loop-f-smaller c = byte-less c.byte.ensures.0 c.in-Ok.is

pub loop-f-preserved : goal.loop-f-preserved
loop-f-preserved c = line_on c.loop-f.invariant c.byte.ensures.0 c.in-Ok.is c.put_pair.ensures
