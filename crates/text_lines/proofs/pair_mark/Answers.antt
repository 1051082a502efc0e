use Prim.Native.Nat.{◌+◌}
use native.Mathlib.Omega.{arith}
use Rattle.text_lines.specs.LinesEights.{pair-marked}
use Rattle.text_lines.proofs.pair_mark.Goals as goal

pub bounds-text-at : goal.bounds-text-at
bounds-text-at c = omega (arith, c.requires)

pub overflow_cast-result : goal.overflow_cast-result
overflow_cast-result c = omega (arith, c.shared_slice_known-1.given c.args.at)

pub bounds-digits-text : goal.bounds-digits-text
bounds-digits-text c = omega (arith, c.shared_slice_known-1.given c.args.at)

pub overflow_add-result : goal.overflow_add-result
overflow_add-result c = omega (arith, c.requires)

pub bounds-text-at-2 : goal.bounds-text-at-2
bounds-text-at-2 c = omega (arith, c.requires)

pub overflow_cast-result-2 : goal.overflow_cast-result-2
overflow_cast-result-2 c = omega (arith, c.shared_slice_known-2-1.given (c.args.at + 1))

pub bounds-digits-text-2 : goal.bounds-digits-text-2
bounds-digits-text-2 c = omega (arith, c.shared_slice_known-2-1.given (c.args.at + 1))

pub returns : goal.returns
returns c = pair-marked c.requires
