use native.Mathlib.Omega.{arith}
use Rattle.text_lines.specs.LinesEights.{eight-marked}
use Rattle.text_lines.proofs.eight_digits.Goals as goal

pub pair_mark-first-requires : goal.pair_mark-first-requires
pair_mark-first-requires c = omega (arith, c.requires)

pub overflow_add-at : goal.overflow_add-at
overflow_add-at c = omega (arith, c.requires)

pub pair_mark-second-requires : goal.pair_mark-second-requires
pair_mark-second-requires c = omega (arith, c.requires)

pub overflow_add-at-2 : goal.overflow_add-at-2
overflow_add-at-2 c = omega (arith, c.requires)

pub pair_mark-third-requires : goal.pair_mark-third-requires
pair_mark-third-requires c = omega (arith, c.requires)

pub overflow_add-at-3 : goal.overflow_add-at-3
overflow_add-at-3 c = omega (arith, c.requires)

pub pair_mark-fourth-requires : goal.pair_mark-fourth-requires
pair_mark-fourth-requires c = omega (arith, c.requires)

pub returns : goal.returns
returns c = eight-marked c.pair_mark-first.ensures c.pair_mark-second.ensures c.pair_mark-third.ensures c.pair_mark-fourth.ensures
