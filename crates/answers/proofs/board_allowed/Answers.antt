-- Each test is one of the definition's.
use mathlib.Core.Path.{refl}
use Rattle.answers.specs.LendLaws.{cells_over, slots-over, calls-judged}
use Rattle.answers.proofs.board_allowed.Goals as goal

pub returns-then-b-gt-CELLS_MOST : goal.returns-then-b-gt-CELLS_MOST
returns-then-b-gt-CELLS_MOST c = cells_over c.if-b-gt-CELLS_MOST.true

pub returns-then-b-gt-SLOTS_MOST : goal.returns-then-b-gt-SLOTS_MOST
returns-then-b-gt-SLOTS_MOST c = slots-over c.if-b-gt-CELLS_MOST.false c.if-b-gt-SLOTS_MOST.true

pub returns : goal.returns
returns c = calls-judged c.if-b-gt-CELLS_MOST.false c.if-b-gt-SLOTS_MOST.false refl
