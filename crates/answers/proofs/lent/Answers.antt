-- The board first, then the list.
use mathlib.Core.Path.{refl}
use Rattle.answers.specs.LendLaws.{board-over, list-judged}
use Rattle.answers.proofs.lent.Goals as goal

pub returns-then-not-board_allowed : goal.returns-then-not-board_allowed
returns-then-not-board_allowed c = board-over c.board_allowed.ensures c.if-not-board_allowed.true

pub returns : goal.returns
returns c = list-judged c.board_allowed.ensures c.if-not-board_allowed.false refl
