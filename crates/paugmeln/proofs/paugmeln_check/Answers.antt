-- The call for the board of these numbers; the list has what the words fill.
use Rattle.checker.specs.Outcomes.{delivered}
use Rattle.paugmeln.specs.Answers.{checks-board}
use Rattle.paugmeln.proofs.paugmeln_check.Goals as goal

pub returns : goal.returns
returns c = delivered (checks-board c.lent_board-b.ensures c.check_words-r.ensures) c.fill.ensures
