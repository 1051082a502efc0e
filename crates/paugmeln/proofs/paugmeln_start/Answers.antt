-- The call for the board of these numbers; the list has what the words fill.
use Rattle.startup.specs.StartLaws.{delivered}
use Rattle.paugmeln.specs.Answers.{starts-board}
use Rattle.paugmeln.proofs.paugmeln_start.Goals as goal

pub returns : goal.returns
returns c = delivered (starts-board c.lent_board.ensures c.start_words-r.ensures) c.fill.ensures
