-- The call for the board of these numbers.
use Rattle.paugmeln.specs.Answers.{iterates-board}
use borrow.Author.Rules.{rules}
use Rattle.paugmeln.proofs.paugmeln_iterate.Goals as goal

pub returns : goal.returns
returns c = iterates-board c.lent_board-b.ensures c.iterate.ensures
