-- Each row by itself.
use Rattle.answers.proofs.clear_both.Goals as goal

pub returns : goal.returns
returns c = record { first_is = c.clear.ensures; second_is = c.clear-2.ensures }
