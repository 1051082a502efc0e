-- The answer for a text, by what the reader gives.
use Rattle.paugmeln.specs.Answers.{text-answered}
use Rattle.paugmeln.proofs.paugmeln_read.Goals as goal

pub returns : goal.returns
returns c = text-answered c.read.ensures c.from.ensures
