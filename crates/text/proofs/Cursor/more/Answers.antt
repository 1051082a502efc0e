-- A byte is left where two characters are, behind the spaces.
use native.Mathlib.Omega.{arith}
use Rattle.text.specs.ReadLaws.{no_more, more-by-pair}
use Rattle.text.proofs.Cursor.more.Goals as goal

pub returns-then-line-at : goal.returns-then-line-at
returns-then-line-at c = no_more _ _ c.pair_start-at.ensures (omega (arith, c.if-line-at.true))

pub returns : goal.returns
returns c = more-by-pair _ _ c.pair_start-at.ensures
