-- A word of the lent table at its place.
use mathlib.Core.Path.{ap, ◌∙◌}
use lib.ListN.{get_or}
use Rattle.cells.proofs.known.Goals as goal

pub returns : goal.returns
returns c = c.word_at.ensures ∙ ap (λ i. get_or c.args.table.now i 0) c.place_of.ensures
