-- A word of the lent table stored at its place.
use Prim.Native.Nat.{◌+◌}
use mathlib.Core.Path.{ap, ◌∙◌}
use lib.ListN.{set}
use Rattle.cells.proofs.note.Goals as goal

pub returns : goal.returns
returns c = c.put.ensures ∙ ap (λ i. set c.args.table.now i (1 + c.args.number)) c.place_of.ensures
