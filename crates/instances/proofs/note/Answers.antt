-- A hint, and the word of the result type behind the hints.
use Rattle.instances.specs.WriteLaws.{noted}
use Rattle.instances.proofs.note.Goals as goal

pub returns : goal.returns
returns c = noted _ _ c.put-arg-1.given.0.1 c.hint_place-place.ensures c.put.ensures c.put-2.ensures
