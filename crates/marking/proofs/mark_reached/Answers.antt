-- The channels' cells, then what they name.
use Rattle.marking.specs.MarkLaws.{reached-marked}
use Rattle.marking.proofs.mark_reached.Goals as goal

pub returns : goal.returns
returns c = reached-marked c.mark_channels.ensures c.visit_all.ensures
