-- The bodies first, then the updates, whose lines stand behind them.
use Rattle.ends.specs.ToldLaws.{updates-told, readings_told}
use Rattle.ends.proofs.find_ends.Goals as goal

pub returns : goal.returns
returns c = (updates-told c.frame_counts-c.ensures.0 c.lines_ends.ensures c.updates_ends.ensures, readings_told c.frame_counts-c.ensures.0 c.updates_ends.ensures)
