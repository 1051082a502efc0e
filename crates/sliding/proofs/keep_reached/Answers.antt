-- Marked, moved, cleared, renumbered.
use Rattle.sliding.specs.FinishLaws.{reached-kept}
use Rattle.sliding.proofs.keep_reached.Goals as goal

pub returns : goal.returns
returns c = reached-kept c.requires.channels_le_channels_most c.requires.used_in_bounds c.mark_reached.ensures c.sweep-kept.ensures c.clear_cells.ensures c.renumber_channels.ensures c.put_used_cells.ensures c.clear.ensures
