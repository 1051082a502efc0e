-- The cells of all channels, those of the inputs again, and the updates' heap, each sum stopped.
use Rattle.cells.specs.Counts.{table_words}
use mathlib.Core.Path.{refl}
use Rattle.checker.specs.NeedLaws.{needs-all}
use Rattle.checker.proofs.needed.Goals as goal

pub returns : goal.returns
returns c = needs-all table_words c.frame_counts-n.ensures.0 refl c.channels_cells-all.ensures c.channels_cells-inputs.ensures c.capped_sum-channel_cells.ensures c.capped_sum-heap.ensures
