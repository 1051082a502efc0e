-- All words cleared, then the cells, the channels, and how many cells are used.
use Rattle.initial_state.specs.StateLaws.{state-laid}
use Rattle.initial_state.proofs.put_initial_state.Goals as goal

pub returns : goal.returns
returns c = state-laid c.find_initial_ends.ensures _ c.clear.ensures c.frame_counts-counts.ensures.0 c.lay_initial_values-used.ensures c.put_used_cells.ensures
