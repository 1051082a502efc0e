-- Too short a state or scratch, words that are not laid out as a state, or as they are judged.
use native.Mathlib.Omega.{arith}
use Rattle.state_check.specs.LoadLaws.{state-short, scratch-short, state-unlaid, state-judged}
use Rattle.state_check.proofs.valid_state.Goals as goal

pub returns-then-state-state_length : goal.returns-then-state-state_length
returns-then-state-state_length c = state-short _ _ _ _ c.state_length.ensures c.if-state-state_length.true

pub returns-then-scratch-cells : goal.returns-then-scratch-cells
returns-then-scratch-cells c = scratch-short _ _ _ _ c.if-scratch-cells.true

pub returns-then-not-laid_out : goal.returns-then-not-laid_out
returns-then-not-laid_out c = state-unlaid _ _ _ _ c.state_length.ensures c.if-state-state_length.false c.if-scratch-cells.false c.used_cells-used.ensures c.frame_counts-counts.ensures.0 c.laid_out.ensures c.if-not-laid_out.true

pub returns : goal.returns
returns c = state-judged _ _ _ _ c.state_length.ensures c.if-state-state_length.false c.if-scratch-cells.false c.used_cells-used.ensures c.frame_counts-counts.ensures.0 c.laid_out.ensures c.if-not-laid_out.false (omega (arith, c.laid_out.ensures.room c.if-not-laid_out.false, c.if-scratch-cells.false)) c.state_right.ensures
