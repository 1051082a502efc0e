-- Each test is one of the definition's.
use mathlib.Core.Path.{refl}
use Rattle.answers.specs.LendLaws.{board-too-large, state-short, scratch-short, slots-judged}
use Rattle.answers.proofs.buffers_lent.Goals as goal

pub returns-then-not-board_allowed : goal.returns-then-not-board_allowed
returns-then-not-board_allowed c = board-too-large c.board_allowed.ensures c.if-not-board_allowed.true

pub returns-then-state-state_length : goal.returns-then-state-state_length
returns-then-state-state_length c = state-short c.board_allowed.ensures c.if-not-board_allowed.false c.state_length.ensures c.if-state-state_length.true

pub returns-then-scratch-lt-SCRATCH_WORDS : goal.returns-then-scratch-lt-SCRATCH_WORDS
returns-then-scratch-lt-SCRATCH_WORDS c = scratch-short c.board_allowed.ensures c.if-not-board_allowed.false c.state_length.ensures c.if-state-state_length.false c.if-scratch-lt-SCRATCH_WORDS.true

pub returns : goal.returns
returns c = slots-judged c.board_allowed.ensures c.if-not-board_allowed.false c.state_length.ensures c.if-state-state_length.false c.if-scratch-lt-SCRATCH_WORDS.false refl
