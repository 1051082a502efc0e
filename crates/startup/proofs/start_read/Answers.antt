-- A refusal of the checker, or the state at the start in the board's words.
use native.Mathlib.Omega.{arith}
use Rattle.startup.specs.StartLaws.{start-refused, words-there, words-cut, slots-there, slots-cut, board-there, start-done}
use Rattle.startup.proofs.start_read.Goals as goal

pub check_read-r-requires : goal.check_read-r-requires
check_read-r-requires c = c.requires

pub returns-then-r-ne-NO_REFUSAL : goal.returns-then-r-ne-NO_REFUSAL
returns-then-r-ne-NO_REFUSAL c = start-refused _ _ _ _ _ c.all_lent-given.ensures c.check_read-r.ensures (λ z. omega (arith, z, c.if-r-ne-NO_REFUSAL.true))

pub slice_bounds-put_initial_state-end : goal.slice_bounds-put_initial_state-end
slice_bounds-put_initial_state-end c = words-there _ _ c.args.state.now c.args.scratch.now c.args.slots.now c.all_lent-given.ensures c.check_read-r.ensures (omega (arith, c.if-r-ne-NO_REFUSAL.false)) c.state_length-state_words.ensures

pub slice_bounds-put_initial_state-end-2 : goal.slice_bounds-put_initial_state-end-2
slice_bounds-put_initial_state-end-2 c = words-cut _ _ c.args.state.now c.args.scratch.now c.args.slots.now c.all_lent-given.ensures c.check_read-r.ensures (omega (arith, c.if-r-ne-NO_REFUSAL.false)) c.state_length-state_words.ensures

pub slice_bounds-put_initial_state-end-3 : goal.slice_bounds-put_initial_state-end-3
slice_bounds-put_initial_state-end-3 c = slots-there _ _ c.args.state.now c.args.scratch.now c.args.slots.now c.all_lent-given.ensures c.check_read-r.ensures (omega (arith, c.if-r-ne-NO_REFUSAL.false)) c.state_length-state_words.ensures

pub slice_bounds-put_initial_state-end-4 : goal.slice_bounds-put_initial_state-end-4
slice_bounds-put_initial_state-end-4 c = slots-cut _ _ c.args.state.now c.args.scratch.now c.args.slots.now c.all_lent-given.ensures c.check_read-r.ensures (omega (arith, c.if-r-ne-NO_REFUSAL.false)) c.state_length-state_words.ensures

pub put_initial_state-requires : goal.put_initial_state-requires
put_initial_state-requires c = board-there _ _ c.args.state.now c.args.scratch.now c.args.slots.now c.all_lent-given.ensures c.check_read-r.ensures (omega (arith, c.if-r-ne-NO_REFUSAL.false)) c.state_length-state_words.ensures

pub returns : goal.returns
returns c = start-done _ _ _ _ _ c.all_lent-given.ensures c.check_read-r.ensures (omega (arith, c.if-r-ne-NO_REFUSAL.false)) c.state_length-state_words.ensures c.requires c.put_initial_state.ensures
