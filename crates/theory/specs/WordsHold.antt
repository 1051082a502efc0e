-- A typed state, written into the words of a board that has cells for all channels, is held by them: also where the words held a state
-- for a board of more cells before.
use Rattle.std.specs.Prelude.{ℕ, ◌+◌, ◌-◌, ◌*◌, ◌≤◌, List, [], ◌∷◌, ◌++◌, true, ◌≡◌, refl, length, take, drop}
use Rattle.std.proofs.Math.Option.{some}
use Rattle.std.proofs.Common.{arith, take-add, drop-drop}
use Rattle.std.proofs.Math.Seq.{drop_at}
use Rattle.language.specs.Limits.{cell_words}
use Rattle.language.specs.Syntax.{File}
use Rattle.language.specs.Within.{Within}
use Rattle.language.specs.Heap.{Tree}
use Rattle.language.specs.Cells.{channel_cells}
use Rattle.language.specs.Slide.{State}
use Rattle.language.specs.Layout.{state_length, state_words, all_zero, load_state}
use Rattle.language.specs.Machine.{written}
use Rattle.language.specs.Run.{channel_trees, Holds}
use Rattle.theory.specs.Tests.{whenever-is}
use Rattle.theory.specs.Lists.{both_right}
use Rattle.theory.specs.TypedStates.{StateTyped, channels-fit}
use Rattle.theory.specs.CellsKept.{state-cells-at-most}
use Rattle.theory.specs.StateWords.{state-words-length, state-load-back, loaded-laid-out, load-on-more}

zero-back : (ws vs : List ℕ) → all_zero (ws ++ vs) ≡ true → all_zero vs ≡ true
unfolding all_zero
zero-back [] vs e = e
zero-back (w ∷ ws) vs e = zero-back ws vs (both_right _ _ e)

-- the words of a state are zero beyond any cells that it fits in
beyond-zero : (P : File) {cells m : ℕ} (ws : List ℕ) {s : State} → load_state P cells ws ≡ some s → length s.heap ≤ m → m ≤ cells → all_zero (take (cell_words * (cells - m)) (drop (state_length m) ws)) ≡ true
beyond-zero P {cells} {m} ws {s} e room le =
    let count = length s.heap in
    let rest = drop (state_length count) ws in
    let between = cell_words * (m - count) in
    let all : between + cell_words * (cells - m) ≡ cell_words * (cells - count) = omega arith in
    let place : state_length count + between ≡ state_length m = omega arith in
    zero-back (take between rest) _ (rw (← place, ← (drop-drop between (state_length count) ws), ← (take-add between (cell_words * (cells - m)) rest), all) (whenever-is (loaded-laid-out P cells ws) e).0.rest)

module _ {P : File} (within : Within P) where
  loaded-holds : {cells : ℕ} {ws : List ℕ} {s : State} → StateTyped P s → load_state P cells ws ≡ some s → Holds P cells ws (channel_trees s)
  loaded-holds {s} t e = record { state = s; valid = e; trees = refl; fit = channels-fit t.holds; few = state-cells-at-most within t }

  module _ {s : State} (t : StateTyped P s) {m : ℕ} (all_fit : channel_cells P ≤ m) (ws : List ℕ) where
    room : length s.heap ≤ m
    room = omega (arith, state-cells-at-most within t)

    pub written-loads : load_state P m (written m s ws) ≡ some s
    unfolding written
    written-loads = state-load-back within t m room (drop (state_length m) ws)

    pub written-holds : Holds P m (written m s ws) (channel_trees s)
    written-holds = loaded-holds t written-loads

    -- the words beyond are untouched
    pub written-beyond : drop (state_length m) (written m s ws) ≡ drop (state_length m) ws
    unfolding written
    written-beyond = drop_at (state_words m s) (drop (state_length m) ws) (state_length m) (state-words-length m s room)

    pub rewritten-holds : {cells : ℕ} {vs : List Tree} → Holds P cells ws vs → m ≤ cells → Holds P cells (written m s ws) (channel_trees s)
    rewritten-holds {cells} h le = loaded-holds t (load-on-more P (written m s ws) le (rw written-beyond (beyond-zero P ws h.valid (omega (arith, h.few)) le)) written-loads)
