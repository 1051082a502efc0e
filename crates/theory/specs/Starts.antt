-- Start: where an accepted file's numbers are lent, it answers with them and leaves words that hold a valid state, whose channels
-- hold the initial trees.
use Rattle.std.specs.Prelude.{ℕ, List, [], ◌≡◌, drop}
use Rattle.std.proofs.Math.Option.{some}
use Rattle.language.specs.Result.{ok, both}
use Rattle.language.specs.Syntax.{File}
use Rattle.language.specs.Within.{all_nil}
use Rattle.language.specs.Estimate.{Estimate}
use Rattle.language.specs.Layout.{state_length, load_state}
use Rattle.language.specs.Machine.{accepted, answer, check_file, verdict_of, list_lent, buffers_lent, start_state, written, start_words, start}
use Rattle.language.specs.PlainMachine.{initial_trees}
use Rattle.language.specs.Run.{channel_trees, FirstCall, StartAllowed, Holds, begun}
use Rattle.theory.specs.Lists.{both_true}
use Rattle.theory.specs.TypedStates.{StateTyped}
use Rattle.theory.specs.Builds.{all_build}
use Rattle.theory.specs.TypedBuilds.{built-state-typed}
use Rattle.theory.specs.AcceptedFiles.{AcceptedFile, channels-have-room, accepted_as, checks-again, judged-again}
use Rattle.theory.specs.InitialTrees.{initial-trees-fit}
use Rattle.theory.specs.WordsHold.{written-loads, written-holds, written-beyond}

-- what the first call does
pub record StartGoes (t : List ℕ) (P : File) (x : Estimate) (c : FirstCall) : Type 0 where
  pub answers : (begun t c).answer ≡ answer (accepted x)
  pub loads : load_state P c.board.cells (begun t c).state ≡ some (start_state P)
  pub holds : Holds P c.board.cells (begun t c).state (initial_trees P)
  pub beyond : drop (state_length c.board.cells) (begun t c).state ≡ drop (state_length c.board.cells) c.state

-- the state at the start holds the initial trees
pub start-trees : (P : File) → channel_trees (start_state P) ≡ initial_trees P
unfolding start_state
start-trees P = (all_build P (initial_trees P) [] [] all_nil).trees

module _ {t : List ℕ} {P : File} {x : Estimate} (a : AcceptedFile t P x) where
  pub start-typed : StateTyped P (start_state P)
  unfolding start_state
  start-typed = built-state-typed P (initial_trees P) (initial-trees-fit a)

  module _ {c : FirstCall} (call : StartAllowed x c) where
    start-checks : check_file t (both (list_lent c.board c.list) (buffers_lent c.board c.state c.scratch c.slots)) ≡ ok (accepted_as a)
    start-checks = checks-again a _ (both_true call.list call.buffers)

    start-accepts : verdict_of c.board (ok (accepted_as a)) ≡ accepted x
    unfolding verdict_of
    start-accepts = judged-again a c.board call.enough

    start-answers : (begun t c).answer ≡ answer (accepted x)
    unfolding start
    start-answers = rw (start-checks, start-accepts)

    pub start-writes : (begun t c).state ≡ written c.board.cells (start_state P) c.state
    unfolding start start_words
    start-writes = rw (start-checks, start-accepts)

    pub starts : StartGoes t P x c
    starts =
        let room = channels-have-room a call.enough in
        record {
          answers = start-answers;
          loads = rw start-writes (written-loads a.within start-typed room c.state);
          holds = rw (start-writes, ← (start-trees P)) (written-holds a.within start-typed room c.state);
          beyond = rw start-writes (written-beyond a.within start-typed room c.state);
        }
