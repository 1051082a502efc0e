-- Iteration on words that hold a state of an accepted file, by a call that lends enough: an allowed line is answered 0, and the words
-- then hold the plain machine's next trees; any other is answered 19, and the words stay. 20 to 23 are never met.
use Rattle.std.specs.Prelude.{ℕ, List, ◌++◌, ◌≡◌, length, drop}
use Rattle.std.proofs.Math.Option.{Option, none, some}
use Rattle.std.proofs.Math.Path.{refl}
use Rattle.std.proofs.Common.{sym, ap, ◌∙◌, subst, arith}
use Rattle.language.specs.Refusals.{no_refusal, no_frame, bad_input_line}
use Rattle.language.specs.Result.{bind, need, from}
use Rattle.language.specs.Syntax.{File}
use Rattle.language.specs.Estimate.{Estimate}
use Rattle.language.specs.Heap.{Tree}
use Rattle.language.specs.Layout.{state_length, load_state}
use Rattle.language.specs.Line.{line_trees}
use Rattle.language.specs.Machine.{done, refusal, Answer, answer, buffers_lent, written, iterate_state, iterate_file, iterated, iterate}
use Rattle.language.specs.Order.{order}
use Rattle.language.specs.PlainMachine.{Nodes, Step, allowed, not_allowed}
use Rattle.language.specs.Run.{channel_trees, Call, CallAllowed, Holds, line_verdict, called}
use Rattle.theory.specs.PlainTypesAgree.{well-plain-passes}
use Rattle.theory.specs.Orderly.{acyclic-passes, own-order}
use Rattle.theory.specs.TypedStates.{StateTyped}
use Rattle.theory.specs.StateWords.{state-loaded, load-on-fewer}
use Rattle.theory.specs.AcceptedFiles.{AcceptedFile, channels-have-room}
use Rattle.theory.specs.WordsHold.{written-beyond, rewritten-holds}
use Rattle.theory.specs.InputsGo.{line-fits}
use Rattle.theory.specs.StatesGo.{StateGoes, state-goes}

-- what one call does: it answers as the line is allowed or not, the words hold the trees that the plain machine steps to, and those
-- beyond the call's board are untouched
pub record LineGoes (t : List ℕ) (P : File) (cells : ℕ) (ws : List ℕ) (vs : List Tree) (c : Call) : Type 0 where
  pub trees : List Tree
  pub answers : (called t ws c).answer ≡ answer (line_verdict (line_trees P c.line))
  pub steps : Step P vs c.line trees
  pub holds : Holds P cells (called t ws c).state trees
  pub beyond : drop (state_length c.board.cells) (called t ws c).state ≡ drop (state_length c.board.cells) ws

module _ {t : List ℕ} {P : File} {x : Estimate} (a : AcceptedFile t P x) {cells : ℕ} {ws : List ℕ} {vs : List Tree} (h : Holds P cells ws vs) {c : Call} (call : CallAllowed x cells ws c) where
  -- the call's board may have fewer cells than the words hold a state for
  loads-here : load_state P c.board.cells ws ≡ some h.state
  loads-here = load-on-fewer P ws call.few (omega (arith, h.few, channels-have-room a call.enough)) h.valid

  state-typed : StateTyped P h.state
  state-typed = (state-loaded a.within h.valid).typed

  reaches-line : iterate_file t c.board (buffers_lent c.board ws c.scratch c.slots) ws c.line ≡ from (line_trees P c.line) bad_input_line no_frame (λ us. iterate_state P c.board h.state us)
  unfolding iterate_file bind need from
  reaches-line = rw (a.read, well-plain-passes P _ a.plain, acyclic-passes P _ a.acyclic, call.buffers, loads-here)

  -- ---- any other line
  module _ (other : line_trees P c.line ≡ none) where
    pub other-line-is-refused : (called t ws c).answer ≡ answer (refusal bad_input_line no_frame)
    unfolding iterate iterated from
    other-line-is-refused = rw (reaches-line, other)

    pub other-line-keeps-words : (called t ws c).state ≡ ws
    unfolding iterate iterated from
    other-line-keeps-words = rw (reaches-line, other)

  -- ---- an allowed line
  module _ {us : List Tree} (is : line_trees P c.line ≡ some us) where
    pub goes_on : StateGoes P (order P) c.board h.state us
    goes_on = state-goes a state-typed us (line-fits P c.line is) call.enough (own-order a.within a.acyclic)

    pub allowed-line-is-done : (called t ws c).answer ≡ answer done
    unfolding iterate iterated iterate_state from
    allowed-line-is-done = rw (reaches-line, is, goes_on.is)

    allowed-line-writes : (called t ws c).state ≡ written c.board.cells goes_on.after ws
    unfolding iterate iterated iterate_state from
    allowed-line-writes = rw (reaches-line, is, goes_on.is)

    pub allowed-line-holds : Holds P cells (called t ws c).state (channel_trees goes_on.after)
    allowed-line-holds = rw allowed-line-writes (rewritten-holds a.within goes_on.typed (channels-have-room a call.enough) ws h call.few)

    pub allowed-line-stays-in-board : drop (state_length c.board.cells) (called t ws c).state ≡ drop (state_length c.board.cells) ws
    allowed-line-stays-in-board = rw allowed-line-writes (written-beyond a.within goes_on.typed (channels-have-room a call.enough) ws)

    pub allowed-line-steps : Step P vs c.line (channel_trees goes_on.after)
    allowed-line-steps = allowed is (subst (λ before. Nodes P before (order P) (us ++ drop (length P.inputs) before) (channel_trees goes_on.after)) h.trees goes_on.plain)

  -- ---- every line
  pub iterates : LineGoes t P cells ws vs c
  iterates = by-line (line_trees P c.line) refl
    where
      by-line : (o : Option (List Tree)) → line_trees P c.line ≡ o → LineGoes t P cells ws vs c
      by-line none is = record {
        trees = vs;
        answers = other-line-is-refused is ∙ ap (λ o. answer (line_verdict o)) (sym is);
        steps = not_allowed is;
        holds = rw (other-line-keeps-words is) h;
        beyond = ap (drop (state_length c.board.cells)) (other-line-keeps-words is);
      }
      by-line (some us) is = record {
        trees = channel_trees (goes_on is).after;
        answers = allowed-line-is-done is ∙ ap (λ o. answer (line_verdict o)) (sym is);
        steps = allowed-line-steps is;
        holds = allowed-line-holds is;
        beyond = allowed-line-stays-in-board is;
      }

  -- "Every answer to a line is 0 or 19, so no iteration runs short of heap, environment or stack, or meets a value too large."
  pub answers-0-or-19 : {X : Type 0} → ((called t ws c).answer.number ≡ no_refusal → X) → ((called t ws c).answer.number ≡ bad_input_line → X) → X
  unfolding answer
  answers-0-or-19 {X} zero nineteen = by-line (line_trees P c.line) refl
    where
      by-line : (o : Option (List Tree)) → line_trees P c.line ≡ o → X
      by-line none is = nineteen (ap (λ (r : Answer). r.number) (other-line-is-refused is))
      by-line (some us) is = zero (ap (λ (r : Answer). r.number) (allowed-line-is-done is))
