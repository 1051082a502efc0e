-- Demand 2 of the delivered calls, from their promises and the theorems on the machine.
use Rattle.std.specs.Prelude.{ℕ, List, ◌≡◌}
use Rattle.std.proofs.Common.{sym, ap, ◌∙◌, subst}
use Rattle.language.specs.Refusals.{no_refusal}
use Rattle.language.specs.Result.{both}
use Rattle.language.specs.Layout.{load_state}
use Rattle.language.specs.Machine.{Iterated, list_lent, buffers_lent, iterate}
use Rattle.language.specs.Acceptance.{CheckerDemand}
use Rattle.language.specs.Writing.{WriterDemand}
use Rattle.theory.specs.CheckerDemands.{start-demand}
use Rattle.theory.specs.StartSteps.{evaluator-demand}
use Rattle.theory.specs.Writes.{writer-demand}
use Rattle.instance_list.specs.declared.Instance.{Instance}
use Rattle.instance_list.specs.Records.{records_of}
use Rattle.answers.specs.declared.Board.{Board}
use Rattle.answers.specs.declared.Answer.{Answer}
use Rattle.answers.specs.Boards.{board_of, said}
use Rattle.checker.specs.AcceptsExactly.{checked-demand}
use Rattle.startup.specs.Starts.{Starts}
use Rattle.runtime.specs.Runs.{Iterates}
use Rattle.writer.specs.Writes.{Writes}
use Rattle.demands.specs.Delivered.{LeftBegun, LeftIterated, IterateJudged, Delivered2}

started-demand : {text state scratch slots state' scratch' slots' : List ℕ} {list list' : List Instance} {b : Board} {r : Answer} → Starts text b list state scratch slots r list' state' scratch' slots' →
    CheckerDemand text (both (list_lent (board_of b) (records_of list)) (buffers_lent (board_of b) state scratch slots)) (board_of b) (said r)
started-demand {text} {state} {scratch} {slots} {list = list} {b = b} s = subst (CheckerDemand text _ (board_of b)) (sym s.answer_is) (start-demand text (board_of b) (records_of list) state scratch slots)

left-begun : {text state scratch slots state' scratch' slots' : List ℕ} {list list' : List Instance} {b : Board} {r : Answer} → Starts text b list state scratch slots r list' state' scratch' slots' → r.number ≡ no_refusal → LeftBegun text b state state'
left-begun {text} {state} {scratch} {slots} {list = list} {b = b} s e =
    let d = evaluator-demand.starts text (board_of b) (records_of list) state scratch slots (sym (λ i. (s.answer_is i).number) ∙ e) in
    record {
      file = d.file;
      is = d.is;
      begun = d.begun;
      begins = d.begins;
      trees = d.trees;
      derives = d.derives;
      writes = s.state_is ∙ d.writes;
      valid = ap (load_state d.file b.cells) s.state_is ∙ d.valid;
    }

-- ---- an iteration: its answer and its state are the machine's
module _ {text state scratch slots line state' scratch' slots' : List ℕ} {b : Board} {r : Answer} (i : Iterates text b state scratch slots line r state' scratch' slots') where
  abbrev machine : Iterated
  machine = iterate text (board_of b) state scratch slots line

  number_is : machine.answer.number ≡ r.number
  number_is = sym (λ k. (i.is k).answer.number)

  frame_is : machine.answer.frame ≡ r.frame
  frame_is = sym (λ k. (i.is k).answer.frame)

  state_is : state' ≡ machine.state
  state_is = λ k. (i.is k).state

  left-iterated : r.number ≡ no_refusal → LeftIterated text b (buffers_lent (board_of b) state scratch slots) state line state'
  left-iterated e =
      let d = evaluator-demand.done text (board_of b) state scratch slots line (number_is ∙ e) in
      record { after = d.after; iterates = d.iterates; writes = state_is ∙ d.writes; valid = ap (load_state d.iterates.given.file b.cells) state_is ∙ d.valid; steps = d.steps }

  iterate-judged : IterateJudged text b (buffers_lent (board_of b) state scratch slots) state line r state'
  iterate-judged =
      let d = evaluator-demand in
      record {
        order = λ frame. rw (number_is, frame_is) at (d.order text (board_of b) state scratch slots line frame);
        lending = rw number_is at (d.lending text (board_of b) state scratch slots line);
        wrong = rw number_is at (d.wrong text (board_of b) state scratch slots line);
        leads = rw number_is at (d.leads text (board_of b) state scratch slots line);
        done = left-iterated;
        meets = λ n frame. rw (sym (λ k. (i.is k).answer)) at (d.meets text (board_of b) state scratch slots line n frame);
      }

written-demand : {text buffer buffer' : List ℕ} {r : Answer} → Writes text buffer r buffer' → WriterDemand text buffer (record { answer = said r; buffer = buffer' })
written-demand {text} {buffer} w = subst (WriterDemand text buffer) (sym w.is) (writer-demand text buffer)

pub delivered-2 : Delivered2
delivered-2 = record { checks = checked-demand; starts = started-demand; begun = left-begun; iterates = iterate-judged; writes = written-demand }
