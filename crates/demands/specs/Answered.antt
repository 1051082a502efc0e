-- Demand 1 of the delivered calls, from their promises and the theorem on the machine.
use Rattle.std.specs.Prelude.{ℕ, List, ◌≡◌, length, replicate}
use Rattle.std.proofs.Common.{sym, ap, ◌∙◌, subst}
use Rattle.std.proofs.lemmas.List.{length-map}
use Rattle.language.specs.Machine.{Record, empty_record, Answer as MachineAnswer}
use Rattle.language.specs.Answers.{Refused, FileAnswer, IterateAnswers, WriteAnswers}
use Rattle.theory.specs.FileAnswers.{check-answers, start-answers}
use Rattle.theory.specs.LineAnswers.{iterate-answers}
use Rattle.theory.specs.Writes.{write-answers}
use Rattle.instance_list.specs.declared.Instance.{Instance}
use Rattle.instance_list.specs.Records.{shown, records_of}
use Rattle.instance_list.specs.FillLaws.{shown-empties}
use Rattle.answers.specs.declared.Board.{Board}
use Rattle.answers.specs.declared.Answer.{Answer}
use Rattle.answers.specs.Boards.{board_of, said}
use Rattle.checker.specs.Checks.{Checks}
use Rattle.startup.specs.Starts.{Starts}
use Rattle.runtime.specs.Runs.{Iterates}
use Rattle.writer.specs.Writes.{Writes}
use Rattle.demands.specs.Delivered.{CheckLeaves, StartLeaves, Delivered1}

-- ---- the list: its records are the machine's
list-as-long : (list' : List Instance) {rs : List Record} (n : ℕ) → records_of list' ≡ rs → length rs ≡ n → length list' ≡ n
list-as-long list' n e l = sym (length-map list' shown) ∙ ap length e ∙ l

-- an answer is the machine's
same-file-answer : {text : List ℕ} {r : Answer} {a : MachineAnswer} → said r ≡ a → FileAnswer text a → FileAnswer text (said r)
same-file-answer {text} e x = subst (FileAnswer text) (sym e) x

same-refused : {r : Answer} {a : MachineAnswer} → said r ≡ a → Refused (said r) → Refused a
same-refused e x = subst Refused e x

check-leaves : {text : List ℕ} {list list' : List Instance} {b : Board} {r : Answer} → Checks text b list r list' → CheckLeaves text list r list'
check-leaves {text} {list = list} {list' = list'} {b = b} c =
    let m = check-answers text (board_of b) (records_of list) in
    record {
      answers = same-file-answer c.answer m.answers;
      list_long = list-as-long list' (length list) c.instances (m.list_long ∙ length-map list shown);
      refused_list = λ no. shown-empties list' (length list) (c.instances ∙ m.refused_list (same-refused c.answer no) ∙ ap (λ n. replicate n empty_record) (length-map list shown));
    }

start-leaves : {text state scratch slots state' scratch' slots' : List ℕ} {list list' : List Instance} {b : Board} {r : Answer} → Starts text b list state scratch slots r list' state' scratch' slots' → StartLeaves text b list state scratch slots r list' state' scratch' slots'
start-leaves {text} {state} {scratch} {slots} {list = list} {list' = list'} {b = b} s =
    let m = start-answers text (board_of b) (records_of list) state scratch slots in
    record {
      answers = same-file-answer s.answer_is m.answers;
      list_long = list-as-long list' (length list) s.list_is (m.list_long ∙ length-map list shown);
      state_long = ap length s.state_is ∙ m.state_long;
      refused_list = λ no. shown-empties list' (length list) (s.list_is ∙ m.refused_list (same-refused s.answer_is no) ∙ ap (λ n. replicate n empty_record) (length-map list shown));
      refused_state = λ no. s.state_is ∙ m.refused_state (same-refused s.answer_is no);
      beyond = rw s.state_is m.beyond;
      scratch_clear = s.scratch_is ∙ m.scratch_clear;
      slots_clear = s.slots_is ∙ m.slots_clear;
    }

iterate-leaves : {text state scratch slots line state' scratch' slots' : List ℕ} {b : Board} {r : Answer} → Iterates text b state scratch slots line r state' scratch' slots' →
    IterateAnswers text (board_of b) state scratch slots (record { answer = said r; state = state'; scratch = scratch'; slots = slots' })
iterate-leaves {text} {state} {scratch} {slots} {line} {b = b} i = subst (IterateAnswers text (board_of b) state scratch slots) (sym i.is) (iterate-answers text (board_of b) state scratch slots line)

write-leaves : {text buffer buffer' : List ℕ} {r : Answer} → Writes text buffer r buffer' → WriteAnswers text buffer (record { answer = said r; buffer = buffer' })
write-leaves {text} {buffer} w = subst (WriteAnswers text buffer) (sym w.is) (write-answers text buffer)

pub delivered-1 : Delivered1
delivered-1 = record { checks = check-leaves; starts = start-leaves; iterates = iterate-leaves; writes = write-leaves }
