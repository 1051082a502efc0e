-- The start from the text on, return by return.
use Rattle.std.specs.Prelude.{ℕ, ◌≤◌, Bool, ◌≡◌, refl, length, take}
use mathlib.Core.List.{List, ◌++◌}
use Rattle.std.proofs.Math.Path.{sym, ap, subst}
use Rattle.std.proofs.Common.{◌∙◌, arith, length-take-le}
use Rattle.std.proofs.Math.ListN.{drop, replicate, length-append, length-drop}
use Rattle.std.proofs.lemmas.List.{length-replicate, length-map}
use Rattle.language.specs.Result.{Result, ok, bind, both}
use Rattle.language.specs.Syntax.{File}
use Rattle.language.specs.Reader.{read_file}
use Rattle.language.specs.Layout.{state_length, state_words}
use Rattle.language.specs.InitialValues.{FileBegins}
use Rattle.language.specs.Machine.{Record, Started, Accepted, Verdict, empty_record, answer, check_file, verdict_of, final_list, list_lent, buffers_lent, start_state, written, start_words, start}
use Rattle.theory.specs.Lists.{both_left}
use Rattle.theory.specs.StateWords.{state-loaded}
use Rattle.theory.specs.Starts.{start-writes, starts}
use Rattle.theory.specs.StartSteps.{start-by-rules}
use Rattle.theory.specs.FileAnswers.{StartAccepted, zero-is-accepted, start-answers}
use Rattle.std.specs.Prelude.{Err}
use Rattle.language.specs.declared.refusals.RefusalAt.{RefusalAt}
use Rattle.reader.specs.Texts.{Reading, TextRead}
use Rattle.reader.specs.Indexes.{read-fault}
use Rattle.index.specs.Indexed.{Indexed}
use Rattle.new_cells.specs.Steps.{Board as BoardHas}
use Rattle.instance_list.specs.declared.Instance.{Instance}
use Rattle.instance_list.specs.Records.{shown, records_of, filled}
use Rattle.evaluator.specs.ChannelValues.{board_lent}
use Rattle.initial_state.specs.Promises.{LaysState}
use Rattle.answers.specs.declared.Board.{Board}
use Rattle.answers.specs.declared.Answer.{Answer}
use Rattle.answers.specs.Boards.{board_of, said, lent_records, answer_of, Granted, LendsList, ClearsBoth}
use Rattle.checker.specs.Checks.{ReadHeld, ChecksGiven}
use Rattle.answers.specs.LendLaws.{as_long, same-lent, list-room}
use Rattle.checker.specs.ReadLaws.{reading-refused}
use Rattle.checker.specs.Outcomes.{check-of}
use Rattle.startup.specs.Starts.{started, StartsRead, StartsWords, Starts}
use Rattle.answers.specs.LendLaws.{Enough, enough-is}

-- where enough is lent the list is long enough
lent-first : (b : Board) (records : ℕ) (state scratch slots : List ℕ) → Granted (both (list_lent (board_of b) (lent_records records)) (buffers_lent (board_of b) state scratch slots)) records
lent-first b records state scratch slots = record { room = λ e. (list-room {b = b} (record { is = refl })).room (both_left _ _ e) }

-- ---- a file that was checked
module _ (b : Board) (records : ℕ) (state scratch slots : List ℕ) {given : Bool} (g : LendsList b records (length state) (length scratch) (length slots) given) where
  granted : Granted given records
  granted = record { room = λ e. (lent-first b records state scratch slots).room (sym g.is ∙ e) }

  -- what the machine tests
  tested : given ≡ both (list_lent (board_of b) (lent_records records)) (buffers_lent (board_of b) state scratch slots)
  tested = g.is

  module _ {text : List ℕ} {r : Answer} {words' : List ℕ} (c : ChecksGiven text b given r words') where
    abbrev verdict_at : Bool → Verdict
    verdict_at d = verdict_of (board_of b) (check_file text d)

    answers : said r ≡ (started text b records state scratch slots).answer
    unfolding start
    answers = c.says ∙ ap (λ d. answer (verdict_at d)) tested

    listed : records_of (filled words' records) ≡ (started text b records state scratch slots).list
    unfolding start
    listed =
        let lent = both (list_lent (board_of b) (lent_records records)) (buffers_lent (board_of b) state scratch slots) in
        c.instances records granted ∙ ap (λ d. final_list (verdict_at d) (check_file text d) records) tested ∙ ap (final_list (verdict_at lent) (check_file text lent)) (sym (length-replicate records empty_record))

    number_is : r.number ≡ (started text b records state scratch slots).answer.number
    number_is = λ i. (answers i).number

    pub start-refused : (r.number ≡ 0 → ⊥) → StartsRead text b records state scratch slots r words' state slots
    start-refused some = record {
      answer_is = answers;
      list_is = listed;
      state_is = sym ((start-answers text (board_of b) (lent_records records) state scratch slots).refused_state (λ z. some (number_is ∙ z)));
      long = refl;
    }

    module _ (none : r.number ≡ 0) where
      accepts : StartAccepted text (board_of b) (lent_records records) state scratch slots (check_file text (both (list_lent (board_of b) (lent_records records)) (buffers_lent (board_of b) state scratch slots)))
      accepts = zero-is-accepted text (board_of b) (lent_records records) state scratch slots (sym number_is ∙ none)

      enough : Enough b (length state) (length scratch) (length slots)
      enough = enough-is b (length state) (length scratch) (length slots) accepts.allowed.buffers

      abbrev file : File
      file = accepts.accepts.file

      module _ {words : ℕ} (w : words ≡ state_length b.cells) where
        pub words-there : words ≤ length state
        words-there = omega (arith, w, enough.words)

        pub words-cut : words ≡ length (take words state)
        words-cut = sym (length-take-le words state words-there)

        pub slots-there : b.slots ≤ length slots
        slots-there = enough.free

        pub slots-cut : b.slots ≡ length (take b.slots slots)
        slots-cut = sym (length-take-le b.slots slots slots-there)

        pub board-there : BoardHas (take words state) 0
        board-there = record { fits = omega (arith, w, words-cut); small = omega (arith, w, words-cut, enough.cells) }

        begins : FileBegins file (board_lent b.cells (take b.slots slots) b.calls) (start_state file)
        begins = subst (λ n. FileBegins file (record { cells = b.cells; slots = n; calls = b.calls }) (start_state file)) slots-cut
            (start-by-rules accepts.file (board_of b) (state-loaded accepts.file.within (starts accepts.file accepts.allowed).loads).room)

        pub start-done : {index state₁ slots₁ : List ℕ} → ReadHeld text index → LaysState text index b.calls (take words state) (take b.slots slots) state₁ slots₁ →
            StartsRead text b records state scratch slots r words' (state₁ ++ drop words state) (slots₁ ++ drop b.slots slots)
        unfolding written
        start-done {index} {state₁} {slots₁} z l =
            let same : z.file ≡ file = (let e : ok z.file ≡ ok file = sym z.indexed.read ∙ accepts.file.read in cc) in
            let indexed : Indexed text index file = subst (Indexed text index) same z.indexed in
            let laid : state₁ ≡ state_words b.cells (start_state file) = l.says indexed (sym words-cut ∙ w) begins in
            record {
              answer_is = answers;
              list_is = listed;
              state_is = ap (λ (y : List ℕ). y ++ drop words state) laid ∙ ap (λ n. state_words b.cells (start_state file) ++ drop n state) w ∙ sym (start-writes accepts.file accepts.allowed);
              long = length-append slots₁ (drop b.slots slots) ∙ omega (arith, l.long, slots-cut, slots-there, length-drop b.slots slots);
            }

-- ---- the whole
module _ (text : List ℕ) (b : Board) (records : ℕ) (state scratch slots : List ℕ) {scratch₁ slots₁ : List ℕ} (cleared : ClearsBoth scratch slots scratch₁ slots₁) where
  scratch_clear : scratch₁ ≡ (started text b records state scratch slots).scratch
  unfolding start
  scratch_clear = cleared.first_is

  slots_clear : {slots' : List ℕ} → slots' ≡ replicate (length slots) 0 → slots' ≡ (started text b records state scratch slots).slots
  unfolding start
  slots_clear e = e

  -- all passes, by what is lent
  abbrev outcome : Bool → Result Accepted
  outcome d = check_file text (both (list_lent (board_of b) (lent_records records)) d)

  pub start-unread : {index words' : List ℕ} {x : Reading} {e : RefusalAt} {r : Answer} (k : ℕ) → TextRead text x index (read_file text) → x ≡ Err e → r ≡ answer_of x → words' ≡ replicate k 0 →
      StartsWords text b records state scratch slots r words' state scratch₁ slots₁
  unfolding start start_words verdict_of bind
  start-unread {x = x} k v q e z =
      let given = both (list_lent (board_of b) (lent_records records)) (buffers_lent (board_of b) state scratch slots) in
      let c = reading-refused {b = b} k v q e z given in
      record {
        answer_is = c.says;
        list_is = c.instances records (lent-first b records state scratch slots) ∙ ap (final_list (verdict_of (board_of b) (check_file text given)) (check_file text given)) (sym (length-replicate records empty_record));
        state_is = sym (ap (λ o. start_words (verdict_of (board_of b) o) o b.cells state) (check-of text given (read-fault v q)));
        scratch_is = scratch_clear;
        slots_is = slots_clear cleared.second_is;
      }

  pub start-from-file : {r : Answer} {words' state' slots₂ slots' : List ℕ} → StartsRead text b records state scratch₁ slots₁ r words' state' slots₂ → slots' ≡ replicate (length slots₂) 0 →
      StartsWords text b records state scratch slots r words' state' scratch₁ slots'
  unfolding start
  start-from-file s l = record {
    answer_is = s.answer_is ∙ ap (λ d. answer (verdict_of (board_of b) (outcome d))) (same-lent b state cleared);
    list_is = s.list_is ∙ ap (λ d. final_list (verdict_of (board_of b) (outcome d)) (outcome d) (length (lent_records records))) (same-lent b state cleared);
    state_is = s.state_is ∙ ap (λ d. start_words (verdict_of (board_of b) (outcome d)) (outcome d) b.cells state) (same-lent b state cleared);
    scratch_is = scratch_clear;
    slots_is = slots_clear (l ∙ ap (λ n. replicate n 0) (s.long ∙ as_long slots cleared.second_is));
  }

-- what is lent as the list counts by its length alone
start-by-length : (text : List ℕ) (b : Board) (l m : List Record) (state scratch slots : List ℕ) → length l ≡ length m → start text (board_of b) l state scratch slots ≡ start text (board_of b) m state scratch slots
unfolding start list_lent
start-by-length text b l m state scratch slots e = rw e refl

-- the list that the words fill
pub delivered : {text state scratch slots words' state' scratch' slots' : List ℕ} {b : Board} {list list' : List Instance} {r : Answer} → StartsWords text b (length list) state scratch slots r words' state' scratch' slots' →
    list' ≡ filled words' (length list) → Starts text b list state scratch slots r list' state' scratch' slots'
delivered {text} {state} {scratch} {slots} {b = b} {list = list} s e =
    let same = start-by-length text b (lent_records (length list)) (records_of list) state scratch slots (length-replicate (length list) empty_record ∙ sym (length-map list shown)) in
    record {
      answer_is = s.answer_is ∙ ap (λ (k : Started). k.answer) same;
      list_is = ap records_of e ∙ s.list_is ∙ ap (λ (k : Started). k.list) same;
      state_is = s.state_is ∙ ap (λ (k : Started). k.state) same;
      scratch_is = s.scratch_is ∙ ap (λ (k : Started). k.scratch) same;
      slots_is = s.slots_is ∙ ap (λ (k : Started). k.slots) same;
    }
