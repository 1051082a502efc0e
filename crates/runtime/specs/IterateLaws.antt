-- An iteration from the text on, return by return.
use Rattle.std.specs.Prelude.{ℕ, ◌+◌, ◌≤◌, Bool, true, false, ◌≡◌, refl}
use mathlib.Core.List.{List, [], ◌++◌, append-nil}
use Rattle.std.proofs.Common.{sym, ◌∙◌, arith, le_refl}
use Rattle.std.proofs.Math.Path.{ap, subst}
use Rattle.std.proofs.Math.ListN.{length, take, drop, replicate, length-append, length-drop, take-append-drop}
use Rattle.std.proofs.Math.Seq.{length-take-le, drop-length, take-take}
use Rattle.language.specs.Refusals.{no_frame, not_lent, bad_input_line}
use Rattle.language.specs.Result.{Result, no, bind, need, from}
use Rattle.language.specs.Syntax.{File}
use Rattle.language.specs.Reader.{read_file}
use Rattle.language.specs.PlainTypes.{plain_types}
use Rattle.language.specs.Order.{orderly}
use Rattle.language.specs.Slide.{State}
use Rattle.language.specs.Layout.{state_length, state_words, load_state}
use Rattle.language.specs.Line.{line_trees}
use Rattle.language.specs.Machine.{Board as MachineBoard, Iterated, answer, written, zeros, lengths_lent, buffers_lent, iterate_state, iterate_file, iterated, iterate}
use Rattle.theory.specs.PlainTypesAgree.{well-plain-passes}
use Rattle.theory.specs.Orderly.{acyclic-passes}
use Rattle.theory.specs.Unread.{load_same}
use Rattle.std.specs.Prelude.{Option, Some, None, Ok, Err}
use Rattle.language.specs.declared.refusals.RefusalAt.{RefusalAt}
use Rattle.language.specs.declared.refusals.Refusal.TheVariants.{TypesDisagree, SelfReading, NotLent}
use Rattle.language.specs.RefusalNumbers.{number_of}
use Rattle.reader.specs.Texts.{Reading, TextRead}
use Rattle.reader.specs.Indexes.{read-fault}
use Rattle.ends.specs.Told.{TellsUpdates, TellsReadings}
use Rattle.node_order.specs.Files.{JudgesOrder}
use Rattle.node_order.specs.FileLaws.{orderly-refused}
use Rattle.plain_types.specs.Verdicts.{JudgesAll}
use Rattle.plain_types.specs.JudgeLaws.{plain-types-passes, plain-types-refused}
use Rattle.heads.specs.Places.{channel_line_of}
use Rattle.iteration.specs.declared.nodes.RefusalIn.{RefusalIn}
use Rattle.iteration.specs.Promises.{Updated}
use Rattle.answers.specs.declared.Board.{Board}
use Rattle.answers.specs.declared.Answer.{Answer}
use Rattle.answers.specs.Boards.{board_of, said, answer_of, LendsAll, ClearsBoth}
use Rattle.checker.specs.Checks.{ReadHeld}
use Rattle.checker.specs.CheckLaws.{order-frame, ordered}
use Rattle.runtime.specs.Runs.{Iterates, frame_at, Answered, reached, Cleared, Told, told_done, told_refused, Walked, on_state, Lent, IteratesLent, IteratesRead}
use Rattle.answers.specs.LendLaws.{as_long, own_zeros, same-lent, Enough, enough-is}

-- ---- answers
pub frame_is : (index : List ℕ) (c : ℕ) {line : ℕ} → line ≡ channel_line_of index c → line + 1 ≡ frame_at index c
frame_is index c e = ap (λ i. i + 1) e

pub reached-done : (index : List ℕ) {x : Updated} {used : ℕ} → x ≡ Ok used → Ok tt ≡ reached index x
reached-done index d = sym (ap (reached index) d)

pub reached-refused : (index : List ℕ) {x : Updated} {e : RefusalIn} {frame : ℕ} → x ≡ Err e → frame ≡ frame_at index e.channel → Err (record { refusal = e.refusal; frame = frame }) ≡ reached index x
reached-refused index {e = e} d f = ap (λ n. Err (record { refusal = e.refusal; frame = n })) f ∙ sym (ap (reached index) d)

-- ---- the board's words, of a longer buffer
module _ (cells : ℕ) (state : List ℕ) (long : state_length cells ≤ length state) where
  front_long : length (take (state_length cells) state) ≡ state_length cells
  front_long = length-take-le (state_length cells) state long

  put_back : {r : Answered} {words' : List ℕ} {o : Result State} → Told cells (take (state_length cells) state) r words' o → Told cells state r (words' ++ drop (state_length cells) state) o
  unfolding written
  put_back (told_done {s} w) =
      let rest = drop (state_length cells) state in
      let none : drop (state_length cells) (take (state_length cells) state) ≡ [] = ap (λ n. drop n (take (state_length cells) state)) (sym front_long) ∙ drop-length (take (state_length cells) state) in
      told_done (ap (λ (z : List ℕ). z ++ rest) (w ∙ ap (λ (z : List ℕ). state_words cells s ++ z) none ∙ append-nil (state_words cells s)))
  put_back (told_refused w) = told_refused (ap (λ (z : List ℕ). z ++ drop (state_length cells) state) w ∙ take-append-drop (state_length cells) state)

-- ---- an iteration is all passes over what was read
iterate-of : (text : List ℕ) (b : MachineBoard) (lent : Bool) (state line : List ℕ) {y : Result File} → read_file text ≡ y → iterate_file text b lent state line ≡ bind y (λ P. plain_types P (orderly P (need lent not_lent no_frame (on_state P b state line))))
unfolding iterate_file
iterate-of text b lent state line e = rw e

-- ---- a file that was read: 9 and 25
module _ {text index : List ℕ} (z : ReadHeld text index) where
  pub walked : {ends row : List ℕ} → JudgesAll text index None → TellsUpdates text index ends → TellsReadings text index row → JudgesOrder index row None → Walked text index ends row
  walked v u t o = record { ordered = ordered z v t o; ends_told = u; readings_told = t }

  module _ (line : List ℕ) (b : Board) (state scratch slots : List ℕ) where
    abbrev lent_now : Bool
    lent_now = lengths_lent (board_of b) (length state) (length scratch) (length slots)

    abbrev outcome : Result State
    outcome = iterate_file text (board_of b) lent_now state line

    abbrev behind : Result State
    behind = on_state z.file (board_of b) state line

    refused-with : {e : RefusalAt} → outcome ≡ no (number_of e.refusal) e.frame → IteratesRead text line b state scratch slots (Err e) state scratch slots
    refused-with {e} said = record { says = subst (Told b.cells state (Err e) state) (sym said) (told_refused refl); clean = refl; long = refl }

    after-reading : outcome ≡ plain_types z.file (orderly z.file (need lent_now not_lent no_frame behind))
    unfolding bind
    after-reading = iterate-of text (board_of b) lent_now state line z.indexed.read

    pub types-refused : {frame : ℕ} → JudgesAll text index (Some frame) → IteratesRead text line b state scratch slots (Err (record { refusal = TypesDisagree; frame = frame })) state scratch slots
    types-refused v = refused-with {e = record { refusal = TypesDisagree; frame = _ }} (after-reading ∙ plain-types-refused v z.indexed (orderly z.file (need lent_now not_lent no_frame behind)))

    pub order-refused : {frame : ℕ} {row : List ℕ} → JudgesAll text index None → TellsReadings text index row → JudgesOrder index row (Some frame) → IteratesRead text line b state scratch slots (Err (record { refusal = SelfReading; frame = frame })) state scratch slots
    order-refused v t o = refused-with {e = record { refusal = SelfReading; frame = _ }} (after-reading ∙ plain-types-passes v z.indexed (orderly z.file (need lent_now not_lent no_frame behind)) ∙
        orderly-refused z.indexed.within (order-frame z t o) (need lent_now not_lent no_frame behind))

-- ---- and what follows
module _ {text index ends readings : List ℕ} (y : Walked text index ends readings) (line : List ℕ) (b : Board) (state scratch slots : List ℕ) where
  abbrev z : ReadHeld text index
  z = y.ordered.held

  module _ {given : Bool} (g : LendsAll b (length state) (length scratch) (length slots) given) where
    after-order : outcome z line b state scratch slots ≡ need given not_lent no_frame (behind z line b state scratch slots)
    unfolding bind
    after-order = iterate-of text (board_of b) (lent_now z line b state scratch slots) state line z.indexed.read ∙
        well-plain-passes z.file _ y.ordered.plain ∙ acyclic-passes z.file _ y.ordered.acyclic ∙ ap (λ d. need d not_lent no_frame (behind z line b state scratch slots)) (sym g.is)

    pub lent-refused : given ≡ false → IteratesRead text line b state scratch slots (Err (record { refusal = NotLent; frame = no_frame })) state scratch slots
    unfolding need
    lent-refused e = refused-with z line b state scratch slots {e = record { refusal = NotLent; frame = no_frame }} (after-order ∙ ap (λ d. need d not_lent no_frame (behind z line b state scratch slots)) e)

    module _ (good : given ≡ true) {words : ℕ} (w : words ≡ state_length b.cells) where
      enough : Enough b (length state) (length scratch) (length slots)
      enough = enough-is b (length state) (length scratch) (length slots) (sym g.is ∙ good)

      pub words-there : words ≤ length state
      words-there = omega (arith, w, enough.words)

      pub words-cut : words ≡ length (take words state)
      words-cut = sym (length-take-le words state words-there)

      pub slots-there : b.slots ≤ length slots
      slots-there = enough.free

      pub slots-cut : b.slots ≡ length (take b.slots slots)
      slots-cut = sym (length-take-le b.slots slots slots-there)

      pub lends : Cleared scratch → Lent text index ends readings b.cells (take words state) scratch
      lends c = record {
        file = z.file;
        indexed = z.indexed;
        ends_told = y.ends_told;
        readings_told = y.readings_told;
        board = length-take-le words state words-there ∙ w;
        most = enough.cells;
        room = omega (arith, enough.cells, enough.marks);
        clean = c;
      }

      pub read-iterated : {r : Answered} {words' scratch' slots₁ : List ℕ} → IteratesLent text index line b.cells b.calls (take words state) scratch (take b.slots slots) r words' scratch' slots₁ →
          IteratesRead text line b state scratch slots r (words' ++ drop words state) scratch' (slots₁ ++ drop b.slots slots)
      unfolding need from
      read-iterated {r} {words'} {scratch'} {slots₁} i =
          let free : length (take b.slots slots) ≡ b.slots = length-take-le b.slots slots slots-there in
          let here : outcome z line b state scratch slots ≡ behind z line b state scratch slots = after-order ∙ ap (λ d. need d not_lent no_frame (behind z line b state scratch slots)) good in
          let wide = enough.words in
          let loads : load_state z.file b.cells (take (state_length b.cells) state) ≡ load_state z.file b.cells state = load_same z.indexed.within b.cells (take (state_length b.cells) state) state (take_whole (state_length b.cells) state) (omega (arith, front_long b.cells state wide)) wide in
          let says : Told b.cells (take (state_length b.cells) state) r words' (on_state z.file (record { cells = b.cells; slots = length (take b.slots slots); calls = b.calls }) (take (state_length b.cells) state) line) =
          subst (λ n. Told b.cells (take n state) r words' (on_state z.file (record { cells = b.cells; slots = length (take b.slots slots); calls = b.calls }) (take n state) line)) w (i.says z.indexed y.ordered.plain) in
          let same : Told b.cells (take (state_length b.cells) state) r words' (behind z line b state scratch slots) = subst (λ o. Told b.cells (take (state_length b.cells) state) r words' o)
          (ap (λ n. on_state z.file (record { cells = b.cells; slots = n; calls = b.calls }) (take (state_length b.cells) state) line) free ∙ ap (λ u. from u not_lent no_frame (λ s. from (line_trees z.file line) bad_input_line no_frame (λ vs. iterate_state z.file (board_of b) s vs))) loads) says in
          record {
            says = subst (λ n. Told b.cells state r (words' ++ drop n state) (outcome z line b state scratch slots)) (sym w) (subst (Told b.cells state r (words' ++ drop (state_length b.cells) state)) (sym here) (put_back b.cells state wide same));
            clean = i.clean;
            long = length-append slots₁ (drop b.slots slots) ∙ omega (arith, i.long, free, slots-there, length-drop b.slots slots);
          }
        where
          take_whole : (n : ℕ) (l : List ℕ) → take n (take n l) ≡ take n l
          take_whole n l = take-take n n l (le_refl n)

-- ---- the whole
told-whole : {cells : ℕ} (scratch slots : List ℕ) {state state' scratch' slots' : List ℕ} {r : Answered} {o : Result State} → Told cells state r state' o → scratch' ≡ zeros scratch → slots' ≡ zeros slots →
    ◌≡◌ {A = Iterated} (record { answer = said (answer_of r); state = state'; scratch = scratch'; slots = slots' }) (iterated o cells state scratch slots)
unfolding iterated answer answer_of
told-whole scratch slots (told_done w) s l = rw (w, s, l) refl
told-whole scratch slots (told_refused w) s l = rw (w, s, l) refl

pub is-clear : {scratch slots scratch₁ slots₁ : List ℕ} → ClearsBoth scratch slots scratch₁ slots₁ → Cleared scratch₁
is-clear {scratch} c = record { is = own_zeros scratch c.first_is }

-- a text that was not read
pub text-unread : {text index line state scratch slots : List ℕ} {b : Board} {x : Reading} {e : RefusalAt} → TextRead text x index (read_file text) → x ≡ Err e → IteratesRead text line b state scratch slots (Err e) state scratch slots
unfolding bind
text-unread {text} {line = line} {state} {scratch} {slots} {b} {e = e} v q = record {
  says = subst (Told b.cells state (Err e) state) (sym (iterate-of text (board_of b) (lengths_lent (board_of b) (length state) (length scratch) (length slots)) state line (read-fault v q))) (told_refused refl);
  clean = refl;
  long = refl;
}

module _ (text : List ℕ) (b : Board) (state scratch slots line : List ℕ) {scratch₁ slots₁ : List ℕ} (cleared : ClearsBoth scratch slots scratch₁ slots₁) where
  pub iterate-done : {state' scratch₂ slots₂ slots' : List ℕ} {x : Answered} {r : Answer} → IteratesRead text line b state scratch₁ slots₁ x state' scratch₂ slots₂ → slots' ≡ replicate (length slots₂) 0 → r ≡ answer_of x →
      Iterates text b state scratch slots line r state' scratch₂ slots'
  unfolding iterate
  iterate-done {state'} {x = x} i l q = record {
    is = rw q (told-whole scratch slots (subst (λ d. Told b.cells state x state' (iterate_file text (board_of b) d state line)) (same-lent b state cleared) i.says) (i.clean ∙ cleared.first_is)
        (l ∙ ap (λ n. replicate n 0) (i.long ∙ as_long slots cleared.second_is)));
  }

  pub iterate-unread : {index : List ℕ} {x : Reading} {e : RefusalAt} {r : Answer} → TextRead text x index (read_file text) → x ≡ Err e → r ≡ answer_of x → Iterates text b state scratch slots line r state scratch₁ slots₁
  iterate-unread v q a = iterate-done (text-unread v q) (own_zeros slots cleared.second_is) (a ∙ ap answer_of q)
