-- Whether board, list and buffers are lent, test by test, and what is known where they are.
use Rattle.std.specs.Prelude.{ℕ, ◌≤◌, ◌<◌, List, Bool, true, false, ◌≡◌, length, replicate, leb}
use Rattle.std.proofs.Math.Path.{refl}
use Rattle.std.proofs.Common.{sym, ap, ◌∙◌, arith}
use Rattle.std.proofs.Math.ListN.{length-replicate}
use Rattle.language.specs.Limits.{instances_most, cells_most, scratch_words, slots_most, calls_most}
use Rattle.language.specs.Layout.{state_length}
use Rattle.language.specs.Machine.{empty_record, board_allowed, list_lent, lengths_lent, buffers_lent}
use Rattle.language.specs.Result.{both}
use borrow.Author.Tests.{le-leb, lt-leb, leb-true}
use Rattle.theory.specs.Lists.{both_left, both_right}
use Rattle.answers.specs.declared.Board.{Board}
use Rattle.answers.specs.Boards.{board_of, lent_records, Allows, Lends, LendsAll, LendsList, Granted, ClearsBoth}

-- ---- the board and the list that are lent
module _ {b : Board} where
  pub cells_over : cells_most < b.cells → Allows b false
  unfolding board_allowed both
  cells_over h = record { is = rw (lt-leb _ _ h) refl }

  module _ (cells : b.cells ≤ cells_most) where
    pub slots-over : slots_most < b.slots → Allows b false
    unfolding board_allowed both
    slots-over h = record { is = rw (le-leb _ _ cells, lt-leb _ _ h) refl }

    pub calls-judged : {r : Bool} → b.slots ≤ slots_most → r ≡ leb b.calls calls_most → Allows b r
    unfolding board_allowed both
    calls-judged slots e = record { is = rw (le-leb _ _ cells, le-leb _ _ slots) e }

module _ {b : Board} {records : ℕ} {allowed : Bool} (a : Allows b allowed) where
  pub board-over : allowed ≡ false → Lends b records false
  unfolding list_lent both
  board-over d = record { is = rw (← a.is, d) refl }

  pub list-judged : {r : Bool} → allowed ≡ true → r ≡ leb instances_most records → Lends b records r
  unfolding list_lent both
  list-judged d e = record { is = rw (← a.is, d, length-replicate records empty_record) e }

-- then there is room for all instances
pub list-room : {b : Board} {records : ℕ} {given : Bool} → Lends b records given → Granted given records
unfolding list_lent
list-room {records = records} l = record {
  room = λ e.
      let enough : instances_most ≤ length (lent_records records) = leb-true _ _ (both_right _ _ (sym l.is ∙ e)) in
      omega (arith, enough, length-replicate records empty_record);
}

-- ---- the buffers
module _ {b : Board} {state scratch slots : ℕ} {allowed : Bool} (a : Allows b allowed) where
  pub board-too-large : allowed ≡ false → LendsAll b state scratch slots false
  unfolding lengths_lent both
  board-too-large d = record { is = rw (← a.is, d) refl }

  module _ (good : allowed ≡ true) {words : ℕ} (w : words ≡ state_length b.cells) where
    pub state-short : state < words → LendsAll b state scratch slots false
    unfolding lengths_lent both
    state-short h = record { is = rw (← a.is, good, lt-leb (state_length b.cells) state (omega (arith, h, w))) refl }

    module _ (long : words ≤ state) where
      pub scratch-short : scratch < scratch_words → LendsAll b state scratch slots false
      unfolding lengths_lent both
      scratch-short h = record { is = rw (← a.is, good, le-leb (state_length b.cells) state (omega (arith, long, w)), lt-leb _ _ h) refl }

      pub slots-judged : {r : Bool} → scratch_words ≤ scratch → r ≡ leb b.slots slots → LendsAll b state scratch slots r
      unfolding lengths_lent both
      slots-judged h e = record { is = rw (← a.is, good, le-leb (state_length b.cells) state (omega (arith, long, w)), le-leb _ _ h) e }

-- what is known where enough is lent
pub record Enough (b : Board) (state scratch slots : ℕ) : Type 0 where
  pub cells : b.cells ≤ cells_most
  pub words : state_length b.cells ≤ state
  pub marks : scratch_words ≤ scratch
  pub free : b.slots ≤ slots

pub enough-is : (b : Board) (state scratch slots : ℕ) → lengths_lent (board_of b) state scratch slots ≡ true → Enough b state scratch slots
unfolding lengths_lent board_allowed
enough-is b state scratch slots e =
    let board = both_left _ _ e in
    let lengths = both_right _ _ e in
    let rest = both_right _ _ lengths in
    record {
      cells = leb-true b.cells cells_most (both_left _ _ board);
      words = leb-true (state_length b.cells) state (both_left _ _ lengths);
      marks = leb-true scratch_words scratch (both_left _ _ rest);
      free = leb-true b.slots slots (both_right _ _ rest);
    }

-- ---- the list and the buffers
module _ {b : Board} {records state scratch slots : ℕ} {given : Bool} (l : Lends b records given) where
  pub list-short : given ≡ false → LendsList b records state scratch slots false
  unfolding both
  list-short d = record { is = rw (← l.is, d) refl }

  pub list_long : {r : Bool} → given ≡ true → LendsAll b state scratch slots r → LendsList b records state scratch slots r
  unfolding both
  list_long d a = record { is = rw (← l.is, d) a.is }

-- ---- buffers cleared: they are as long as they were
pub as_long : (l : List ℕ) {m : List ℕ} → m ≡ replicate (length l) 0 → length m ≡ length l
as_long l e = ap length e ∙ length-replicate (length l) 0

-- and so all of their own length is zero
pub own_zeros : (l : List ℕ) {m : List ℕ} → m ≡ replicate (length l) 0 → m ≡ replicate (length m) 0
own_zeros l e = e ∙ ap (λ n. replicate n 0) (sym (as_long l e))

-- what is lent counts by its length alone
pub same-lent : (b : Board) (state : List ℕ) {scratch slots scratch₁ slots₁ : List ℕ} → ClearsBoth scratch slots scratch₁ slots₁ → buffers_lent (board_of b) state scratch₁ slots₁ ≡ buffers_lent (board_of b) state scratch slots
same-lent b state {scratch} {slots} {scratch₁} {slots₁} c =
    ap (λ n. lengths_lent (board_of b) (length state) n (length slots₁)) (as_long scratch c.first_is) ∙ ap (λ n. lengths_lent (board_of b) (length state) (length scratch) n) (as_long slots c.second_is)
