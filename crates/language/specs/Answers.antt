-- Demand 1 as types: what `check`, `start`, `iterate` and `write` answer and leave, for all input. Document 01, "By place"; document 02, R-1
-- and R-3.
use Rattle.std.specs.Prelude.{ℕ, ◌+◌, ◌≤◌, ◌<◌, List, ◌≡◌, length, drop, replicate}
use Rattle.language.specs.Refusals.{no_refusal, no_frame, text_too_long, bad_line, bad_frame, no_base_constructor, types_disagree, too_many_instances, heap_short, not_lent, bad_input_line, heap_spent, value_too_large, buffer_short, self_reading}
use Rattle.language.specs.Result.{choose}
use Rattle.language.specs.Text.{is_empty, lines_of, frame_lines}
use Rattle.language.specs.Estimate.{nothing}
use Rattle.language.specs.Layout.{state_length}
use Rattle.language.specs.Machine.{Board, Record, empty_record, Answer, Checked, Started, Iterated, zeros, check, start, iterate}
use Rattle.language.specs.Writer.{Written, write}

-- "Frames are counted without those extra lines, but a last line without LF is 2 and counts as a frame"
unfoldable pub frame_count : List ℕ → ℕ
frame_count t = length (frame_lines (lines_of t).ended) + choose (is_empty (lines_of t).rest) 0 1

-- "a frame (from 1; 0 where none is named)": none is named with 0, 1, 15 to 19 and 24; with any other number one of the text's
-- frames is, or with 3 the one after the last
pub record FrameNamed (t : List ℕ) (n frame : ℕ) : Type 0 where
  pub none : n ≤ text_too_long → frame ≡ no_frame
  pub none_at_board : heap_short ≤ n → n ≤ bad_input_line → frame ≡ no_frame
  pub none_at_buffer : n ≡ buffer_short → frame ≡ no_frame
  pub least : bad_line ≤ n → n ≤ too_many_instances → 1 ≤ frame
  pub least_in_run : heap_spent ≤ n → n ≤ value_too_large → 1 ≤ frame
  pub least_in_order : n ≡ self_reading → 1 ≤ frame
  pub most : (n ≡ bad_frame → ⊥) → frame ≤ frame_count t
  pub one_after : frame ≤ frame_count t + 1

-- refused: "a number (0 where all is well)"
abbrev pub Refused : Answer → Type 0
Refused a = a.number ≡ no_refusal → ⊥

-- an answer of `check` or `start` is 0, one of 1 to 18 or 25; "three bounds, zero except on acceptance by checker or start and in 15 to 17"
pub record FileAnswer (t : List ℕ) (a : Answer) : Type 0 where
  pub most : a.number ≤ self_reading
  pub gap : not_lent < a.number → a.number ≡ self_reading
  pub bounds : Refused a → a.number ≤ too_many_instances → a.bounds ≡ nothing
  pub bounds_beyond : not_lent ≤ a.number → a.bounds ≡ nothing
  pub frame : FrameNamed t a.number a.frame

-- an answer of `iterate` is 0, one of 1 to 9 and 18 to 23 or 25, and its bounds are zero
pub record LineAnswer (t : List ℕ) (a : Answer) : Type 0 where
  pub most : a.number ≤ self_reading
  pub gap : types_disagree < a.number → not_lent ≤ a.number
  pub gap_in_order : value_too_large < a.number → a.number ≡ self_reading
  pub bounds : a.bounds ≡ nothing
  pub frame : FrameNamed t a.number a.frame

-- an answer of `write` is 0, one of 1 to 8 or 24, and its bounds are zero
pub record WriteAnswer (t : List ℕ) (a : Answer) : Type 0 where
  pub most : a.number ≤ buffer_short
  pub gap : no_base_constructor < a.number → a.number ≡ buffer_short
  pub bounds : a.bounds ≡ nothing
  pub frame : FrameNamed t a.number a.frame

-- "A refusal leaves the state unchanged; scratch, slots and instance list end zero."
pub record CheckAnswers (t : List ℕ) (list : List Record) (r : Checked) : Type 0 where
  pub answers : FileAnswer t r.answer
  pub list_long : length r.list ≡ length list
  pub refused_list : Refused r.answer → r.list ≡ replicate (length list) empty_record

-- "a longer buffer's rest is neither read nor written"
pub record StartAnswers (t : List ℕ) (b : Board) (list : List Record) (state scratch slots : List ℕ) (r : Started) : Type 0 where
  pub answers : FileAnswer t r.answer
  pub list_long : length r.list ≡ length list
  pub state_long : length r.state ≡ length state
  pub scratch_long : length r.scratch ≡ length scratch
  pub slots-long : length r.slots ≡ length slots
  pub refused_list : Refused r.answer → r.list ≡ replicate (length list) empty_record
  pub refused_state : Refused r.answer → r.state ≡ state
  pub beyond : drop (state_length b.cells) r.state ≡ drop (state_length b.cells) state
  pub scratch_clear : r.scratch ≡ zeros scratch
  pub slots_clear : r.slots ≡ zeros slots

pub record IterateAnswers (t : List ℕ) (b : Board) (state scratch slots : List ℕ) (r : Iterated) : Type 0 where
  pub answers : LineAnswer t r.answer
  pub state_long : length r.state ≡ length state
  pub scratch_long : length r.scratch ≡ length scratch
  pub slots-long : length r.slots ≡ length slots
  pub refused_state : Refused r.answer → r.state ≡ state
  pub beyond : drop (state_length b.cells) r.state ≡ drop (state_length b.cells) state
  pub scratch_clear : r.scratch ≡ zeros scratch
  pub slots_clear : r.slots ≡ zeros slots

-- "past the text the buffer is zero, on refusal all of it"
pub record WriteAnswers (t buffer : List ℕ) (r : Written) : Type 0 where
  pub answers : WriteAnswer t r.answer
  pub buffer_long : length r.buffer ≡ length buffer
  pub refused_buffer : Refused r.answer → r.buffer ≡ zeros buffer

-- demand 1: no hypothesis on text, board, state, line, buffer or lengths
pub record Demand1 : Type 0 where
  pub checks : (t : List ℕ) (b : Board) (list : List Record) → CheckAnswers t list (check t b list)
  pub starts : (t : List ℕ) (b : Board) (list : List Record) (state scratch slots : List ℕ) → StartAnswers t b list state scratch slots (start t b list state scratch slots)
  pub iterates : (t : List ℕ) (b : Board) (state scratch slots line : List ℕ) → IterateAnswers t b state scratch slots (iterate t b state scratch slots line)
  pub writes : (t buffer : List ℕ) → WriteAnswers t buffer (write t buffer)
