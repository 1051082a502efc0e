-- What the checker and start accept, and at which place of document 01's table ("By place") they refuse, by the rules: demand 2's
-- acceptance.
use Rattle.std.specs.Prelude.{ℕ, ◌≤◌, ◌<◌, List, Bool, true, false, ◌↔◌, ◌≡◌, length}
use Rattle.language.specs.Limits.{text_most, instances_most}
use Rattle.language.specs.Refusals.{no_frame, text_too_long, no_base_constructor, types_disagree, size_outside, too_many_instances, heap_short, environment_short, stack_short, not_lent, self_reading}
use Rattle.language.specs.Result.{ok}
use Rattle.language.specs.Syntax.{File, node_channel, channel_frame}
use Rattle.language.specs.Format.{file_frames}
use Rattle.language.specs.Text.{text_frames}
use Rattle.language.specs.Within.{Within}
use Rattle.language.specs.PlainTyping.{WellPlain}
use Rattle.language.specs.Order.{Acyclic, LowestSelfReader}
use Rattle.language.specs.Estimate.{Estimate, stopped}
use Rattle.language.specs.Typing.{WellSized}
use Rattle.language.specs.Instances.{MoreThan, AtMost, Needed}
use Rattle.language.specs.Cells.{numbers_needed}
use Rattle.language.specs.Machine.{Board, Answer, accepted, answer}
use Rattle.language.specs.Run.{Enough}

-- a text whose frames are the file's, the file within the limits; document 02, R-1: "the 16,384 characters count everything"
pub record TextOf (P : File) (t : List ℕ) : Type 0 where
  pub short : length t ≤ text_most
  pub frames : text_frames t ≡ ok (file_frames P)
  pub within : Within P

-- 25: "some node reads itself through `13`, directly or by others .. the frame is the lowest such node's" (document 02, R-3)
pub record SelfReading (t : List ℕ) (frame : ℕ) : Type 0 where
  pub file : File
  pub is : TextOf file t
  pub plain : WellPlain file
  pub node : ℕ
  pub lowest : LowestSelfReader file node
  pub named : frame ≡ channel_frame file (node_channel file node)

-- the rules derive a file's sizes, its updates having the numbers xs, with at most 1,024 different instances
pub record FewInstances (P : File) (xs : List Estimate) : Type 0 where
  pub sizes : WellSized P xs
  pub few : AtMost instances_most (Needed sizes)

-- the text's frames are a file's, within the limits; its plain types agree; no node reads itself; the rules derive its sizes, and x is
-- what it needs
pub record Derived (t : List ℕ) (x : Estimate) : Type 0 where
  pub file : File
  pub is : TextOf file t
  pub plain : WellPlain file
  pub acyclic : Acyclic file
  pub updates : List Estimate
  pub sizes : FewInstances file updates
  pub numbers : x ≡ numbers_needed file updates

-- accepted with the numbers x: they are derived, what the call asks for is lent, and the board has them
pub record AcceptedWith (t : List ℕ) (lent : Bool) (b : Board) (x : Estimate) : Type 0 where
  pub derived : Derived t x
  pub given : lent ≡ true
  pub enough : Enough x b

-- 15, 16, 17: "heap, environment, stack needed above the board's", the first of them that is
pub data ShortOf (x : Estimate) (b : Board) : ℕ → Type 0 where
  heap-short : b.cells < x.heap → ShortOf x b heap_short
  environment-short : x.heap ≤ b.cells → b.slots < x.env → ShortOf x b environment_short
  stack-short : x.heap ≤ b.cells → x.env ≤ b.slots → b.calls < x.stack → ShortOf x b stack_short

-- answered a for want of board: numbers are derived of which the board is short, and a reports all three, as far as reports go
pub record RefusedShort (t : List ℕ) (lent : Bool) (b : Board) (a : Answer) : Type 0 where
  pub numbers : Estimate
  pub derived : Derived t numbers
  pub given : lent ≡ true
  pub short : ShortOf numbers b a.number
  pub frame : a.frame ≡ no_frame
  pub bounds : a.bounds ≡ stopped numbers

-- demand 2 of the answer a to a text on a board, lent being whether all is lent that the call asks for. "Places go top to bottom, but 18
-- follows 9", and 25 is "tested after 9, before 18": each place of the table by its condition.
pub record CheckerDemand (t : List ℕ) (lent : Bool) (b : Board) (a : Answer) : Type 0 where
  -- text and frame: 1 to 8
  pub text : ((text_too_long ≤ a.number) × (a.number ≤ no_base_constructor)) ↔ ((P : File) → TextOf P t → ⊥)
  -- types: 9
  pub types : (a.number ≡ types_disagree) ↔ ((P : File) × TextOf P t × (WellPlain P → ⊥))
  -- order: 25, with its frame
  pub order : (frame : ℕ) → ((a.number ≡ self_reading) × (a.frame ≡ frame)) ↔ SelfReading t frame
  -- lending: 18
  pub lending : (a.number ≡ not_lent) ↔ ((P : File) × TextOf P t × WellPlain P × Acyclic P × (lent ≡ false))
  -- sizes: 10 to 14; and 14 of a file whose sizes the rules derive
  pub sizes : ((size_outside ≤ a.number) × (a.number ≤ too_many_instances)) ↔ ((P : File) × TextOf P t × WellPlain P × Acyclic P × (lent ≡ true) × ((x : Estimate) → Derived t x → ⊥))
  pub many : {P : File} {xs : List Estimate} → TextOf P t → WellPlain P → Acyclic P → (w : WellSized P xs) → (a.number ≡ too_many_instances) ↔ ((lent ≡ true) × MoreThan instances_most (Needed w))
  -- board: 15 to 17
  pub short : (c : Answer) → heap_short ≤ c.number → c.number ≤ stack_short → (a ≡ c) ↔ RefusedShort t lent b c
  -- accepted
  pub accepts : (x : Estimate) → (a ≡ answer (accepted x)) ↔ AcceptedWith t lent b x
