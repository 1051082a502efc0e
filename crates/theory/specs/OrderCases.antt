-- R-3's definitions, computed on texts and on lists of readings.
use Rattle.std.specs.Prelude.{ℕ, ◌+◌, List, [], ◌∷◌, map, true, false, ◌≡◌, refl, replicate, get_or}
use Prim.Native.String.{String}
use Rattle.language.specs.Limits.{instances_most, scratch_words}
use Rattle.language.specs.Refusals.{no_refusal, no_frame, types_disagree, heap_spent, self_reading}
use Rattle.language.specs.Result.{ok, no}
use Rattle.language.specs.Reader.{read_file}
use Rattle.language.specs.Layout.{state_length}
use Rattle.language.specs.Order.{all_through, none_reads_itself, order_from, order}
use Rattle.language.specs.Machine.{Board, check, empty_record, start, iterate}
use Rattle.theory.specs.Opened.{reading, sizing, running}
use Rattle.theory.specs.Tins.{codes}

-- ---- on readings: node 0 reads 2, node 1 reads 0; and node 0 reads 1, which reads itself by 2
order-of-three : order_from ((2 ∷ []) ∷ (0 ∷ []) ∷ [] ∷ []) 3 [] ≡ 2 ∷ 0 ∷ 1 ∷ []
unfolding reading sizing
order-of-three = refl

-- of two that are ready the lower goes first; and one that has become ready goes before a higher one
lower-first : order_from ((2 ∷ []) ∷ [] ∷ [] ∷ []) 3 [] ≡ 1 ∷ 2 ∷ 0 ∷ []
unfolding reading sizing
lower-first = refl

from-the-lowest : order_from ((1 ∷ []) ∷ [] ∷ [] ∷ []) 3 [] ≡ 1 ∷ 0 ∷ 2 ∷ []
unfolding reading sizing
from-the-lowest = refl

passed_over : none_reads_itself 0 (all_through ((1 ∷ []) ∷ (2 ∷ []) ∷ (1 ∷ []) ∷ [])) ≡ true ∷ false ∷ false ∷ []
unfolding reading sizing
passed_over = refl

-- ---- on texts
number_and_frame : String → List ℕ
number_and_frame t = let a = (check (codes t) (record { cells = 100; slots = 9; calls = 9 }) (replicate instances_most empty_record)).answer in a.number ∷ a.frame ∷ []

order_of : String → List ℕ
order_of t = elim (read_file (codes t)) [ ok P ↦ order P | no n frame ↦ n ∷ frame ∷ [] ]

-- the Int of a channel, from 1
value_of : List ℕ → ℕ → ℕ
value_of ws c = get_or ws (state_length (get_or ws c 0) + 1) 0

-- number, and the Ints of the first three channels, after a start and one line
after_line : String → String → List ℕ
after_line t line =
    let b : Board = record { cells = 30; slots = 1; calls = 0 } in
    let scratch : List ℕ = replicate scratch_words 0 in
    let s = start (codes t) b (replicate instances_most empty_record) (replicate (state_length 30) 0) scratch (0 ∷ []) in
    let r = iterate (codes t) b s.state scratch (0 ∷ []) (codes line) in
    r.answer.number ∷ value_of r.state 1 ∷ value_of r.state 2 ∷ value_of r.state 3 ∷ []

-- number and frame of a line on a board of so many cells
line_on_of : ℕ → String → String → List ℕ
line_on_of cells t line =
    let scratch : List ℕ = replicate scratch_words 0 in
    let s = start (codes t) (record { cells = 30; slots = 1; calls = 0 }) (replicate instances_most empty_record) (replicate (state_length 30) 0) scratch (0 ∷ []) in
    let a = (iterate (codes t) (record { cells = cells; slots = 1; calls = 0 }) s.state scratch (0 ∷ []) (codes line)).answer in
    a.number ∷ a.frame ∷ []

later : String
later = "03011100000000\n04011100000000170013021100000001\n040111000000001300\n"

both_new : String
both_new = "03011100000000\n04011100000000170013021100000001\n04011100000000170013001100000001\n"

itself : String
itself = "03011100000000\n040111000000001301\n"

by_others : String
by_others = "03011100000000\n040111000000001302\n040111000000001303\n040111000000001302\n"

in_arm : String
in_arm = "03011100000000\n0401110000000016100013011100000001\n"

at_last : String
at_last = "03011100000000\n040111000000001401\n"

types_first : String
types_first = "03011100000000\n04011100000000170013011000\n"

twelve_nodes : String
twelve_nodes = "03011100000000\n040111000000001700130C1700130B1700130A17001309170013081700130717001306170013051700130417001303170013021300\n040111000000001700130C1700130B1700130A170013091700130817001307170013061700130517001304170013031300\n040111000000001700130C1700130B1700130A1700130917001308170013071700130617001305170013041300\n040111000000001700130C1700130B1700130A17001309170013081700130717001306170013051300\n040111000000001700130C1700130B1700130A170013091700130817001307170013061300\n040111000000001700130C1700130B1700130A1700130917001308170013071300\n040111000000001700130C1700130B1700130A17001309170013081300\n040111000000001700130C1700130B1700130A170013091300\n040111000000001700130C1700130B1700130A1300\n040111000000001700130C1700130B1300\n040111000000001700130C1300\n040111000000001300\n"

sixteen_nodes : String
sixteen_nodes = "03011100000000\n040111000000001302\n040111000000001303\n040111000000001304\n040111000000001305\n040111000000001306\n040111000000001307\n040111000000001308\n040111000000001309\n04011100000000130A\n04011100000000130B\n04011100000000130C\n04011100000000130D\n04011100000000130E\n04011100000000130F\n040111000000001310\n040111000000001301\n"

record Case : Type 0 where
  got : List ℕ
  want : List ℕ

cases : List Case
cases =
    -- node 0 is node 1 and 1, stated first: 5 makes node 1 5 and node 0 6 in the same line
    record { got = order_of later; want = 1 ∷ 0 ∷ [] }
    ∷ record { got = after_line later "051100000005\n"; want = no_refusal ∷ 5 ∷ 6 ∷ 5 ∷ [] }
    -- two new cells a node, of which the later goes first: its frame is named where there is no room for them, the other's where there is
    ∷ record { got = line_on_of 5 both_new "051100000005\n"; want = heap_spent ∷ 3 ∷ [] }
    ∷ record { got = line_on_of 7 both_new "051100000005\n"; want = heap_spent ∷ 2 ∷ [] }
    ∷ record { got = line_on_of 8 both_new "051100000005\n"; want = no_refusal ∷ no_frame ∷ [] }
    -- itself directly; in an arm never taken; by `14` it is no reading
    ∷ record { got = number_and_frame itself; want = self_reading ∷ 2 ∷ [] }
    ∷ record { got = number_and_frame in_arm; want = self_reading ∷ 2 ∷ [] }
    ∷ record { got = number_and_frame at_last; want = no_refusal ∷ no_frame ∷ [] }
    -- a lower node that merely reads such a node is passed over; 9 comes before 25
    ∷ record { got = number_and_frame by_others; want = self_reading ∷ 3 ∷ [] }
    ∷ record { got = number_and_frame types_first; want = types_disagree ∷ 2 ∷ [] }
    ∷ record { got = number_and_frame sixteen_nodes; want = self_reading ∷ 2 ∷ [] }
    -- in an iteration too, before the state is looked at
    ∷ record { got = line_on_of 8 by_others "051100000005\n"; want = self_reading ∷ 3 ∷ [] }
    ∷ []

all-cases : map (λ (c : Case). c.got) cases ≡ map (λ (c : Case). c.want) cases
unfolding reading sizing running codes number_and_frame order_of value_of after_line line_on_of later both_new itself by_others in_arm at_last types_first sixteen_nodes cases
all-cases = refl

dense-order : order_of twelve_nodes ≡ 11 ∷ 10 ∷ 9 ∷ 8 ∷ 7 ∷ 6 ∷ 5 ∷ 4 ∷ 3 ∷ 2 ∷ 1 ∷ 0 ∷ []
unfolding reading sizing codes order_of twelve_nodes
dense-order = refl
