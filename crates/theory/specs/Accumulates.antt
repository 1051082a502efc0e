-- A run as demand 3 speaks of it, through the definitions: document 01's file of two frames, whose node adds up its input. "Inputs 5
-- then 7 make the node 5, then 12, two cells kept." Between them stands a line that is no input line, and later calls lend less.
use Rattle.std.specs.Prelude.{ℕ, ◌≤◌, List, [], ◌∷◌, true, ◌≡◌, refl, get_or, replicate}
use Rattle.std.proofs.Math.Option.{Option, some}
use Rattle.std.proofs.Common.{arith}
use Rattle.language.specs.Limits.{instances_most, scratch_words}
use Rattle.language.specs.Result.{ok, chain}
use Rattle.language.specs.Syntax.{tint, eint, enow, elast, eop, oadd, File}
use Rattle.language.specs.Reader.{read_file}
use Rattle.language.specs.Estimate.{Estimate}
use Rattle.language.specs.Heap.{kint, Tree, vleaf}
use Rattle.language.specs.Layout.{state_length, load_state}
use Rattle.language.specs.Machine.{empty_record, Answer, buffers_lent}
use Rattle.language.specs.Run.{channel_trees, FirstCall, Call, Reported, CallAllowed, called, a_call, no_call, begun, Run, Claim}
use Rattle.theory.specs.Opened.{reading, sizing, running}
use Rattle.theory.specs.Tins.{codes}
use Rattle.theory.specs.Demand.{demand-3}

-- ---- the file and its numbers
text : List ℕ
text = codes "03011100000000\n04011100000000170014011300\n"

file : File
file = record {
  types = [];
  functions = [];
  inputs = record { declared = tint; initial = eint 0 } ∷ [];
  nodes = record { declared = tint; initial = eint 0; update = eop oadd (elast 1) (enow 0) } ∷ [];
}

text-is-read : read_file text ≡ ok file
unfolding reading running codes text file
text-is-read = refl

abbrev needed : Estimate
needed = record { env = 0; heap = 4; stack = 0 }

-- lent exactly as much, it reports this: `ACCEPT 4 0 0`
four-cells : Reported text needed
unfolding reading sizing running codes text
four-cells = record { board = record { cells = 4; slots = 0; calls = 0 }; list = replicate instances_most empty_record; is = refl }

-- ---- the calls: the first lends six cells, the others five and four; buffers may hold anything
abbrev first : FirstCall
first = record {
  board = record { cells = 6; slots = 1; calls = 0 };
  list = replicate instances_most empty_record;
  state = replicate (state_length 6) 9;
  scratch = replicate scratch_words 9;
  slots = 9 ∷ [];
}

abbrev call_of : ℕ → List ℕ → Call
call_of cells line = record { board = record { cells = cells; slots = 0; calls = 0 }; scratch = replicate scratch_words 9; slots = []; line = line }

abbrev five : Call
five = call_of 5 (codes "051100000005\n")

-- the byte behind `10` is missing
abbrev no-input : Call
no-input = call_of 4 (codes "0510\n")

abbrev seven : Call
seven = call_of 4 (codes "051100000007\n")

abbrev calls : List Call
calls = five ∷ no-input ∷ seven ∷ []

-- the words after the start and after each call
abbrev at_first_of : List ℕ
at_first_of = (begun text first).state

abbrev after_five : List ℕ
after_five = (called text at_first_of five).state

abbrev after_none_of : List ℕ
after_none_of = (called text after_five no-input).state

abbrev after_seven : List ℕ
after_seven = (called text after_none_of seven).state

-- from four cells to six are enough, and no more than the first call lent
lent : (cells : ℕ) (ws line : List ℕ) → 4 ≤ cells → cells ≤ 6 → buffers_lent (call_of cells line).board ws (call_of cells line).scratch (call_of cells line).slots ≡ true → CallAllowed needed 6 ws (call_of cells line)
lent cells ws line least most long = record { enough = record { cells = least; slots = omega arith; calls = omega arith }; few = most; buffers = long }

run : Run text needed first calls
unfolding reading sizing running codes text
run = record {
  begins = record { enough = record { cells = omega arith; slots = omega arith; calls = omega arith }; list = refl; buffers = refl };
  calls = a_call (lent 5 at_first_of five.line (omega arith) (omega arith) refl)
      (a_call (lent 4 after_five no-input.line (omega arith) (omega arith) refl)
      (a_call (lent 4 after_none_of seven.line (omega arith) (omega arith) refl) no_call));
}

-- so the premises of demand 3 can be met
run-is-claimed : Claim text file needed first calls
run-is-claimed = demand-3.every text file needed text-is-read four-cells first calls run

-- ---- what the calls leave: the number answered, the cells kept, and the trees of the input and the node, read as on the first board
record Left : Type 0 where
  number : ℕ
  kept : ℕ
  trees : Option (List Tree)

left : Answer → List ℕ → Left
left a ws = record { number = a.number; kept = get_or ws 0 0; trees = chain (load_state file 6 ws) (λ s. some (channel_trees s)) }

ints : ℕ → ℕ → ℕ → Left
ints number input node = record { number = number; kept = 2; trees = some (vleaf (kint input) ∷ vleaf (kint node) ∷ []) }

node-adds-up :
    left (begun text first).answer at_first_of ∷ left (called text at_first_of five).answer after_five ∷ left (called text after_five no-input).answer after_none_of ∷ left (called text after_none_of seven).answer after_seven ∷ []
    ≡ ints 0 0 0 ∷ ints 0 5 5 ∷ ints 19 5 5 ∷ ints 0 7 12 ∷ []
unfolding reading sizing running codes text file left ints
node-adds-up = refl
