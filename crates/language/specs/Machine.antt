-- The calls `check`, `start` and `iterate`: from everything that is lent, contents and lengths, to the answer and the final
-- contents of everything that is lent. Document 01, "By place". One definition gives each refusal its number, frame and bounds.
use Rattle.std.specs.Prelude.{ℕ, suc, ◌+◌, ◌-◌, List, [], ◌∷◌, ◌++◌, map, Bool, length, drop, set, replicate, leb}
use Rattle.language.specs.Limits.{parameters_most, instances_most, cells_most, slots_most, calls_most, scratch_words}
use Rattle.language.specs.Refusals.{no_refusal, no_frame, heap_short, environment_short, stack_short, not_lent, bad_input_line, heap_spent, value_too_large}
use Rattle.language.specs.Result.{Result, ok, no, bind, need, from, both, choose}
use Rattle.language.specs.Syntax.{File, node_at_of, node_channel, channel_frame}
use Rattle.language.specs.Reader.{read_file}
use Rattle.language.specs.PlainTypes.{plain_types}
use Rattle.language.specs.Sizes.{size_of_type}
use Rattle.language.specs.Estimate.{Estimate, nothing, stopped}
use Rattle.language.specs.Checker.{Instance, SizedFile, sized_file}
use Rattle.language.specs.Cells.{numbers_needed}
use Rattle.language.specs.Heap.{Cell, leaf, con, Tree, vleaf, vcon, Trees, vnil, vcons, cell_at, size_in}
use Rattle.language.specs.Values.{tree_size}
use Rattle.language.specs.Slide.{State, slide}
use Rattle.language.specs.Order.{orderly, order}
use Rattle.language.specs.Layout.{padded, state_length, state_words, load_state}
use Rattle.language.specs.Line.{line_trees}
use Rattle.language.specs.Evaluator.{Out, value, refused, eval, run}
use Rattle.language.specs.PlainMachine.{initial_trees}

-- ---- what is lent and answered
pub record Board : Type 0 where
  pub cells : ℕ
  pub slots : ℕ
  pub calls : ℕ

-- "A board has at most 2,048 cells, 256 slots, 64 calls."
unfoldable pub board_allowed : Board → Bool
board_allowed b = both (leb b.cells cells_most) (both (leb b.slots slots_most) (leb b.calls calls_most))

-- "one record an instance, holding the function, its sizes and its three numbers"; unused sizes are 0
pub record Record : Type 0 where
  pub function : ℕ
  pub sizes : List ℕ
  pub numbers : Estimate

abbrev pub empty_record : Record
empty_record = record { function = 0; sizes = padded parameters_most []; numbers = nothing }

unfoldable pub record_of : Instance → Record
record_of i = record { function = i.function; sizes = padded parameters_most i.sizes; numbers = stopped i.numbers }

-- "An answer is a number (0 where all is well), a frame (from 1; 0 where none is named) and three bounds"
pub record Answer : Type 0 where
  pub number : ℕ
  pub frame : ℕ
  pub bounds : Estimate

pub data Verdict : Type 0 where
  accepted : Estimate → Verdict
  done : Verdict
  refusal : ℕ → ℕ → Verdict
  short : ℕ → Estimate → Verdict

-- "three bounds, zero except on acceptance by checker or start and in 15 to 17"
unfoldable pub answer : Verdict → Answer
answer (accepted x) = record { number = no_refusal; frame = no_frame; bounds = x }
answer done = record { number = no_refusal; frame = no_frame; bounds = nothing }
answer (refusal n frame) = record { number = n; frame = frame; bounds = nothing }
answer (short n x) = record { number = n; frame = no_frame; bounds = x }

-- ---- checking
-- 1 to 9, 25, 18 where what is lent is not enough, then 10 to 14
pub record Accepted : Type 0 where
  pub file : File
  pub sizes : SizedFile

unfoldable pub check_file : List ℕ → Bool → Result Accepted
check_file t lent = bind (read_file t) (λ P. plain_types P (orderly P (need lent not_lent no_frame (bind (sized_file P) (λ q. ok (record { file = P; sizes = q }))))))

-- 15, 16, 17: "heap, environment, stack needed above the board's"; x is what is reported
unfoldable pub judge : Board → Estimate → Verdict
judge b x = choose (leb x.heap b.cells) (choose (leb x.env b.slots) (choose (leb x.stack b.calls) (accepted x) (short stack_short x)) (short environment_short x)) (short heap_short x)

unfoldable pub judged : Board → Accepted → Verdict
judged b a = judge b (stopped (numbers_needed a.file a.sizes.updates))

unfoldable pub verdict_of : Board → Result Accepted → Verdict
verdict_of b (no n frame) = refusal n frame
verdict_of b (ok a) = judged b a

-- "The unused rest is zero." A refusal leaves the whole list zero.
unfoldable pub final_list : Verdict → Result Accepted → ℕ → List Record
final_list (accepted x) (ok a) n = map record_of a.sizes.list ++ replicate (n - length a.sizes.list) empty_record
final_list (accepted x) (no m frame) n = replicate n empty_record
final_list done r n = replicate n empty_record
final_list (refusal m frame) r n = replicate n empty_record
final_list (short m x) r n = replicate n empty_record

pub record Checked : Type 0 where
  pub answer : Answer
  pub list : List Record

-- "In the checker 18 is a board over its maximum or an instance list under 1,024 records."
unfoldable pub list_lent : Board → List Record → Bool
list_lent b list = both (board_allowed b) (leb instances_most (length list))

unfoldable pub check : List ℕ → Board → List Record → Checked
check t b list = let r = check_file t (list_lent b list) in let v = verdict_of b r in record { answer = answer v; list = final_list v r (length list) }

-- ---- start
-- the cells of a tree, "fields left to right before their constructor"
pub record Built : Type 0 where
  pub location : ℕ
  pub heap : List Cell

pub record BuiltAll : Type 0 where
  pub locations : List ℕ
  pub heap : List Cell

unfoldable pub new_cell : List Cell → Cell → Built
new_cell h c = record { location = length h; heap = h ++ (c ∷ []) }

module _ (P : File) where
  unfoldable mutual
    pub build : Tree → List Cell → Built
    build (vleaf x) h = new_cell h (leaf x)
    build (vcon t c ws) h = let r = build_fields ws h in new_cell r.heap (con t c (tree_size P (vcon t c ws)) r.locations)

    pub build_fields : Trees → List Cell → BuiltAll
    build_fields vnil h = record { locations = []; heap = h }
    build_fields (vcons w ws) h = let r = build w h in let q = build_fields ws r.heap in record { locations = r.location ∷ q.locations; heap = q.heap }

  unfoldable pub build_all : List Tree → List Cell → List ℕ → State
  build_all [] h roots = record { heap = h; roots = roots }
  build_all (v ∷ vs) h roots = let r = build v h in build_all vs r.heap (roots ++ (r.location ∷ []))

-- the initial values' cells in channel order, nothing shared
unfoldable pub start_state : File → State
start_state P = build_all P (initial_trees P) [] []

-- the state's words; a longer buffer's rest is neither read nor written
unfoldable pub written : ℕ → State → List ℕ → List ℕ
written cells s ws = state_words cells s ++ drop (state_length cells) ws

unfoldable pub start_words : Verdict → Result Accepted → ℕ → List ℕ → List ℕ
start_words (accepted x) (ok a) cells ws = written cells (start_state a.file) ws
start_words (accepted x) (no m frame) cells ws = ws
start_words done r cells ws = ws
start_words (refusal m frame) r cells ws = ws
start_words (short m x) r cells ws = ws

-- "a buffer too short": the state, the scratch and the environment slots, by their lengths
unfoldable pub lengths_lent : Board → ℕ → ℕ → ℕ → Bool
lengths_lent b state scratch slots = both (board_allowed b) (both (leb (state_length b.cells) state) (both (leb scratch_words scratch) (leb b.slots slots)))

abbrev pub buffers_lent : Board → List ℕ → List ℕ → List ℕ → Bool
buffers_lent b state scratch slots = lengths_lent b (length state) (length scratch) (length slots)

abbrev pub zeros : List ℕ → List ℕ
zeros ws = replicate (length ws) 0

pub record Started : Type 0 where
  pub answer : Answer
  pub list : List Record
  pub state : List ℕ
  pub scratch : List ℕ
  pub slots : List ℕ

unfoldable pub start : List ℕ → Board → List Record → List ℕ → List ℕ → List ℕ → Started
start t b list state scratch slots =
    let r = check_file t (both (list_lent b list) (buffers_lent b state scratch slots)) in
    let v = verdict_of b r in
    record { answer = answer v; list = final_list v r (length list); state = start_words v r b.cells state; scratch = zeros scratch; slots = zeros slots }

-- ---- iteration
-- a channel's value and the heap, or a refusal in the channel's frame
unfoldable pub channel_value : {A : Type 0} → ℕ → Out → (ℕ → List Cell → Result A) → Result A
channel_value frame (value l h) k = k l h
channel_value frame (refused n) k = no n frame

-- the inputs' trees, channel c first: 20 where one does not fit
unfoldable pub put_inputs : File → ℕ → ℕ → List Tree → List Cell → List ℕ → Result State
put_inputs P cells c [] h roots = ok (record { heap = h; roots = roots })
put_inputs P cells c (v ∷ vs) h roots = let r = build P v h in
    need (leb (length r.heap) cells) heap_spent (channel_frame P c) (put_inputs P cells (suc c) vs r.heap (roots ++ (r.location ∷ [])))

-- the nodes at these places, one after the other; "a node's value above its declared size is refusal 23". now: the cells of all channels.
unfoldable pub update_nodes : File → Board → List ℕ → List ℕ → List Cell → List ℕ → Result State
update_nodes P b last [] h now = ok (record { heap = h; roots = now })
update_nodes P b last (i ∷ is) h now =
    channel_value (channel_frame P (node_channel P i)) (eval P (run P b.cells b.calls) b.cells (record { now = now; last = last }) (node_at_of P i).update [] b.slots h)
    (λ l g. need (leb (size_in (cell_at g l)) (size_of_type (node_at_of P i).declared)) value_too_large (channel_frame P (node_channel P i)) (update_nodes P b last is g (set now (node_channel P i) l)))

-- an iteration on a valid state with an allowed line's trees, its nodes in a given order
unfoldable pub iterate_in : List ℕ → File → Board → State → List Tree → Result State
iterate_in is P b s vs = bind (put_inputs P b.cells 0 vs s.heap []) (λ q.
    bind (update_nodes P b s.roots is q.heap (q.roots ++ drop (length P.inputs) s.roots)) (λ r. ok (slide r)))

unfoldable pub iterate_state : File → Board → State → List Tree → Result State
iterate_state P b s vs = iterate_in (order P) P b s vs

-- "An iteration runs 1 to 9, 18, 19, then 20 to 23 where the rules meet them"; R-3: 25 "tested after 9, before 18"
unfoldable pub iterate_file : List ℕ → Board → Bool → List ℕ → List ℕ → Result State
iterate_file t b lent state line = bind (read_file t) (λ P. plain_types P (orderly P (need lent not_lent no_frame (from (load_state P b.cells state) not_lent no_frame (λ s. from (line_trees P line) bad_input_line no_frame (λ vs. iterate_state P b s vs))))))

pub record Iterated : Type 0 where
  pub answer : Answer
  pub state : List ℕ
  pub scratch : List ℕ
  pub slots : List ℕ

unfoldable pub iterated : Result State → ℕ → List ℕ → List ℕ → List ℕ → Iterated
iterated (ok s) cells state scratch slots = record { answer = answer done; state = written cells s state; scratch = zeros scratch; slots = zeros slots }
iterated (no n frame) cells state scratch slots = record { answer = answer (refusal n frame); state = state; scratch = zeros scratch; slots = zeros slots }

unfoldable pub iterate : List ℕ → Board → List ℕ → List ℕ → List ℕ → List ℕ → Iterated
iterate t b state scratch slots line = iterated (iterate_file t b (buffers_lent b state scratch slots) state line) b.cells state scratch slots
