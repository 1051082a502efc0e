-- Demand 3 as a type: "a single claim about the whole list of lines, the empty list too". Document 01, "The third demand's run".
use Rattle.std.specs.Prelude.{ℕ, ◌+◌, ◌≤◌, List, [], ◌∷◌, ◌++◌, map, true, ◌≡◌, length, drop}
use Rattle.std.proofs.Math.Option.{Option, none, some}
use Rattle.language.specs.Syntax.{File, declared_types}
use Rattle.language.specs.Result.{ok}
use Rattle.language.specs.Refusals.{no_frame, bad_input_line}
use Rattle.language.specs.Reader.{read_file}
use Rattle.language.specs.Estimate.{Estimate}
use Rattle.language.specs.Cells.{channel_cells}
use Rattle.language.specs.Heap.{Tree, tree_at}
use Rattle.language.specs.Slide.{State}
use Rattle.language.specs.Order.{node_readings, order, Respects}
use Rattle.language.specs.Layout.{load_state}
use Rattle.language.specs.Line.{line_trees, trees_fit}
use Rattle.language.specs.Machine.{Board, Record, Verdict, accepted, done, refusal, answer, check, list_lent, buffers_lent, start, Started, iterate_in, iterate_state, iterate, Iterated}
use Rattle.language.specs.PlainMachine.{Nodes, Step, initial_trees}

-- "A channel's value is the tree written out from its cell"
abbrev pub channel_trees : State → List Tree
channel_trees s = map (tree_at s.heap) s.roots

-- at least the reported numbers
pub record Enough (x : Estimate) (b : Board) : Type 0 where
  pub cells : x.heap ≤ b.cells
  pub slots : x.env ≤ b.slots
  pub calls : x.stack ≤ b.calls

-- what the first call lends, and what each call for a line lends: a board, and buffers of any contents
pub record FirstCall : Type 0 where
  pub board : Board
  pub list : List Record
  pub state : List ℕ
  pub scratch : List ℕ
  pub slots : List ℕ

pub record Call : Type 0 where
  pub board : Board
  pub scratch : List ℕ
  pub slots : List ℕ
  pub line : List ℕ

-- the numbers x reported for a text: some board lent enough is answered with them
pub record Reported (t : List ℕ) (x : Estimate) : Type 0 where
  pub board : Board
  pub list : List Record
  pub is : (check t board list).answer ≡ answer (accepted x)

pub record StartAllowed (x : Estimate) (c : FirstCall) : Type 0 where
  pub enough : Enough x c.board
  pub list : list_lent c.board c.list ≡ true
  pub buffers : buffers_lent c.board c.state c.scratch c.slots ≡ true

-- "its buffers always as long as the board it names asks"; "Within a run no call lends more cells than the call that first filled the
-- state": cells is that call's
pub record CallAllowed (x : Estimate) (cells : ℕ) (ws : List ℕ) (c : Call) : Type 0 where
  pub enough : Enough x c.board
  pub few : c.board.cells ≤ cells
  pub buffers : buffers_lent c.board ws c.scratch c.slots ≡ true

-- the words hold a valid state whose channels hold these trees, of their types and sizes, in no more cells than stated: "Cells kept
-- are those reached from a channel, each counted once", and a valid state has no other
pub record Holds (P : File) (cells : ℕ) (ws : List ℕ) (vs : List Tree) : Type 0 where
  pub state : State
  pub valid : load_state P cells ws ≡ some state
  pub trees : channel_trees state ≡ vs
  pub fit : trees_fit P vs (declared_types P) ≡ true
  pub few : length state.heap ≤ channel_cells P

-- "Every answer to a line is 0 or 19": 0 for an allowed line, 19 for any other
abbrev pub line_verdict : Option (List Tree) → Verdict
line_verdict (some vs) = done
line_verdict none = refusal bad_input_line no_frame

abbrev pub called : List ℕ → List ℕ → Call → Iterated
called t ws c = iterate t c.board ws c.scratch c.slots c.line

-- every call of the run, from words ws while the plain machine holds vs
pub data Goes (t : List ℕ) (P : File) (x : Estimate) (cells : ℕ) : List ℕ → List Tree → List Call → Type 0 where
  ends : {ws : List ℕ} {vs : List Tree} → Holds P cells ws vs → Goes t P x cells ws vs []
  goes : {ws : List ℕ} {vs us : List Tree} {c : Call} {cs : List Call} → Holds P cells ws vs →
      (called t ws c).answer ≡ answer (line_verdict (line_trees P c.line)) → Step P vs c.line us →
      Goes t P x cells (called t ws c).state us cs → Goes t P x cells ws vs (c ∷ cs)

-- the calls of a run lend enough, each on the words that the call before left
pub data CallsAllowed (t : List ℕ) (x : Estimate) (cells : ℕ) : List ℕ → List Call → Type 0 where
  no_call : {ws : List ℕ} → CallsAllowed t x cells ws []
  a_call : {ws : List ℕ} {c : Call} {cs : List Call} → CallAllowed x cells ws c → CallsAllowed t x cells (called t ws c).state cs → CallsAllowed t x cells ws (c ∷ cs)

abbrev pub begun : List ℕ → FirstCall → Started
begun t c = start t c.board c.list c.state c.scratch c.slots

-- a run: the start, and a call for each line
pub record Run (t : List ℕ) (x : Estimate) (c : FirstCall) (cs : List Call) : Type 0 where
  pub begins : StartAllowed x c
  pub calls : CallsAllowed t x c.board.cells (begun t c).state cs

-- what is claimed of a run: the start answers with the numbers, and every call goes as the plain machine does
pub record Claim (t : List ℕ) (P : File) (x : Estimate) (c : FirstCall) (cs : List Call) : Type 0 where
  pub begins : (begun t c).answer ≡ answer (accepted x)
  pub goes : Goes t P x c.board.cells (begun t c).state (initial_trees P) cs

-- "two such runs agree": the same lines, whatever is lent; equal answers and equal values after the start and after each line
pub data Alike (t : List ℕ) (P : File) (m n : ℕ) : List ℕ → List ℕ → List Call → List Call → Type 0 where
  both_end : {v w : List ℕ} {r s : State} → load_state P m v ≡ some r → load_state P n w ≡ some s → channel_trees r ≡ channel_trees s → Alike t P m n v w [] []
  both_go : {v w : List ℕ} {r s : State} {c d : Call} {cs ds : List Call} → load_state P m v ≡ some r → load_state P n w ≡ some s → channel_trees r ≡ channel_trees s →
      (called t v c).answer ≡ (called t w d).answer → Alike t P m n (called t v c).state (called t w d).state cs ds → Alike t P m n v w (c ∷ cs) (d ∷ ds)

abbrev pub lines_in : List Call → List (List ℕ)
lines_in cs = map (λ (c : Call). c.line) cs

-- Document 02, R-3: "a valid state and an allowed line give the same values in every order that respects the readings". An iteration in the
-- order of these places, and one in the iteration's own: neither is refused, the values are equal, and the plain machine has them in
-- the order of these places.
pub record SameValues (P : File) (b : Board) (s : State) (us : List Tree) (places : List ℕ) : Type 0 where
  pub own : State
  pub own_is : iterate_state P b s us ≡ ok own
  pub after : State
  pub after_is : iterate_in places P b s us ≡ ok after
  pub same : channel_trees after ≡ channel_trees own
  pub plain : Nodes P (channel_trees s) places (us ++ drop (length P.inputs) (channel_trees s)) (channel_trees own)

pub record EveryOrder : Type 0 where
  -- the iteration's own order is one of them
  pub own : (t : List ℕ) (P : File) (x : Estimate) → read_file t ≡ ok P → Reported t x → Respects (node_readings P) (order P)
  pub same : (t : List ℕ) (P : File) (x : Estimate) → read_file t ≡ ok P → Reported t x → (b : Board) → Enough x b → (cells : ℕ) (ws : List ℕ) (s : State) → load_state P cells ws ≡ some s →
      (line : List ℕ) (us : List Tree) → line_trees P line ≡ some us → (is : List ℕ) → Respects (node_readings P) is → SameValues P b s us is
  -- the plain machine of any file: two such orders do not lead to different trees
  pub plain : (P : File) (last now vs ws : List Tree) → length now ≡ length P.inputs + length P.nodes → (is js : List ℕ) → Respects (node_readings P) is → Respects (node_readings P) js →
      Nodes P last is now vs → Nodes P last js now ws → vs ≡ ws

-- demand 3
pub record Demand3 : Type 0 where
  pub every : (t : List ℕ) (P : File) (x : Estimate) → read_file t ≡ ok P → Reported t x → (c : FirstCall) (cs : List Call) → Run t x c cs → Claim t P x c cs
  pub two : (t : List ℕ) (P : File) (x : Estimate) → read_file t ≡ ok P → Reported t x → (c d : FirstCall) (cs ds : List Call) → Run t x c cs → Run t x d ds →
      lines_in cs ≡ lines_in ds → Alike t P c.board.cells d.board.cells (begun t c).state (begun t d).state cs ds
