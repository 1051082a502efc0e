-- Readings as a row of sets of channels, one for each node; the first so many channels are inputs. What the functions on such rows promise.
use Rattle.std.specs.Prelude.{ℕ, ◌+◌, ◌/◌, ◌^◌, ◌≤◌, ◌<◌, List, Bool, true, not, Option, Some, ◌≡◌, ◌↔◌, length, get_or, eqb}
use Rattle.std.specs.Int.Bits.{bit_or}
use Rattle.language.specs.Limits.{nodes_most}
use Rattle.language.specs.Result.{both, choose}
use Rattle.language.specs.Slide.{mem}
use Rattle.language.specs.Order.{read_by, read_through}
use Rattle.theory.specs.ReadThrough.{below, Named}
use Rattle.channel_sets.specs.Sets.{in_set}
use Rattle.node_order.specs.Lowest.{Below, LowestBelow}

-- a node with these readings, channel c: it is not done, and all that it reads is
unfoldable pub ready_in : ℕ → ℕ → ℕ → Bool
ready_in done c reads = both (not (in_set done c)) (eqb (bit_or done reads) done)

-- node i reads its own channel
abbrev pub self_in : List ℕ → ℕ → ℕ → Bool
self_in row inputs i = in_set (get_or row i 0) (inputs + i)

-- the row has of each node which nodes it reads
pub record Table (inputs : ℕ) (row : List ℕ) (R : List (List ℕ)) : Type 0 where
  pub each : (i j : ℕ) → i < length R → j < length R → in_set (get_or row i 0) (inputs + j) ≡ mem j (read_by R i)

-- node i reads only channels below its own
pub record Lower (row : List ℕ) (inputs i : ℕ) : Type 0 where
  pub is : get_or row i 0 / 2 ^ (inputs + i) ≡ 0

-- whether each node does
pub record ReadsLower (row : List ℕ) (inputs nodes : ℕ) (r : Bool) : Type 0 where
  pub says : (r ≡ true) ↔ Below (Lower row inputs) nodes

-- a node's readings, and those of the node of channel c where it reads that
unfoldable pub joined_by : ℕ → ℕ → ℕ → ℕ
joined_by c through own = choose (in_set own c) (bit_or own through) own

-- the readings of node k joined to those of every node that reads it
pub record ReadOn (inputs nodes k : ℕ) (row row' : List ℕ) : Type 0 where
  pub each : (i : ℕ) → i < nodes → get_or row' i 0 ≡ joined_by (inputs + k) (get_or row k 0) (get_or row i 0)

pub record ReadThrough (inputs nodes : ℕ) (row row' : List ℕ) : Type 0 where
  pub says : (R : List (List ℕ)) → length R ≡ nodes → Table inputs row R → Table inputs row' (read_through (length R) R)

-- the lowest node that reads itself, directly or by others
pub record SelfReader (row : List ℕ) (inputs nodes : ℕ) (r : Option ℕ) : Type 0 where
  pub less : {i : ℕ} → r ≡ Some i → i < nodes
  pub says : (R : List (List ℕ)) → length R ≡ nodes → nodes ≤ nodes_most → Named R → Table inputs row R → LowestBelow (λ i. below R (length R) i i) nodes r
