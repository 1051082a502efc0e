-- The order of an iteration (document 02, R-3): "The iteration updates, again and again, the lowest-numbered node not yet done whose
-- `13` readings of nodes are all done." A node is named by its place among the nodes, from 0.
use Rattle.std.specs.Prelude.{ℕ, zero, suc, ◌-◌, ◌<◌, List, [], ◌∷◌, ◌++◌, map, Bool, true, false, not, ◌≡◌, length, get_or, ltb}
use Rattle.std.proofs.Math.Option.{Option, none, some}
use Rattle.language.specs.Refusals.{self_reading}
use Rattle.language.specs.Result.{Result, need_each, both, choose}
use Rattle.language.specs.Syntax.{Expr, ebool, eint, evar, enow, elast, elet, eif, eop, ecall, econ, ecase, eadj, efit, Exprs, enil, econs, Node, File, node_channel, channel_frame}
use Rattle.language.specs.Within.{All}
use Rattle.language.specs.Slide.{mem}

-- ---- readings
-- the channels that the `13`s written in an expression name, in arms never taken too; a function's "body names no channel"
unfoldable mutual
  pub readings : Expr → List ℕ
  readings (ebool b) = []
  readings (eint n) = []
  readings (evar v) = []
  readings (enow c) = c ∷ []
  readings (elast c) = []
  readings (elet a b) = readings a ++ readings b
  readings (eif a b d) = readings a ++ (readings b ++ readings d)
  readings (eop o a b) = readings a ++ readings b
  readings (ecall f es) = all_readings es
  readings (econ t c es) = all_readings es
  readings (ecase t e r bs) = readings e ++ all_readings bs
  readings (eadj s e) = readings e
  readings (efit k a b d) = readings a ++ (readings b ++ readings d)

  pub all_readings : Exprs → List ℕ
  all_readings enil = []
  all_readings (econs e es) = readings e ++ all_readings es

-- the nodes among channels, of which the first so many are inputs
unfoldable pub nodes_among : ℕ → List ℕ → List ℕ
nodes_among inputs [] = []
nodes_among inputs (c ∷ cs) = choose (ltb c inputs) (nodes_among inputs cs) ((c - inputs) ∷ nodes_among inputs cs)

-- for each node, the nodes that its update reads by `13`
unfoldable pub node_readings : File → List (List ℕ)
node_readings P = map (λ (n : Node). nodes_among (length P.inputs) (readings n.update)) P.nodes

-- From here on a list R of readings stands for the file: node i reads the nodes get_or R i [].
abbrev pub read_by : List (List ℕ) → ℕ → List ℕ
read_by R i = get_or R i []

-- ---- "some node reads itself through `13`, directly or by others"
pub data Through (R : List (List ℕ)) : ℕ → ℕ → Type 0 where
  directly : {i j : ℕ} → mem j (read_by R i) ≡ true → Through R i j
  by-others : {i j k : ℕ} → mem k (read_by R i) ≡ true → Through R k j → Through R i j

abbrev pub ReadsItself : File → ℕ → Type 0
ReadsItself P i = Through (node_readings P) i i

-- no node does: the readings have no cycle
abbrev pub Acyclic : File → Type 0
Acyclic P = (i : ℕ) → i < length P.nodes → ReadsItself P i → ⊥

-- "the lowest such node"
pub record LowestSelfReader (P : File) (i : ℕ) : Type 0 where
  pub node : i < length P.nodes
  pub itself : ReadsItself P i
  pub lowest : (k : ℕ) → k < i → ReadsItself P k → ⊥

-- what each node reads, directly or through nodes below k
unfoldable pub read_through : ℕ → List (List ℕ) → List (List ℕ)
read_through zero R = R
read_through (suc k) R = let T = read_through k R in map (λ js. choose (mem k js) (js ++ read_by T k) js) T

abbrev pub all_through : List (List ℕ) → List (List ℕ)
all_through R = read_through (length R) R

-- for each node, the first being i: it does not read itself
unfoldable pub none_reads_itself : ℕ → List (List ℕ) → List Bool
none_reads_itself i [] = []
none_reads_itself i (js ∷ T) = not (mem i js) ∷ none_reads_itself (suc i) T

-- "25, some node reads itself .. the frame is the lowest such node's"
unfoldable pub orderly : {A : Type 0} → File → Result A → Result A
orderly P r = need_each self_reading (channel_frame P (node_channel P 0)) (none_reads_itself 0 (all_through (node_readings P))) r

-- ---- the order
unfoldable pub all_mem : List ℕ → List ℕ → Bool
all_mem [] done = true
all_mem (j ∷ js) done = both (mem j done) (all_mem js done)

-- "not yet done", and "readings of nodes are all done"
unfoldable pub ready : List (List ℕ) → List ℕ → ℕ → Bool
ready R done i = both (not (mem i done)) (all_mem (read_by R i) done)

-- the lowest number from i on, of n numbers, that passes the test
unfoldable pub lowest : (ℕ → Bool) → ℕ → ℕ → Option ℕ
lowest f zero i = none
lowest f (suc n) i = choose (f i) (some i) (lowest f n (suc i))

unfoldable pub and_then : Option ℕ → (ℕ → List ℕ) → List ℕ
and_then none k = []
and_then (some i) k = i ∷ k i

-- "again and again": at most n times more, behind those done; it ends where no node is ready
unfoldable pub order_from : List (List ℕ) → ℕ → List ℕ → List ℕ
order_from R zero done = []
order_from R (suc n) done = and_then (lowest (ready R done) (length R) 0) (λ i. order_from R n (done ++ (i ∷ [])))

unfoldable pub order : File → List ℕ
order P = order_from (node_readings P) (length P.nodes) []

-- ---- every order that respects the readings
-- the nodes is may come one after the other where those of done are done: each is not done, and what it reads is
pub data Follows (R : List (List ℕ)) : List ℕ → List ℕ → Type 0 where
  f_none : {done : List ℕ} → Follows R done []
  f_next : {i : ℕ} {done is : List ℕ} → i < length R → mem i done ≡ false → All (λ j. mem j done ≡ true) (read_by R i) → Follows R (done ++ (i ∷ [])) is → Follows R done (i ∷ is)

-- each node exactly once, behind all that it reads
pub record Respects (R : List (List ℕ)) (is : List ℕ) : Type 0 where
  pub follows : Follows R [] is
  pub every : (i : ℕ) → i < length R → mem i is ≡ true
