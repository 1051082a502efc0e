-- What the simulation says: with at least its three numbers free, an expression of a type has a value of that type under the
-- evaluation rules, the heap grows by no more than its heap number, and the plain machine derives the value's tree.
use Rattle.std.specs.Prelude.{ℕ, suc, ◌+◌, ◌≤◌, ◌<◌, List, [], ◌∷◌, ◌++◌, ◌≡◌, refl, length}
use Rattle.std.proofs.Math.Option.{some}
use Rattle.std.proofs.Common.{arith}
use Rattle.std.proofs.Math.ListN.{get_elem? as look}
use Rattle.language.specs.Syntax.{Constructor, Ty, Expr, Exprs, look_expr, File, owns}
use Rattle.language.specs.Sizes.{sum, field_types}
use Rattle.language.specs.Estimate.{Estimate, either, with_slots}
use Rattle.language.specs.Heap.{Cell, Tree, tree_of, trees, tree_at}
use Rattle.language.specs.Evaluator.{value, Channels, eval, run}
use Rattle.language.specs.Rules.{New, Runs, RunsAll}
use Rattle.language.specs.PlainMachine.{Derives, DerivesAll}
use Rattle.theory.specs.HeapTrees.{tree-new}
use Rattle.theory.specs.RulesGive.{runs-eval}
use Rattle.theory.specs.SplitsCover.{Under, Positive}
use Rattle.theory.specs.HeapValues.{Has, Env, Scoped}
use Rattle.theory.specs.Growth.{Grew, grew_none, grew-one, grew_trans, grew-more}
use Rattle.theory.specs.ScopeTrees.{channel_trees, scope_trees}

-- at least these numbers free: s slots, cells above the heap, u calls
pub record Enough (x : Estimate) (u s cap : ℕ) (h : List Cell) : Type 0 where
  pub slots : x.env ≤ s
  pub cells : length h + x.heap ≤ cap
  pub calls : x.stack ≤ u

pub record AtMost (x y : Estimate) : Type 0 where
  pub env : x.env ≤ y.env
  pub heap : x.heap ≤ y.heap
  pub stack : x.stack ≤ y.stack

pub either_left : (m n : Estimate) {x : Estimate} → x ≡ either m n → AtMost m x
either_left m n q = rw q (omega arith)

pub either-right : (m n : Estimate) {x : Estimate} → x ≡ either m n → AtMost n x
either-right m n q = rw q (omega arith)

-- an end of evaluation: what it gives, and the heap
pub record Ends {A : Type 0} (Q : A → List Cell → Type 0) : Type 0 where
  pub result : A
  pub heap : List Cell
  pub is : Q result heap

pub then : {A B : Type 0} {Q : A → List Cell → Type 0} {R : B → List Cell → Type 0} → Ends Q → ((a : A) (g : List Cell) → Q a g → Ends R) → Ends R
then x f = f x.result x.heap x.is

-- ---- the location l in the heap g is the value of e, of type τ, n cells or fewer later
pub record Simulated (P : File) (cap : ℕ) (N : Channels) (u s : ℕ) (E : List ℕ) (h : List Cell) (e : Expr) (τ : Ty) (n l : ℕ) (g : List Cell) : Type 0 where
  pub runs : Runs P cap N u s E h e l g
  pub grew : Grew P h g n
  pub has : Has P g l τ
  pub derives : Derives P (channel_trees h N) (scope_trees h E) e (tree_at g l)

pub record SimulatedAll (P : File) (cap : ℕ) (N : Channels) (u s : ℕ) (E : List ℕ) (h : List Cell) (es : Exprs) (τs : List Ty) (n : ℕ) (ls : List ℕ) (g : List Cell) : Type 0 where
  pub runs : RunsAll P cap N u s E h es ls g
  pub grew : Grew P h g n
  pub has : Env P g ls τs
  pub derives : DerivesAll P (channel_trees h N) (scope_trees h E) es (scope_trees g ls)

-- so the evaluator gives it
pub simulated-eval : {P : File} {cap : ℕ} {N : Channels} {u s : ℕ} {E : List ℕ} {h : List Cell} {e : Expr} {τ : Ty} {n l : ℕ} {g : List Cell} → Simulated P cap N u s E h e τ n l g → eval P (run P cap u) cap N e E s h ≡ value l g
simulated-eval {P} {cap} x = runs-eval P cap x.runs

-- ---- what is shown of an expression, of expressions, and of branches; C and Γ: the types of channels and variables
pub record Simulates (P : File) (cap : ℕ) (C Γ : List Ty) (e : Expr) (τ : Ty) (x : Estimate) : Type 0 where
  pub ends : (N : Channels) (u s : ℕ) (E : List ℕ) (h : List Cell) → Scoped P N C h E Γ → Enough x u s cap h → Ends (Simulated P cap N u s E h e τ x.heap)

pub record SimulatesAll (P : File) (cap : ℕ) (C Γ : List Ty) (es : Exprs) (τs : List Ty) (x : Estimate) : Type 0 where
  pub ends : (N : Channels) (u s : ℕ) (E : List ℕ) (h : List Cell) → Scoped P N C h E Γ → Enough x u s cap h → Ends (SimulatedAll P cap N u s E h es τs x.heap)

-- the branch of constructor c, which has the fields fs, at a split over the sizes ks
pub record BranchFound (P : File) (cap : ℕ) (C Γ : List Ty) (t : ℕ) (fs : Constructor) (bs : Exprs) (c : ℕ) (ks : List ℕ) (τ : Ty) (x : Estimate) : Type 0 where
  pub branch : Expr
  pub is : look_expr bs c ≡ some branch
  pub split : List ℕ
  pub over : Under ks split
  pub numbers : Estimate
  pub few : AtMost (with_slots (length fs) numbers) x
  pub simulates : Simulates P cap C (Γ ++ field_types t fs split) branch τ numbers

pub record SimulatesBranches (P : File) (cap : ℕ) (C Γ : List Ty) (t k : ℕ) (cs : List Constructor) (bs : Exprs) (τ : Ty) (x : Estimate) : Type 0 where
  pub found : (c : ℕ) (fs : Constructor) (ks : List ℕ) → look cs c ≡ some fs → Positive ks → length ks ≡ owns fs → suc (sum ks) ≤ k → BranchFound P cap C Γ t fs bs c ks τ x

-- ---- the end of a whole
-- a location in scope is its value
pub held-ends : {P : File} {cap : ℕ} {N : Channels} {u s : ℕ} {E : List ℕ} {h : List Cell} {e : Expr} {τ : Ty} {l : ℕ} → Has P h l τ → Runs P cap N u s E h e l h → Derives P (channel_trees h N) (scope_trees h E) e (tree_at h l) →
    Ends (Simulated P cap N u s E h e τ 0)
held-ends {h} {l} has runs derives = record { result = l; heap = h; is = record { runs = runs; grew = grew_none h; has = has; derives = derives } }

module _ {P : File} {cap : ℕ} {N : Channels} {u s : ℕ} {E : List ℕ} {h i : List Cell} {e : Expr} {τ : Ty} {m n : ℕ} (w : Grew P h i m) where
  -- a new cell is its value
  pub new-ends : (c : Cell) → length i < cap → m + 1 ≤ n → Has P (i ++ (c ∷ [])) (length i) τ →
      (New cap i c (length i) (i ++ (c ∷ [])) → Runs P cap N u s E h e (length i) (i ++ (c ∷ []))) → Derives P (channel_trees h N) (scope_trees h E) e (tree_of (trees i) c) →
      Ends (Simulated P cap N u s E h e τ n)
  new-ends c free few has rule derives = record {
    result = length i;
    heap = i ++ (c ∷ []);
    is = record { runs = rule (record { free = free; at = refl; is = refl }); grew = grew-more few (grew_trans w (grew-one i c has)); has = has; derives = rw (tree-new i c) derives };
  }

  -- the value of the part that runs last is its value
  pub last-ends : {M : Channels} {v r k : ℕ} {D : List ℕ} {b : Expr} → Ends (Simulated P cap M v r D i b τ k) → m + k ≤ n →
      ((l : ℕ) (g : List Cell) → Runs P cap M v r D i b l g → Runs P cap N u s E h e l g) →
      ((z : Tree) → Derives P (channel_trees i M) (scope_trees i D) b z → Derives P (channel_trees h N) (scope_trees h E) e z) → Ends (Simulated P cap N u s E h e τ n)
  last-ends x few rule plain = record {
    result = x.result;
    heap = x.heap;
    is = record { runs = rule x.result x.heap x.is.runs; grew = grew-more few (grew_trans w x.is.grew); has = x.is.has; derives = plain _ x.is.derives };
  }

-- ---- with larger numbers
pub simulates-more : {P : File} {cap : ℕ} {C Γ : List Ty} {e : Expr} {τ : Ty} {x y : Estimate} → AtMost x y → Simulates P cap C Γ e τ x → Simulates P cap C Γ e τ y
simulates-more le p = record {
  ends = λ N u s E h S room. then (p.ends N u s E h S (omega arith)) (λ l g r.
      record { result = l; heap = g; is = record { runs = r.runs; grew = grew-more le.heap r.grew; has = r.has; derives = r.derives } });
}
