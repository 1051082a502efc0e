-- The start by the rules: figure 4 run on each initial value in channel order, on the board's memory, in place of `initialTree` and `build`.
-- "An initial value names no channel", and no variable stands in scope.
use Rattle.std.specs.Prelude.{ℕ, List, [], ◌∷◌, ◌++◌, ◌≡◌}
use Rattle.language.specs.Syntax.{Expr, File, initial_values}
use Rattle.language.specs.Heap.{Cell}
use Rattle.language.specs.Slide.{State}
use Rattle.language.specs.Evaluator.{no_channels}
use Rattle.language.specs.Rules.{Runs}
use Rattle.language.specs.Machine.{Board}

-- the values of es laid behind a heap one after the other; roots: the locations so far
pub data Begins (P : File) (b : Board) : List Expr → List Cell → List ℕ → State → Type 0 where
  begins_none : {h : List Cell} {roots : List ℕ} {s : State} → s ≡ record { heap = h; roots = roots } → Begins P b [] h roots s
  begins_next : {e : Expr} {es : List Expr} {h g : List Cell} {roots : List ℕ} {l : ℕ} {s : State} →
      Runs P b.cells no_channels b.calls b.slots [] h e l g → Begins P b es g (roots ++ (l ∷ [])) s → Begins P b (e ∷ es) h roots s

abbrev pub FileBegins : File → Board → State → Type 0
FileBegins P b s = Begins P b (initial_values P) [] [] s
