-- Putting the inputs' trees into the heap is building them, while they fit; where all fit none is refused.
use Rattle.std.specs.Prelude.{ℕ, suc, ◌+◌, ◌≤◌, length}
use mathlib.Core.List.{List, [], ◌∷◌, ◌++◌, map}
use Rattle.std.proofs.Math.Path.{◌≡◌, refl}
use Rattle.std.proofs.Common.{arith}
use borrow.Author.Tests.{le-leb, leb-true}
use Rattle.language.specs.Refusals.{heap_spent}
use Rattle.language.specs.Result.{ok, need}
use Rattle.language.specs.Syntax.{File, channel_frame}
use Rattle.language.specs.Sizes.{sum}
use Rattle.language.specs.Heap.{Cell, Tree}
use Rattle.language.specs.Values.{tree_cells}
use Rattle.language.specs.Slide.{State}
use Rattle.language.specs.Machine.{build, build_all, put_inputs}
use Rattle.theory.specs.Tests.{need-test, need-rest}
use Rattle.theory.specs.Builds.{build-builds}

pub record InputsPut (P : File) (cells : ℕ) (vs : List Tree) (h : List Cell) (roots : List ℕ) (s : State) : Type 0 where
  pub built : build_all P vs h roots ≡ s
  pub room : length h ≤ cells → length s.heap ≤ cells

module _ (P : File) (cells : ℕ) where
  -- the state, if no input is refused
  pub inputs-put : (c : ℕ) (vs : List Tree) (h : List Cell) (roots : List ℕ) {s : State} → put_inputs P cells c vs h roots ≡ ok s → InputsPut P cells vs h roots s
  unfolding put_inputs build_all
  inputs-put c [] h roots {s} e =
      let same : ◌≡◌ {A = State} (record { heap = h; roots = roots }) s = cc in
      record { built = same; room = λ le. rw (← same) le }
  inputs-put c (v ∷ vs) h roots e =
      let r = build P v h in
      let fits = leb-true (length r.heap) cells (need-test _ heap_spent (channel_frame P c) _ e) in
      let more = inputs-put (suc c) vs r.heap (roots ++ (r.location ∷ [])) (need-rest _ heap_spent (channel_frame P c) _ e) in
      record { built = more.built; room = λ le. more.room fits }

  -- all fit where their cells do
  pub inputs-fit : (c : ℕ) (vs : List Tree) (h : List Cell) (roots : List ℕ) → length h + sum (map tree_cells vs) ≤ cells → put_inputs P cells c vs h roots ≡ ok (build_all P vs h roots)
  unfolding put_inputs build_all sum need
  inputs-fit c [] h roots le = refl
  inputs-fit c (v ∷ vs) h roots le =
      let r = build P v h in
      let count = (build-builds P v h).count in
      rw (le-leb (length r.heap) cells (omega arith)) (inputs-fit (suc c) vs r.heap (roots ++ (r.location ∷ [])) (omega arith))
