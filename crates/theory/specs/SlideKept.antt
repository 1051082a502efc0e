-- After sliding every cell is reached, there are no more cells than the channels' trees have, and sliding again changes nothing.
use Prim.Native.Nat.{ℕ, zero, suc, ◌+◌, ◌≤◌, ◌<◌}
use mathlib.Core.List.{List, [], ◌∷◌, ◌++◌, map}
use Rattle.std.specs.Prelude.{Bool, true, false, length, ltb, eqb}
use Rattle.std.proofs.Math.Option.{some}
use Rattle.std.proofs.Math.Path.{◌≡◌, refl, ap}
use Rattle.std.proofs.Common.{sym, ◌∙◌, zero-add, add-suc, suc-add, ext_get_or}
use native.Mathlib.Omega.{arith}
use Rattle.std.proofs.Math.Nat.{add-zero}
use Rattle.std.proofs.Math.ListN.{get_elem? as look}
use borrow.Author.Tests.{eqb-true, lt-ltb, le-ltb}
use Rattle.language.specs.Result.{choose}
use Rattle.language.specs.Within.{All, all_nil, all_cons}
use Rattle.language.specs.Sizes.{sum}
use Rattle.language.specs.Heap.{kbool, Cell, leaf, con, cell_at, fields_in, trees_at, tree_of, trees, tree_at}
use Rattle.language.specs.Values.{tree_cells, trees_cells}
use Rattle.language.specs.Slide.{State, mem, reached_from, reached, renumber, renumber_cell, keep_from, slide}
use Rattle.language.specs.Layout.{all_reached}
use Rattle.theory.specs.Lists.{both_true}
use Rattle.theory.specs.Places.{below_or_not, look_at}
use Rattle.theory.specs.Choices.{one-cases}
use Rattle.theory.specs.Alls.{all_map, all_both, all_of_map}
use Rattle.theory.specs.Heaps.{cell-at}
use Rattle.theory.specs.Ranks.{full-rank}
use Rattle.theory.specs.Reaches.{Reached, NamesLower, Linked, settled, reached-closed, reached-least}
use Rattle.theory.specs.Slides.{new_numbers, new-number, slide-length, slide-linked, new_number, moved, slid-cell, slid-from, slide-names-lower, reached-fields, renumbered-fields, tree-of-cell}

-- ---- every cell is reached
module _ (s : State) (lower : NamesLower s.heap) where
  -- what reaches a cell, renumbered, reaches its new place
  reached-after : (l : ℕ) → Reached s l → Reached (slide s) (new_number s l)
  unfolding slide
  reached-after l m = (reached-least {s = s} {Q = λ i. (Reached s i) × (Reached (slide s) (new_number s i))} (record {
    roots = all_both (λ i p q. (p, q)) (reached-closed s lower).roots (all_of_map (new_number s) s.roots (reached-closed (slide s) (slide-names-lower s lower)).roots);
    fields = λ i c e q. all_both (λ j p r. (p.1, r)) (reached-fields s lower i e q.0)
        (all_of_map (new_number s) (fields_in c) (rw (renumbered-fields (new_numbers s) c) at
        ((reached-closed (slide s) (slide-names-lower s lower)).fields (new_number s i) (moved s c) (slid-cell s i e q.0) q.1)));
  }) l m).1

  pub slid-all-reached : (i : ℕ) → i < length (slide s).heap → Reached (slide s) i
  slid-all-reached i less = let r = slid-from s i (look_at (slide s).heap i (leaf (kbool false)) less) in ap (λ x. mem x (reached (slide s))) (sym r.number) ∙ reached-after r.from r.member

pub each-reached : (R : List ℕ) (n : ℕ) → ((i : ℕ) → i < n → mem i R ≡ true) → all_reached R n ≡ true
unfolding all_reached
each-reached R zero f = refl
each-reached R (suc n) f = both_true (f n (omega arith)) (each-reached R n (λ i less. f i (omega arith)))

-- ---- the cells of the trees of those locations that are below n, summed
unfoldable cells_below : List Cell → ℕ → List ℕ → ℕ
cells_below h n [] = 0
cells_below h n (l ∷ ls) = choose (ltb l n) (tree_cells (tree_at h l)) 0 + cells_below h n ls

module _ (h : List Cell) where
  cells-append : (n : ℕ) (ls ms : List ℕ) → cells_below h n (ls ++ ms) ≡ cells_below h n ls + cells_below h n ms
  unfolding cells_below
  cells-append n [] ms = omega arith
  cells-append n (l ∷ ls) ms = omega (arith, cells-append n ls ms)

  -- one tree alone
  cells-of-one : (n l : ℕ) → choose (ltb l n) (tree_cells (tree_at h l)) 0 ≤ choose (ltb l (suc n)) (tree_cells (tree_at h l)) 0
  unfolding choose
  cells-of-one n l = below_or_not l n (λ less. rw (lt-ltb l n less, lt-ltb l (suc n) (omega arith)) (omega arith)) (λ le. rw (le-ltb l n le) (omega arith))

  cells-grow : (n : ℕ) (ls : List ℕ) → cells_below h n ls ≤ cells_below h (suc n) ls
  unfolding cells_below
  cells-grow n [] = omega arith
  cells-grow n (l ∷ ls) = omega (arith, cells-of-one n l, cells-grow n ls)

  -- a location that is named pays for its tree once
  pays-once : (n : ℕ) (ls : List ℕ) → mem n ls ≡ true → tree_cells (tree_at h n) + cells_below h n ls ≤ cells_below h (suc n) ls
  unfolding cells_below mem choose
  pays-once n [] m = absurd (let z : ◌≡◌ {A = ℕ} 0 1 = cc in omega arith)
  pays-once n (l ∷ ls) m = one-cases (eqb n l) (mem n ls) m
      (λ e. let same = eqb-true n l e in rw (← same, le-ltb n n (omega arith), lt-ltb n (suc n) (omega arith)) (omega (arith, cells-grow n ls)))
      (λ e. omega (arith, cells-of-one n l, pays-once n ls e))

  fields-cells : (n : ℕ) {ls : List ℕ} → All (λ i. i < n) ls → cells_below h n ls ≡ trees_cells (trees_at (trees h) ls)
  unfolding cells_below trees_at tree_cells choose
  fields-cells n all_nil = refl
  fields-cells n (all_cons {a = l} less low) = rw (lt-ltb l n less, fields-cells n low)

  -- a cell, and those of its fields' trees
  cell-pays : NamesLower h → (n : ℕ) {c : Cell} → look h n ≡ some c → tree_cells (tree_at h n) ≡ suc (cells_below h n (fields_in c))
  unfolding tree_of tree_cells fields_in cells_below
  cell-pays lower n {c} e = ap tree_cells (tree-of-cell h lower n e) ∙ cases c (lower.low n c e)
    where
      cases : (c : Cell) → All (λ i. i < n) (fields_in c) → tree_cells (tree_of (trees h) c) ≡ suc (cells_below h n (fields_in c))
      cases (leaf x) low = refl
      cases (con t c k ls) low = rw (fields-cells n low) (omega arith)

  cells-at-most : (n : ℕ) (ls : List ℕ) → cells_below h n ls ≤ sum (map tree_cells (map (tree_at h) ls))
  unfolding cells_below sum choose
  cells-at-most n [] = omega arith
  cells-at-most n (l ∷ ls) = below_or_not l n (λ less. rw (lt-ltb l n less) (omega (arith, cells-at-most n ls))) (λ le. rw (le-ltb l n le) (omega (arith, cells-at-most n ls)))

  -- ---- from the highest cell down: each cell kept is paid for by a location that names it
  kept-are-paid : NamesLower h → (F ns R : List ℕ) (number : ℕ) (cs : List Cell) → ((l : ℕ) (c : Cell) → look cs l ≡ some c → look h (number + l) ≡ some c) →
      ((j : ℕ) → number ≤ j → mem j F ≡ mem j (reached_from R number cs)) →
      length (keep_from F ns number cs) + cells_below h number (reached_from R number cs) ≤ cells_below h (number + length cs) R
  unfolding keep_from reached_from choose
  kept-are-paid lower F ns R number [] are same = rw add-zero (omega arith)
  kept-are-paid lower F ns R number (c ∷ cs) are same = cases (mem number S) refl
      (kept-are-paid lower F ns R (suc number) cs (λ l d e. rw (suc-add, ← add-suc) (are (suc l) d e)) (λ j le. same j (omega arith) ∙ settled S (mem number S) low j (omega arith)))
    where
      S : List ℕ
      S = reached_from R (suc number) cs

      here : look h number ≡ some c
      here = rw add-zero at (are 0 c refl)

      low : All (λ i. i < number) (fields_in c)
      low = lower.low number c here

      K : List Cell
      K = keep_from F ns (suc number) cs

      cases : (b : Bool) → mem number S ≡ b → length K + cells_below h (suc number) S ≤ cells_below h (suc number + length cs) R →
          length (choose (mem number F) (renumber_cell ns c ∷ K) K) + cells_below h number (choose (mem number S) (fields_in c ++ S) S) ≤ cells_below h (number + suc (length cs)) R
      cases true m above =
          let kept : mem number F ≡ true = same number (omega arith) ∙ settled S (mem number S) low number (omega arith) ∙ m in
          rw (m, kept, add-suc, ← suc-add) (omega (arith, cells-append number (fields_in c) S, cell-pays lower number here, pays-once number S m))
      cases false m above =
          let dropped : mem number F ≡ false = same number (omega arith) ∙ settled S (mem number S) low number (omega arith) ∙ m in
          rw (m, dropped, add-suc, ← suc-add) (omega (arith, cells-grow number S))

-- "the cells kept": no more than the trees' cells, summed over the channels
pub slide-cells-at-most : (s : State) → NamesLower s.heap → length (slide s).heap ≤ sum (map tree_cells (map (tree_at s.heap) s.roots))
unfolding slide reached
slide-cells-at-most s lower = omega (
  arith,
  cells-at-most s.heap (0 + length s.heap) s.roots,
  kept-are-paid s.heap lower (reached s) (new_numbers s) s.roots 0 s.heap (λ l c e. rw zero-add e) (λ j le. refl),
)

-- ---- sliding again changes nothing
map-stays : {f : ℕ → ℕ} (ls : List ℕ) → All (λ l. f l ≡ l) ls → map f ls ≡ ls
map-stays [] all_nil = refl
map-stays (l ∷ ls) (all_cons e es) = rw (e, map-stays ls es)

same-cell : (ns : List ℕ) (c : Cell) → All (λ l. renumber ns l ≡ l) (fields_in c) → renumber_cell ns c ≡ c
unfolding renumber_cell fields_in
same-cell ns (leaf x) same = refl
same-cell ns (con t c k ls) same = ap (con t c k) (map-stays ls same)

-- where every cell is reached each keeps its number
pub all-reached-stays : {s : State} → Linked s → ((i : ℕ) → i < length s.heap → Reached s i) → slide s ≡ s
unfolding slide
all-reached-stays {s} linked all =
    let same_number : (l : ℕ) → l < length s.heap → new_number s l ≡ l = λ l less. new-number s l less ∙ full-rank (reached s) l (λ i below. all i (omega arith)) in
    let same_heap : (slide s).heap ≡ s.heap = ext_get_or (leaf (kbool false)) (slide s).heap s.heap (slide-length s ∙ full-rank (reached s) (length s.heap) all) (λ i less.
    let here : i < length s.heap = omega (arith, slide-length s, full-rank (reached s) (length s.heap) all) in
    let e = look_at s.heap i (leaf (kbool false)) here in
    ap (cell_at (slide s).heap) (sym (same_number i here)) ∙ cell-at (slide s).heap (new_number s i) (slid-cell s i e (all i here))
    ∙ same-cell (new_numbers s) (cell_at s.heap i) (all_map (λ j below. same_number j (omega arith)) (linked.lower.low i (cell_at s.heap i) e))) in
    λ i. record { heap = same_heap i; roots = map-stays s.roots (all_map same_number linked.roots) i }

pub slide-twice : (s : State) → Linked s → slide (slide s) ≡ slide s
slide-twice s linked = all-reached-stays (slide-linked linked) (slid-all-reached s linked.lower)
