-- Sliding keeps exactly the cells reached, in order, each once and renumbered; and so each channel's tree.
use Prim.Native.Nat.{ℕ, zero, suc, ◌+◌, ◌≤◌, ◌<◌}
use mathlib.Core.List.{List, [], ◌∷◌, ◌++◌, map, map-map, map-append}
use Rattle.std.specs.Prelude.{Bool, ◌≡◌, get_or, take}
use Rattle.std.proofs.Math.Bool.{true, false}
use Rattle.std.proofs.Math.Option.{some}
use Rattle.std.proofs.Math.Path.{refl, ap}
use Rattle.std.proofs.Common.{sym, ◌∙◌, arith, suc-add, take-suc}
use Rattle.std.proofs.Math.Nat.{add-zero, zero-add, add-suc}
use Rattle.std.proofs.Math.ListN.{length, get_elem? as look}
use Rattle.std.proofs.lemmas.List.{length-map}
use Rattle.std.proofs.Math.Seq.{take-length, length-take-le}
use Rattle.language.specs.Result.{choose}
use Rattle.language.specs.Within.{All, all_nil, all_cons}
use Rattle.language.specs.Heap.{kbool, Cell, leaf, con, vcon, cell_at, fields_in, trees_at, tree_of, trees, tree_at}
use Rattle.language.specs.Slide.{State, mem, reached, numbers_from, renumber, renumber_cell, keep_from, slide}
use Rattle.theory.specs.Lists.{look-less, look-map}
use Rattle.theory.specs.HeapTrees.{tree-cell, tree-con}
use Rattle.theory.specs.Heaps.{cell-at}
use Rattle.theory.specs.Places.{look_at, look-mapped}
use Rattle.theory.specs.Choices.{map-chosen}
use Rattle.theory.specs.Alls.{all_map, all_both, all-to-map}
use Rattle.theory.specs.Members.{map_same}
use Rattle.theory.specs.Ranks.{members_below, rank, rank-next, rank_less, member-at-rank, member-ranked}
use Rattle.theory.specs.Reaches.{Reached, NamesLower, Linked, reached-closed}

-- ---- a cell's new number is how many reached cells stand below it
number-is-rank : (R : List ℕ) (number : ℕ) (cs : List Cell) (i : ℕ) → i < length cs → get_or (numbers_from R number (rank R number) cs) i 0 ≡ rank R (number + i)
unfolding numbers_from
number-is-rank R number [] i less = absurd (omega arith)
number-is-rank R number (c ∷ cs) zero less = rw add-zero
number-is-rank R number (c ∷ cs) (suc i) less = rw (← (rank-next R number), add-suc, ← suc-add) (number-is-rank R (suc number) cs i (omega arith))

-- ---- the cells kept, from any list of new numbers
module _ (R ns : List ℕ) where
  keep-one-more : (number : ℕ) (cs : List Cell) (c : Cell) → keep_from R ns number (cs ++ (c ∷ [])) ≡ keep_from R ns number cs ++ choose (mem (number + length cs) R) (renumber_cell ns c ∷ []) []
  unfolding keep_from choose
  keep-one-more number [] c = rw add-zero
  keep-one-more number (d ∷ cs) c = cases (mem number R) (keep-one-more (suc number) cs c)
    where
      cases : (b : Bool) → keep_from R ns (suc number) (cs ++ (c ∷ [])) ≡ keep_from R ns (suc number) cs ++ choose (mem (suc number + length cs) R) (renumber_cell ns c ∷ []) [] →
          choose b (renumber_cell ns d ∷ keep_from R ns (suc number) (cs ++ (c ∷ []))) (keep_from R ns (suc number) (cs ++ (c ∷ [])))
          ≡ choose b (renumber_cell ns d ∷ keep_from R ns (suc number) cs) (keep_from R ns (suc number) cs) ++ choose (mem (number + suc (length cs)) R) (renumber_cell ns c ∷ []) []
      cases true e = rw (e, add-suc, suc-add)
      cases false e = rw (e, add-suc, suc-add)

  kept-so-far : (h : List Cell) (n : ℕ) → n ≤ length h → keep_from R ns 0 (take n h) ≡ map (λ l. renumber_cell ns (cell_at h l)) (members_below R n)
  unfolding keep_from members_below
  kept-so-far h zero le = refl
  kept-so-far h (suc n) le =
      let place : 0 + length (take n h) ≡ n = zero-add (length (take n h)) ∙ length-take-le n h (omega arith) in
      rw (take-suc h n (leaf (kbool false)) le, keep-one-more 0 (take n h) (cell_at h n), place, kept-so-far h n (omega arith), map-append, map-chosen (λ l. renumber_cell ns (cell_at h l)) (mem n R) n)

-- ---- the state that slides
abbrev pub new_numbers : State → List ℕ
new_numbers s = numbers_from (reached s) 0 0 s.heap

abbrev pub new_number : State → ℕ → ℕ
new_number s l = renumber (new_numbers s) l

abbrev pub moved : State → Cell → Cell
moved s c = renumber_cell (new_numbers s) c

-- its cells: those reached, in order, each once, renumbered
pub slide-keeps-reached : (s : State) → (slide s).heap ≡ map (λ l. moved s (cell_at s.heap l)) (members_below (reached s) (length s.heap))
unfolding slide
slide-keeps-reached s = ap (keep_from (reached s) (new_numbers s) 0) (sym (take-length s.heap)) ∙ kept-so-far (reached s) (new_numbers s) s.heap (length s.heap) (omega arith)

-- as many as are reached
pub slide-length : (s : State) → length (slide s).heap ≡ rank (reached s) (length s.heap)
slide-length s = ap length (slide-keeps-reached s) ∙ simp length-map

module _ (s : State) where
  pub new-number : (l : ℕ) → l < length s.heap → new_number s l ≡ rank (reached s) l
  unfolding members_below
  new-number l less = number-is-rank (reached s) 0 s.heap l less ∙ ap (rank (reached s)) (zero-add l)

  -- a reached cell, after sliding
  pub slid-cell : (l : ℕ) {c : Cell} → look s.heap l ≡ some c → Reached s l → look (slide s).heap (new_number s l) ≡ some (moved s c)
  slid-cell l {c} e m =
      let less = look-less s.heap l e in
      rw (slide-keeps-reached s, new-number l less)
      (look-map (λ i. moved s (cell_at s.heap i)) (members_below (reached s) (length s.heap)) (rank (reached s) l) (member-at-rank (reached s) (length s.heap) l less m)
      ∙ ap (λ x. some (moved s x)) (cell-at s.heap l e))

  pub new-number-less : (l n : ℕ) → l < n → n < length s.heap → Reached s l → new_number s l < new_number s n
  new-number-less l n less below m = omega (arith, rank_less (reached s) l n less m, new-number l (omega arith), new-number n below)

  pub new-number-below : (l : ℕ) → l < length s.heap → Reached s l → new_number s l < length (slide s).heap
  new-number-below l less m = omega (arith, rank_less (reached s) l (length s.heap) less m, new-number l less, slide-length s)

-- a cell after sliding is some reached cell
pub record Slid (s : State) (i : ℕ) (d : Cell) : Type 0 where
  pub from : ℕ
  pub cell : Cell
  pub at : look s.heap from ≡ some cell
  pub member : Reached s from
  pub number : new_number s from ≡ i
  pub is : d ≡ moved s cell

pub slid-from : (s : State) (i : ℕ) {d : Cell} → look (slide s).heap i ≡ some d → Slid s i d
slid-from s i {d} e =
    let m = look-mapped (λ l. moved s (cell_at s.heap l)) (members_below (reached s) (length s.heap)) i (ap (λ x. look x i) (sym (slide-keeps-reached s)) ∙ e) in
    let r = member-ranked (reached s) (length s.heap) i m.at in
    record { from = m.of; cell = cell_at s.heap m.of; at = look_at s.heap m.of (leaf (kbool false)) r.low; member = r.member; number = new-number s m.of r.low ∙ r.rank; is = m.is }

pub renumbered-fields : (ns : List ℕ) (c : Cell) → fields_in (renumber_cell ns c) ≡ map (renumber ns) (fields_in c)
unfolding renumber_cell fields_in
renumbered-fields ns (leaf x) = refl
renumbered-fields ns (con t c k ls) = refl

pub tree-of-cell : (h : List Cell) → NamesLower h → (l : ℕ) {c : Cell} → look h l ≡ some c → tree_at h l ≡ tree_of (trees h) c
unfolding tree_of fields_in
tree-of-cell h lower l {c} e = cases c e (lower.low l c e)
  where
    cases : (c : Cell) → look h l ≡ some c → All (λ i. i < l) (fields_in c) → tree_at h l ≡ tree_of (trees h) c
    cases (leaf x) e low = tree-cell h l e
    cases (con t c k ls) e low = tree-con h l e low

trees-same : (g h : List Cell) (f : ℕ → ℕ) {ls : List ℕ} → All (λ l. tree_at g (f l) ≡ tree_at h l) ls → trees_at (trees g) (map f ls) ≡ trees_at (trees h) ls
unfolding trees_at
trees-same g h f all_nil = refl
trees-same g h f (all_cons e es) = rw (e, trees-same g h f es)

tree-renumbered : (g h : List Cell) (ns : List ℕ) (c : Cell) → All (λ l. tree_at g (renumber ns l) ≡ tree_at h l) (fields_in c) → tree_of (trees g) (renumber_cell ns c) ≡ tree_of (trees h) c
unfolding renumber_cell tree_of fields_in
tree-renumbered g h ns (leaf x) same = refl
tree-renumbered g h ns (con t c k ls) same = ap (vcon t c) (trees-same g h (renumber ns) same)

-- ---- where each cell names lower ones
module _ (s : State) (lower : NamesLower s.heap) where
  -- the fields of a reached cell are reached and lower
  pub reached-fields : (l : ℕ) {c : Cell} → look s.heap l ≡ some c → Reached s l → All (λ i. (i < l) × (Reached s i)) (fields_in c)
  reached-fields l {c} e m = all_both (λ i low q. (low, q)) (lower.low l c e) ((reached-closed s lower).fields l c e m)

  pub slide-names-lower : NamesLower (slide s).heap
  slide-names-lower = record { low = λ i d e. fields-lower i d (slid-from s i e) }
    where
      fields-lower : (i : ℕ) (d : Cell) → Slid s i d → All (λ j. j < i) (fields_in d)
      fields-lower i d r = rw (r.is, renumbered-fields (new_numbers s) r.cell, ← r.number)
          (all-to-map (new_number s) (all_map (λ j q. new-number-less s j r.from q.0 (look-less s.heap r.from r.at) q.1) (reached-fields r.from r.at r.member)))

  slid-tree-below : (n l : ℕ) → l < n → l < length s.heap → Reached s l → tree_at (slide s).heap (new_number s l) ≡ tree_at s.heap l
  slid-tree-below zero l small less m = absurd (omega arith)
  slid-tree-below (suc n) l small less m =
      let e = look_at s.heap l (leaf (kbool false)) less in
      let f = slid-cell s l e m in
      tree-of-cell (slide s).heap slide-names-lower (new_number s l) f
      ∙ tree-renumbered (slide s).heap s.heap (new_numbers s) (cell_at s.heap l) (all_map (λ i q. slid-tree-below n i (omega (arith, q.0)) (omega (arith, q.0)) q.1) (reached-fields l e m))
      ∙ sym (tree-of-cell s.heap lower l e)

  -- a reached cell keeps its tree
  pub slid-tree : (l : ℕ) → l < length s.heap → Reached s l → tree_at (slide s).heap (new_number s l) ≡ tree_at s.heap l
  slid-tree l less m = slid-tree-below (suc l) l (omega arith) less m

pub slide-linked : {s : State} → Linked s → Linked (slide s)
unfolding slide
slide-linked {s} linked = record {
  lower = slide-names-lower s linked.lower;
  roots = all-to-map (new_number s) (all_both (new-number-below s) linked.roots (reached-closed s linked.lower).roots);
}

-- each channel's value
pub slide-keeps-trees : (s : State) → Linked s → map (tree_at (slide s).heap) (slide s).roots ≡ map (tree_at s.heap) s.roots
unfolding slide
slide-keeps-trees s linked = map-map (tree_at (slide s).heap) (new_number s) s.roots ∙ map_same s.roots (all_both (slid-tree s linked.lower) linked.roots (reached-closed s linked.lower).roots)
