-- The trees of a heap: cells appended change no earlier tree; the tree of a cell comes from the cells below it.
use Rattle.std.specs.Prelude.{ℕ, suc, ◌+◌, ◌≤◌, ◌<◌, List, [], ◌∷◌, ◌++◌, false, ◌≡◌, refl, length, get_or, take, drop}
use Rattle.std.proofs.Math.Option.{some}
use Rattle.std.proofs.Common.{sym, ap, ◌∙◌, arith, length-append, take-append-drop, take-suc, length-take-le}
use Rattle.std.proofs.Math.ListN.{get_elem? as look, get_or-append}
use Rattle.std.proofs.lemmas.List.{get_or_at}
use Rattle.language.specs.Within.{All, all_nil, all_cons}
use Rattle.language.specs.Heap.{kbool, Cell, con, Tree, vleaf, vcon, trees_at, tree_of, grow, trees, tree_at}
use Rattle.theory.specs.Lists.{look-get_d, look-less}

-- ---- growing
grow-length : (ts : List Tree) (cs : List Cell) → length (grow ts cs) ≡ length ts + length cs
unfolding grow
grow-length ts [] = omega arith
grow-length ts (c ∷ cs) = omega (arith, grow-length (ts ++ (tree_of ts c ∷ [])) cs, length-append ts (tree_of ts c ∷ []))

grow-append : (ts : List Tree) (a b : List Cell) → grow ts (a ++ b) ≡ grow (grow ts a) b
unfolding grow
grow-append ts [] b = refl
grow-append ts (c ∷ a) b = grow-append (ts ++ (tree_of ts c ∷ [])) a b

grow-keeps : (ts : List Tree) (cs : List Cell) (l : ℕ) → l < length ts → get_or (grow ts cs) l (vleaf (kbool false)) ≡ get_or ts l (vleaf (kbool false))
unfolding grow
grow-keeps ts [] l less = refl
grow-keeps ts (c ∷ cs) l less = grow-keeps (ts ++ (tree_of ts c ∷ [])) cs l (rw length-append (omega arith)) ∙ get_or-append ts (tree_of ts c ∷ []) (vleaf (kbool false)) l less

-- one tree a cell
pub trees-length : (h : List Cell) → length (trees h) ≡ length h
unfolding trees
trees-length h = omega (arith, grow-length [] h)

-- ---- cells appended change no earlier tree
pub tree-append : (h m : List Cell) (l : ℕ) → l < length h → tree_at (h ++ m) l ≡ tree_at h l
unfolding trees
tree-append h m l less = rw grow-append (grow-keeps (grow [] h) m l (rw grow-length (omega arith)))

pub fields-append : (h m : List Cell) {ls : List ℕ} → All (λ l. l < length h) ls → trees_at (trees (h ++ m)) ls ≡ trees_at (trees h) ls
unfolding trees_at
fields-append h m all_nil = refl
fields-append h m (all_cons {a = l} less low) = rw (tree-append h m l less, fields-append h m low)

-- so the lowest n cells have the trees that they have in the heap
pub tree-take : (h : List Cell) (n l : ℕ) → n ≤ length h → l < n → tree_at (take n h) l ≡ tree_at h l
tree-take h n l le less = sym (tree-append (take n h) (drop n h) l (rw (length-take-le n h le) less)) ∙ ap (λ g. tree_at g l) (take-append-drop n h)

pub fields-take : (h : List Cell) (n : ℕ) {ls : List ℕ} → n ≤ length h → All (λ l. l < n) ls → trees_at (trees (take n h)) ls ≡ trees_at (trees h) ls
fields-take h n {ls} le low = sym (fields-append (take n h) (drop n h) (rw (length-take-le n h le) low)) ∙ ap (λ g. trees_at (trees g) ls) (take-append-drop n h)

-- ---- the tree of a new cell
pub tree-new : (h : List Cell) (c : Cell) → tree_at (h ++ (c ∷ [])) (length h) ≡ tree_of (trees h) c
unfolding trees grow
tree-new h c = rw grow-append (get_or_at (trees h) (tree_of (trees h) c) [] (vleaf (kbool false)) (length h) (trees-length h))

-- the tree of a cell, from the cells below it
pub tree-cell : (h : List Cell) (l : ℕ) {c : Cell} → look h l ≡ some c → tree_at h l ≡ tree_of (trees (take l h)) c
tree-cell h l {c} e =
    let less = look-less h l e in
    let below : length (take l h) ≡ l = length-take-le l h (omega arith) in
    let up_to : take (suc l) h ≡ take l h ++ (c ∷ []) = take-suc h l c less ∙ ap (λ x. take l h ++ (x ∷ [])) (look-get_d h l c e) in
    sym (tree-take h (suc l) l less (omega arith)) ∙ ap (λ g. tree_at g l) up_to ∙ ap (tree_at (take l h ++ (c ∷ []))) (sym below) ∙ tree-new (take l h) c

-- a constructor that names only lower cells: its fields' trees are the heap's
pub tree-con : (h : List Cell) (l : ℕ) {t c k : ℕ} {ls : List ℕ} → look h l ≡ some (con t c k ls) → All (λ i. i < l) ls → tree_at h l ≡ vcon t c (trees_at (trees h) ls)
unfolding tree_of
tree-con h l {t} {c} e low = tree-cell h l e ∙ ap (vcon t c) (fields-take h l (omega (arith, look-less h l e)) low)
