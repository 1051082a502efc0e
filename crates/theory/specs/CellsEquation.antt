-- The cells of a type by an equation: they come from the table of its cells at smaller sizes and the cells of earlier types.
use Prim.Native.Nat.{ℕ, zero, suc, ◌+◌, ◌-◌, ◌≤◌, ◌<◌}
use mathlib.Core.List.{List, [], ◌∷◌, ◌++◌}
use Rattle.std.specs.Prelude.{Bool, true, false, ◌≡◌, length, get_or, leb}
use Rattle.std.proofs.Math.Path.{refl, ap}
use Rattle.std.proofs.Common.{sym, ◌∙◌, subst, arith, add-zero, zero-add, length-append, leb-true, leb-false}
use Rattle.std.proofs.Math.ListN.{get_or-append}
use Rattle.std.proofs.lemmas.List.{get_or_at}
use Rattle.language.specs.Syntax.{Field, Constructor, TypeDef, File, constructors_of}
use Rattle.language.specs.Within.{All, all_nil, all_cons, WithinField, w_fbool, w_fint, w_own, w_other, WithinConstructor, WithinTypes, wt_nil, wt_cons}
use Rattle.language.specs.Cells.{max_to, other_cells, own_cells, next_cells, cells_table, cells_at_of, cells_in, cells_from, cells_named}

-- ---- the table
table-length : (F : ℕ → ℕ → ℕ) (cs : List Constructor) (k : ℕ) → length (cells_table F cs k) ≡ k
unfolding cells_table
table-length F cs zero = refl
table-length F cs (suc k) = rw length-append (omega (arith, table-length F cs k))

-- the cells at the next size come from the table so far
cells_at-next : (F : ℕ → ℕ → ℕ) (cs : List Constructor) (k : ℕ) → cells_at_of F cs (suc k) ≡ next_cells F (cells_table F cs k) cs (suc k)
unfolding cells_at_of cells_table
cells_at-next F cs k = get_or_at (cells_table F cs k) (next_cells F (cells_table F cs k) cs (suc k)) [] 0 (suc k - 1) (omega (arith, table-length F cs k))

-- each entry is the cells at its size
table-entry : (F : ℕ → ℕ → ℕ) (cs : List Constructor) (K k : ℕ) → 1 ≤ k → k ≤ K → get_or (cells_table F cs K) (k - 1) 0 ≡ cells_at_of F cs k
unfolding cells_at_of cells_table
table-entry F cs zero k pos le = absurd (omega arith)
table-entry F cs (suc K) k pos le = cases (leb k K) refl (λ small. table-entry F cs K k pos small)
  where
    cases : (b : Bool) → leb k K ≡ b → (k ≤ K → get_or (cells_table F cs K) (k - 1) 0 ≡ cells_at_of F cs k) → get_or (cells_table F cs (suc K)) (k - 1) 0 ≡ cells_at_of F cs k
    cases true e rec =
        let small = leb-true k K e in
        get_or-append (cells_table F cs K) (next_cells F (cells_table F cs K) cs (suc K) ∷ []) 0 (k - 1) (omega (arith, table-length F cs K)) ∙ rec small
    cases false e rec = let last : k ≡ suc K = omega (arith, leb-false k K e) in ap (λ n. get_or (cells_table F cs n) (k - 1) 0) (sym last)

-- one value more: its size is one of 1 to m - r
pub own_cells-one-more : (table : List ℕ) (r m : ℕ) → own_cells table (1 + r) m ≡ max_to (λ p. get_or table (p - 1) 0 + own_cells table r (m - p)) (m - r)
unfolding own_cells
own_cells-one-more table r m = let one : 1 + r ≡ suc r = omega arith in rw one

-- ---- the table names only earlier types
module _ {n : ℕ} (F G : ℕ → ℕ → ℕ) (same : (u k : ℕ) → u < n → F u k ≡ G u k) where
  other_cells-same : {fs : List Field} → All (WithinField n) fs → other_cells F fs ≡ other_cells G fs
  unfolding other_cells
  other_cells-same all_nil = refl
  other_cells-same (all_cons w_fbool fs) = rw (other_cells-same fs)
  other_cells-same (all_cons w_fint fs) = rw (other_cells-same fs)
  other_cells-same (all_cons w_own fs) = other_cells-same fs
  other_cells-same (all_cons (w_other {t} {k} less bound) fs) = rw (same t k less, other_cells-same fs)

  next_cells-same : {cs : List Constructor} (table : List ℕ) (k : ℕ) → All (WithinConstructor n) cs → next_cells F table cs k ≡ next_cells G table cs k
  unfolding next_cells
  next_cells-same table k all_nil = refl
  next_cells-same table k (all_cons c cs) = rw (other_cells-same c.fields, next_cells-same table k cs)

  table_same : {cs : List Constructor} (k : ℕ) → All (WithinConstructor n) cs → cells_table F cs k ≡ cells_table G cs k
  unfolding cells_table
  table_same zero w = refl
  table_same {cs} (suc k) w = rw (table_same k w, next_cells-same (cells_table G cs k) (suc k) w)

-- ---- all types, each from the earlier ones
cells_from-keeps : (Fs : List (ℕ → ℕ)) (ts : List TypeDef) (t : ℕ) → t < length Fs → get_or (cells_from Fs ts) t (λ j. 0) ≡ get_or Fs t (λ j. 0)
unfolding cells_from
cells_from-keeps Fs [] t less = refl
cells_from-keeps Fs (cs ∷ ts) t less = cells_from-keeps (Fs ++ (cells_at_of (cells_in Fs) cs ∷ [])) ts t (rw length-append (omega arith)) ∙ get_or-append Fs (cells_at_of (cells_in Fs) cs ∷ []) (λ j. 0) t less

cells_from-at : {n : ℕ} {ts : List TypeDef} → WithinTypes n ts → (Fs : List (ℕ → ℕ)) → length Fs ≡ n → (j k : ℕ) → j < length ts →
    cells_in (cells_from Fs ts) (n + j) k ≡ cells_at_of (cells_in (cells_from Fs ts)) (get_or ts j []) k
unfolding cells_from cells_at_of
cells_from-at wt_nil Fs room j k less = absurd (omega arith)
cells_from-at (wt_cons {earlier = n} {d = cs} {ds = ts} w ws) Fs room zero k less =
    let new = cells_at_of (cells_in Fs) cs in
    let Gs : List (ℕ → ℕ) = Fs ++ (new ∷ []) in
    let here : get_or (cells_from Gs ts) n (λ j. 0) ≡ new = cells_from-keeps Gs ts n (rw length-append (omega arith)) ∙ get_or_at Fs new [] (λ j. 0) n room in
    ap (λ t. cells_in (cells_from Gs ts) t k) (add-zero n) ∙ ap (λ g. g k) here
    ∙ ap (λ table. get_or table (k - 1) 0) (table_same (cells_in Fs) (cells_in (cells_from Gs ts)) (λ u j low. ap (λ g. g j) (sym (cells_from-keeps Fs (cs ∷ ts) u (omega arith)))) k w.constructors)
cells_from-at (wt_cons {earlier = n} {d = cs} {ds = ts} w ws) Fs room (suc j) k less =
    let Gs : List (ℕ → ℕ) = Fs ++ (cells_at_of (cells_in Fs) cs ∷ []) in
    let place : suc n + j ≡ n + suc j = omega arith in
    subst (λ t. cells_in (cells_from Gs ts) t k ≡ cells_at_of (cells_in (cells_from Gs ts)) (get_or ts j []) k) place (cells_from-at ws Gs (rw length-append (omega arith)) j k (omega arith))

-- ---- the equation
-- the cells of type t at sizes 1 to k
abbrev pub table_to : File → ℕ → ℕ → List ℕ
table_to P t k = cells_table (cells_named P) (constructors_of P t) k

module _ (P : File) (types : WithinTypes 0 P.types) (t : ℕ) (named : t < length P.types) where
  cells-equation : (k : ℕ) → cells_named P t k ≡ cells_at_of (cells_named P) (constructors_of P t) k
  unfolding cells_named
  cells-equation k = ap (λ x. cells_in (cells_from [] P.types) x k) (sym (zero-add t)) ∙ cells_from-at types [] refl t k named

  pub cells-next : (k : ℕ) → cells_named P t (suc k) ≡ next_cells (cells_named P) (table_to P t k) (constructors_of P t) (suc k)
  cells-next k = cells-equation (suc k) ∙ cells_at-next (cells_named P) (constructors_of P t) k

  pub cells-entry : (K k : ℕ) → 1 ≤ k → k ≤ K → get_or (table_to P t K) (k - 1) 0 ≡ cells_named P t k
  cells-entry K k pos le = table-entry (cells_named P) (constructors_of P t) K k pos le ∙ sym (cells-equation k)
