-- Some value of a type has as many cells as the cells of the type.
use Prim.Native.Nat.{ℕ, zero, suc, ◌+◌, ◌-◌, ◌≤◌, ◌<◌, max}
use mathlib.Core.List.{List, [], ◌∷◌}
use Rattle.std.specs.Prelude.{Bool, ◌≡◌, length, ltb, leb}
use Rattle.std.proofs.Math.Bool.{true, false}
use Rattle.std.proofs.Math.Option.{some}
use Rattle.std.proofs.Math.Path.{refl}
use Rattle.std.proofs.Common.{sym, subst, le_refl}
use mathlib.Core.WellFounded.{induction}
use native.Mathlib.Omega.{arith}
use Rattle.std.proofs.Math.ListN.{get_or, get_elem? as look}
use Rattle.std.proofs.Math.Dec.{eqb}
use lib.WfN.{lt-wf_rel}
use borrow.Author.Tests.{lt-ltb, ltb-true, leb-true, leb-false, eqb-true}
use Rattle.language.specs.Result.{one_of, choose}
use Rattle.language.specs.Syntax.{Field, own, Constructor, TypeDef, Ty, tnamed, File, constructors_of, owns, self_free}
use Rattle.language.specs.Within.{All, all_nil, all_cons, WithinField, w_fbool, w_fint, w_own, w_other, WithinDeclared, w_tbool, w_tint, w_tnamed, WithinType, WithinTypes, wt_nil, wt_cons, Within}
use Rattle.language.specs.Sizes.{sum}
use Rattle.language.specs.Heap.{kbool, kint, Tree, vleaf, vcon, Trees, vnil, vcons}
use Rattle.language.specs.Values.{tree_cells, trees_cells, fits}
use Rattle.language.specs.Cells.{max_to, other_cells, own_cells, next_cells, cells_named, cells_of}
use Rattle.theory.specs.Alls.{all-at}
use Rattle.theory.specs.Lists.{false-is-not-true}
use Rattle.theory.specs.TypedTrees.{TreeHas, has_bool, has_int, has_named, val_con, FieldTrees, fields_nil, fields_bool, fields_int, fields_own, fields_other, has-fits}
use Rattle.theory.specs.CellsEquation.{own_cells-one-more, table_to, cells-next, cells-entry}

-- ---- maxima are reached
record Largest (f : ℕ → ℕ) (n : ℕ) : Type 0 where
  place : ℕ
  low : 1 ≤ place
  high : place ≤ n
  is : max_to f n ≡ f place

max_to-reached : (f : ℕ → ℕ) (n : ℕ) → 1 ≤ n → Largest f n
unfolding max_to
max_to-reached f zero pos = absurd (omega arith)
max_to-reached f (suc zero) pos = record { place = 1; low = omega arith; high = omega arith; is = omega arith }
max_to-reached f (suc (suc n)) pos = cases (max_to-reached f (suc n) (omega arith)) (leb (max_to f (suc n)) (f (suc (suc n)))) refl
  where
    cases : Largest f (suc n) → (b : Bool) → leb (max_to f (suc n)) (f (suc (suc n))) ≡ b → Largest f (suc (suc n))
    cases a true q = record { place = suc (suc n); low = omega arith; high = omega arith; is = omega (arith, leb-true (max_to f (suc n)) (f (suc (suc n))) q) }
    cases a false q = record { place = a.place; low = a.low; high = omega (arith, a.high); is = omega (arith, leb-false (max_to f (suc n)) (f (suc (suc n))) q, a.is) }

-- a constructor that makes the most of a value of size at most k + 1
record Maker (F : ℕ → ℕ → ℕ) (table : List ℕ) (cs : List Constructor) (k : ℕ) : Type 0 where
  number : ℕ
  fields : Constructor
  there : look cs number ≡ some fields
  few : owns fields ≤ k
  makes : next_cells F table cs (suc k) ≡ 1 + (other_cells F fields + own_cells table (owns fields) k)

module _ (F : ℕ → ℕ → ℕ) (table : List ℕ) where
  later-maker : (fs : Constructor) {cs : List Constructor} {k : ℕ} → Maker F table cs k → next_cells F table (fs ∷ cs) (suc k) ≡ next_cells F table cs (suc k) → Maker F table (fs ∷ cs) k
  later-maker fs m same = record { number = suc m.number; fields = m.fields; there = m.there; few = m.few; makes = omega (arith, m.makes) }

  next_cells-reached : (cs : List Constructor) (k : ℕ) → 1 ≤ next_cells F table cs (suc k) → Maker F table cs k
  unfolding next_cells choose
  next_cells-reached [] k pos = absurd (omega arith)
  next_cells-reached (fs ∷ cs) k pos = cases (ltb (owns fs) (suc k)) refl (leb rest first) refl (λ more. next_cells-reached cs k more)
    where
      rest : ℕ
      rest = next_cells F table cs (suc k)

      first : ℕ
      first = 1 + (other_cells F fs + own_cells table (owns fs) k)

      step : suc k - 1 ≡ k
      step = omega arith

      cases : (b : Bool) → ltb (owns fs) (suc k) ≡ b → (d : Bool) → leb rest first ≡ d → (1 ≤ rest → Maker F table cs k) → Maker F table (fs ∷ cs) k
      cases true q true w rec = record { number = 0; fields = fs; there = refl; few = omega (arith, ltb-true (owns fs) (suc k) q); makes = rw (q, step) (omega (arith, leb-true rest first w)) }
      cases true q false w rec = let more : first < rest = leb-false rest first w in later-maker fs (rec (omega arith)) (rw (q, step) (omega arith))
      cases false q d w rec = later-maker fs (rec (let p : 1 ≤ max 0 rest = rw q at pos in omega arith)) (rw q (omega arith))

  -- a constructor without fields of the type itself makes some value
  self_free-makes : (cs : List Constructor) (k : ℕ) → self_free cs ≡ true → 1 ≤ next_cells F table cs (suc k)
  unfolding self_free one_of next_cells choose
  self_free-makes [] k e = false-is-not-true e
  self_free-makes (fs ∷ cs) k e = cases (eqb (owns fs) 0) refl (λ q. self_free-makes cs k q)
    where
      cases : (b : Bool) → eqb (owns fs) 0 ≡ b → (self_free cs ≡ true → 1 ≤ next_cells F table cs (suc k)) → 1 ≤ next_cells F table (fs ∷ cs) (suc k)
      cases true q rec = rw (lt-ltb (owns fs) (suc k) (omega (arith, eqb-true (owns fs) 0 q))) (omega arith)
      cases false q rec = omega (arith, rec (rw q at e))

-- ---- values with so many cells
record Reached (P : File) (τ : Ty) (n : ℕ) : Type 0 where
  tree : Tree
  has : TreeHas P tree τ
  cells : tree_cells tree ≡ n

-- the most of type t and size at most k
abbrev Most : File → ℕ → ℕ → Type 0
Most P t k = Reached P (tnamed t k) (cells_named P t k)

record FieldsReached (P : File) (t m n : ℕ) (fs : List Field) : Type 0 where
  trees : Trees
  sizes : List ℕ
  are : FieldTrees P t fs trees sizes
  small : sum sizes ≤ m
  cells : trees_cells trees ≡ n

own-reached : {P : File} {t n : ℕ} {fs : List Field} (m p x y : ℕ) → p ≤ m → Reached P (tnamed t p) x → FieldsReached P t (m - p) y fs → n ≡ x + y → FieldsReached P t m n (own ∷ fs)
unfolding sum trees_cells
own-reached {P} {t} {n} {fs} m p x y le v r e = of_size v.tree v.has v.cells
  where
    of_size : (w : Tree) → TreeHas P w (tnamed t p) → tree_cells w ≡ x → FieldsReached P t m n (own ∷ fs)
    of_size w (has_named {j} is small) cells =
        record { trees = vcons w r.trees; sizes = j ∷ r.sizes; are = fields_own is r.are; small = omega (arith, r.small); cells = omega (arith, r.cells) }

-- fields of a constructor of type t from values of earlier types and of its own up to size M
module _ (P : File) (t M : ℕ) (table : List ℕ) (earlier : (u k : ℕ) → u < t → 1 ≤ k → Most P u k)
    (below : (p : ℕ) → 1 ≤ p → p ≤ M → Reached P (tnamed t p) (get_or table (p - 1) 0)) where
  fields-reached : {fs : List Field} → All (WithinField t) fs → (m : ℕ) → m ≤ M → owns fs ≤ m → FieldsReached P t m (other_cells (cells_named P) fs + own_cells table (owns fs) m) fs
  unfolding other_cells own_cells owns sum trees_cells
  fields-reached all_nil m low few = record { trees = vnil; sizes = []; are = fields_nil; small = omega arith; cells = omega arith }
  fields-reached (all_cons w_fbool fs) m low few =
      let r = fields-reached fs m low few in
      record { trees = vcons (vleaf (kbool true)) r.trees; sizes = r.sizes; are = fields_bool has_bool r.are; small = r.small; cells = omega (arith, r.cells) }
  fields-reached (all_cons w_fint fs) m low few =
      let r = fields-reached fs m low few in
      record { trees = vcons (vleaf (kint 0)) r.trees; sizes = r.sizes; are = fields_int (has_int {n = 0} (omega arith)) r.are; small = r.small; cells = omega (arith, r.cells) }
  fields-reached (all_cons {l = gs} w_own fs) m low few =
      let f : ℕ → ℕ = λ p. get_or table (p - 1) 0 + own_cells table (owns gs) (m - p) in
      let a : Largest f (m - owns gs) = max_to-reached f (m - owns gs) (omega arith) in
      own-reached m a.place (get_or table (a.place - 1) 0) (other_cells (cells_named P) gs + own_cells table (owns gs) (m - a.place)) (omega (arith, a.high))
      (below a.place a.low (omega (arith, a.high))) (fields-reached fs (m - a.place) (omega arith) (omega (arith, a.high))) (omega (arith, a.is, own_cells-one-more table (owns gs) m))
  fields-reached (all_cons (w_other {t = u} {k} less bound) fs) m low few =
      let v = earlier u k less bound.0 in
      let r = fields-reached fs m low few in
      record { trees = vcons v.tree r.trees; sizes = r.sizes; are = fields_other v.has r.are; small = r.small; cells = omega (arith, v.cells, r.cells) }

-- ---- types in order, sizes in order
pub type_at : {n : ℕ} {ts : List TypeDef} → WithinTypes n ts → (j t : ℕ) → j < length ts → n + j ≡ t → WithinType t (get_or ts j [])
type_at wt_nil j t less e = absurd (omega arith)
type_at (wt_cons {d} w ws) zero t less e = subst (λ n. WithinType n d) (omega arith) w
type_at (wt_cons w ws) (suc j) t less e = type_at ws j t (omega arith) (omega arith)

module _ (P : File) (types : WithinTypes 0 P.types) where
  size-reached : (t : ℕ) → t < length P.types → ((u k : ℕ) → u < t → 1 ≤ k → Most P u k) → (k : ℕ) → ((p : ℕ) → p < k → 1 ≤ p → Most P t p) → 1 ≤ k → Most P t k
  unfolding tree_cells
  size-reached t named earlier zero below pos = absurd (omega arith)
  size-reached t named earlier (suc k) below pos = made (next_cells-reached (cells_named P) (table_to P t k) cs k (self_free-makes (cells_named P) (table_to P t k) cs k within.free))
    where
      cs : List Constructor
      cs = constructors_of P t

      within : WithinType t cs
      within = type_at types t t named (omega arith)

      entry : (p : ℕ) → 1 ≤ p → p ≤ k → Reached P (tnamed t p) (get_or (table_to P t k) (p - 1) 0)
      entry p low high = subst (Reached P (tnamed t p)) (sym (cells-entry P types t named k p low high)) (below p (omega arith) low)

      made : Maker (cells_named P) (table_to P t k) cs k → Most P t (suc k)
      made m =
          let r = fields-reached P t k (table_to P t k) earlier entry (all-at within.constructors m.number m.there).fields k (le_refl k) m.few in
          record {
            tree = vcon t m.number r.trees;
            has = has_named {k = suc k} (val_con m.there r.are refl) (omega (arith, r.small));
            cells = omega (arith, r.cells, m.makes, cells-next P types t named k);
          }

  named-reached : (t : ℕ) → t < length P.types → (k : ℕ) → 1 ≤ k → Most P t k
  named-reached t = induction lt-wf_rel.wf {C = λ t. t < length P.types → (k : ℕ) → 1 ≤ k → Most P t k} t
      (λ t earlier named k. induction lt-wf_rel.wf {C = λ k. 1 ≤ k → Most P t k} k
      (size-reached t named (λ u j low. earlier u low (omega arith) j)))

  declared-reached : {τ : Ty} → WithinDeclared (length P.types) τ → Reached P τ (cells_of P τ)
  unfolding cells_of tree_cells
  declared-reached w_tbool = record { tree = vleaf (kbool true); has = has_bool; cells = refl }
  declared-reached w_tint = record { tree = vleaf (kint 0); has = has_int {n = 0} (omega arith); cells = refl }
  declared-reached (w_tnamed {t} {k} named bound) = named-reached t named k bound.0

-- "the most cells, written as a tree, of a value": some value has them
pub some-has-as-many : {P : File} {τ : Ty} → Within P → WithinDeclared (length P.types) τ → (v : Tree) × (fits P v τ ≡ true) × (tree_cells v ≡ cells_of P τ)
some-has-as-many {P} within declared = let r = declared-reached P within.types declared in (r.tree, has-fits r.has, r.cells)
