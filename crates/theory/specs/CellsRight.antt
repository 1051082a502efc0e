-- The tests of a state's cells and channels agree with the relation: cells that are right are values, channels that are right are a scope.
use Prim.Native.Nat.{ℕ, zero, suc, ◌+◌, ◌≤◌, ◌<◌}
use mathlib.Core.List.{List, [], ◌∷◌, ◌++◌, append-nil, append_assoc}
use Rattle.std.specs.Prelude.{Bool, false, ◌≡◌, length, take, eqb}
use Rattle.std.proofs.Math.Bool.{true}
use Rattle.std.proofs.Math.Option.{Option, none, some}
use Rattle.std.proofs.Math.Path.{refl, ap}
use Rattle.std.proofs.Common.{◌∙◌, subst, arith, get_or-take, length-take-le}
use Rattle.std.proofs.Math.ListN.{get_elem? as look}
use Rattle.std.proofs.Math.Seq.{take-append-add}
use borrow.Author.Tests.{lt-ltb, le-leb, eq-eqb, ltb-true, leb-true, eqb-true}
use Rattle.language.specs.Limits.{int_range}
use Rattle.language.specs.Result.{both}
use Rattle.language.specs.Syntax.{Constructor, Field, fbool, fint, own, other, Ty, tbool, tint, tnamed, File, constructors_of}
use Rattle.language.specs.Sizes.{sum}
use Rattle.language.specs.Heap.{kbool, kint, Cell, leaf, con, cell_at, size_in, own_sum}
use Rattle.language.specs.Values.{constant_fits, is_constructor, named_as}
use Rattle.language.specs.Layout.{cell_fits, location_fits, fields_right, cell_right, cells_right, roots_right}
use Rattle.theory.specs.Lists.{none-is-not-some, false-is-not-true, look-less, look-past, both_left, both_right, both_true}
use Rattle.theory.specs.Heaps.{cell-at}
use Rattle.theory.specs.HeapValues.{Has, h_bool, h_int, h_named, Val, v_con, Vals, vs_nil, vs_bool, vs_int, vs_own, vs_other, Env, env_nil, env_cons, has-less, val-size-word}
use Rattle.theory.specs.Growth.{AllValues}
use Rattle.theory.specs.Places.{look_at}
use Rattle.theory.specs.TypedStates.{ConValue, con-value}

-- ---- a cell that passes the test of a type
data CellHas : Cell → Ty → Type 0 where
  cell_bool : {b : Bool} → CellHas (leaf (kbool b)) tbool
  cell_int : {n : ℕ} → n < int_range → CellHas (leaf (kint n)) tint
  cell_named : {t c j k : ℕ} {ls : List ℕ} → j ≤ k → CellHas (con t c j ls) (tnamed t k)

fits-cell-has : (c : Cell) (τ : Ty) → cell_fits c τ ≡ true → CellHas c τ
unfolding cell_fits constant_fits named_as
fits-cell-has (leaf (kbool b)) tbool e = cell_bool
fits-cell-has (leaf (kbool b)) tint e = false-is-not-true e
fits-cell-has (leaf (kbool b)) (tnamed t k) e = false-is-not-true e
fits-cell-has (leaf (kint n)) tbool e = false-is-not-true e
fits-cell-has (leaf (kint n)) tint e = cell_int (ltb-true n int_range e)
fits-cell-has (leaf (kint n)) (tnamed t k) e = false-is-not-true e
fits-cell-has (con t c j ls) tbool e = false-is-not-true e
fits-cell-has (con t c j ls) tint e = false-is-not-true e
fits-cell-has (con t c j ls) (tnamed u k) e = subst (λ x. CellHas (con t c j ls) (tnamed x k)) (eqb-true t u (both_left (eqb t u) _ e)) (cell_named (leb-true j k (both_right (eqb t u) _ e)))

-- the test of a location that has a type
has-cell-fits : {P : File} {h : List Cell} {l : ℕ} {τ : Ty} → Has P h l τ → cell_fits (cell_at h l) τ ≡ true
unfolding cell_fits constant_fits named_as
has-cell-fits {h} (h_bool {l} e) = rw (cell-at h l e)
has-cell-fits {h} (h_int {l} {n} e less) = rw (cell-at h l e) (lt-ltb n int_range less)
has-cell-fits {h} (h_named {l} {t} {j} {k} (v_con e known vs size) le) = rw (cell-at h l e) (both_true (eq-eqb t t refl) (le-leb j k le))

-- ---- g is the lowest cells of h, those below a bound: the tests are made over g
record Front (h g : List Cell) (bound : ℕ) : Type 0 where
  size : length g ≡ bound
  low : bound ≤ length h
  same : (l : ℕ) → l < bound → cell_at g l ≡ cell_at h l

front-take : (h : List Cell) (l : ℕ) → l ≤ length h → Front h (take l h) l
front-take h l le = record { size = length-take-le l h le; low = le; same = λ i less. get_or-take l h i (leaf (kbool false)) less }

front-all : (h : List Cell) → Front h h (length h)
front-all h = record { size = refl; low = omega arith; same = λ i less. refl }

module _ {P : File} {h g : List Cell} {bound : ℕ} (front : Front h g bound) where
  has-location : {l : ℕ} {τ : Ty} → l < bound → Has P h l τ → location_fits g l τ ≡ true
  unfolding location_fits
  has-location {l} less v = both_true (lt-ltb l (length g) (omega (arith, front.size))) (rw (front.same l less) (has-cell-fits v))

  -- fields that are values pass, and their sizes sum to what the cells say
  fields-right : {t : ℕ} {fs : List Field} {ls ks : List ℕ} → Vals P h bound t fs ls ks → (k : ℕ) → sum ks ≤ k → fields_right g t k fs ls ≡ true
  unfolding fields_right sum
  fields-right vs_nil k le = refl
  fields-right (vs_bool less v vs) k le = both_true (has-location less v) (fields-right vs k le)
  fields-right (vs_int less v vs) k le = both_true (has-location less v) (fields-right vs k le)
  fields-right (vs_own less v vs) k le = both_true (has-location less (h_named {k = k} v (omega arith))) (fields-right vs k (omega arith))
  fields-right (vs_other less v vs) k le = both_true (has-location less v) (fields-right vs k le)

  fields-sum : {t : ℕ} {fs : List Field} {ls ks : List ℕ} → Vals P h bound t fs ls ks → own_sum g fs ls ≡ sum ks
  unfolding own_sum sum
  fields-sum vs_nil = refl
  fields-sum (vs_bool less v vs) = fields-sum vs
  fields-sum (vs_int less v vs) = fields-sum vs
  fields-sum (vs_own {l} less v vs) = omega (arith, ap size_in (front.same l less), val-size-word v, fields-sum vs)
  fields-sum (vs_other less v vs) = fields-sum vs

  value-right : (c : Cell) → ((t d k : ℕ) (ls : List ℕ) → c ≡ con t d k ls → ConValue P h bound t d k ls) → cell_right P g c ≡ true
  unfolding cell_right is_constructor
  value-right (leaf x) value = refl
  value-right (con t c k ls) value =
      let v = value t c k ls refl in
      rw v.known
      (both_true (fields-right v.are k (omega (arith, v.size))) (eq-eqb k (1 + own_sum g v.fields ls) (omega (arith, v.size, fields-sum v.are))))

-- ---- the other way, where the constructors below the bound are values
record FieldsShown (P : File) (h g : List Cell) (bound t : ℕ) (fs : List Field) (ls : List ℕ) : Type 0 where
  sizes : List ℕ
  are : Vals P h bound t fs ls sizes
  sum_is : sum sizes ≡ own_sum g fs ls

module _ {P : File} {h : List Cell} (l : ℕ) (value : (t c k : ℕ) (ls : List ℕ) → look h l ≡ some (con t c k ls) → Val P h l t k) where
  location-shown : {c : Cell} {τ : Ty} → look h l ≡ some c → CellHas c τ → Has P h l τ
  location-shown e cell_bool = h_bool e
  location-shown e (cell_int less) = h_int e less
  location-shown e (cell_named {t} {c} {j} {ls} le) = h_named (value t c j ls e) le

  own-shown : {c : Cell} {t k : ℕ} → look h l ≡ some c → CellHas c (tnamed t k) → Val P h l t (size_in c)
  unfolding size_in
  own-shown e (cell_named {t} {c} {j} {ls} le) = value t c j ls e

module _ {P : File} {h g : List Cell} {bound : ℕ} (front : Front h g bound) (value : (l : ℕ) → l < bound → (t c k : ℕ) (ls : List ℕ) → look h l ≡ some (con t c k ls) → Val P h l t k) where
  right-low : (l : ℕ) (τ : Ty) → location_fits g l τ ≡ true → l < bound
  unfolding location_fits
  right-low l τ e = omega (arith, ltb-true l (length g) (both_left _ _ e), front.size)

  right-cell : (l : ℕ) (τ : Ty) → location_fits g l τ ≡ true → CellHas (cell_at h l) τ
  unfolding location_fits
  right-cell l τ e = fits-cell-has (cell_at h l) τ (rw (front.same l (right-low l τ e)) at (both_right _ _ e))

  here : (l : ℕ) → l < bound → look h l ≡ some (cell_at h l)
  here l less = look_at h l (leaf (kbool false)) (omega (arith, front.low))

  right-has : (l : ℕ) (τ : Ty) → location_fits g l τ ≡ true → Has P h l τ
  right-has l τ e = let less = right-low l τ e in location-shown l (value l less) (here l less) (right-cell l τ e)

  fields-shown : (t k : ℕ) (fs : List Field) (ls : List ℕ) → fields_right g t k fs ls ≡ true → FieldsShown P h g bound t fs ls
  unfolding fields_right own_sum sum
  fields-shown t k [] [] e = record { sizes = []; are = vs_nil; sum_is = refl }
  fields-shown t k [] (l ∷ ls) e = false-is-not-true e
  fields-shown t k (f ∷ fs) [] e = false-is-not-true e
  fields-shown t k (fbool ∷ fs) (l ∷ ls) e =
      let f = both_left (location_fits g l tbool) _ e in
      let more = fields-shown t k fs ls (both_right _ _ e) in
      record { sizes = more.sizes; are = vs_bool (right-low l tbool f) (right-has l tbool f) more.are; sum_is = more.sum_is }
  fields-shown t k (fint ∷ fs) (l ∷ ls) e =
      let f = both_left (location_fits g l tint) _ e in
      let more = fields-shown t k fs ls (both_right _ _ e) in
      record { sizes = more.sizes; are = vs_int (right-low l tint f) (right-has l tint f) more.are; sum_is = more.sum_is }
  fields-shown t k (own ∷ fs) (l ∷ ls) e =
      let f = both_left (location_fits g l (tnamed t k)) _ e in
      let more = fields-shown t k fs ls (both_right _ _ e) in
      let less = right-low l (tnamed t k) f in
      record {
        sizes = size_in (cell_at h l) ∷ more.sizes;
        are = vs_own less (own-shown l (value l less) (here l less) (right-cell l (tnamed t k) f)) more.are;
        sum_is = omega (arith, more.sum_is, ap size_in (front.same l less));
      }
  fields-shown t k (other u j ∷ fs) (l ∷ ls) e =
      let f = both_left (location_fits g l (tnamed u j)) _ e in
      let more = fields-shown t k fs ls (both_right _ _ e) in
      record { sizes = more.sizes; are = vs_other (right-low l (tnamed u j) f) (right-has l (tnamed u j) f) more.are; sum_is = more.sum_is }

-- ---- all cells
cells-right-each : (P : File) (below cs : List Cell) → cells_right P below cs ≡ true → (l : ℕ) {c : Cell} → look cs l ≡ some c → cell_right P (below ++ take l cs) c ≡ true
unfolding cells_right
cells-right-each P below [] e l at = none-is-not-some at
cells-right-each P below (d ∷ cs) e zero {c} at = let same : d ≡ c = cc in rw (append-nil, ← same) (both_left _ _ e)
cells-right-each P below (d ∷ cs) e (suc l) {c} at = subst (λ x. cell_right P x c ≡ true) (append_assoc below (d ∷ []) (take l cs)) (cells-right-each P (below ++ (d ∷ [])) cs (both_right _ _ e) l at)

each-cells-right : (P : File) (below cs : List Cell) → ((l : ℕ) (c : Cell) → look cs l ≡ some c → cell_right P (below ++ take l cs) c ≡ true) → cells_right P below cs ≡ true
unfolding cells_right
each-cells-right P below [] f = refl
each-cells-right P below (d ∷ cs) f = both_true (rw append-nil at (f 0 d refl)) (each-cells-right P (below ++ (d ∷ [])) cs (λ l c e. rw append_assoc (f (suc l) c e)))

-- a heap of values is right, over any cells that stand first
pub values-cells-right : {P : File} (below cs : List Cell) → AllValues P (below ++ cs) → cells_right P below cs ≡ true
values-cells-right {P} below cs all = each-cells-right P below cs (λ l c e.
    let h = below ++ cs in
    let place = length below + l in
    let here : look h place ≡ some c = look-past below cs l ∙ e in
    rw (← (take-append-add below cs l)) (value-right (front-take h place (omega (arith, look-less h place here))) c (λ t d k ls same. con-value all place t d k ls (here ∙ ap some same))))

module _ {P : File} {h : List Cell} (right : cells_right P [] h ≡ true) where
  value-below : (n l : ℕ) → l < n → (t c k : ℕ) (ls : List ℕ) → look h l ≡ some (con t c k ls) → Val P h l t k
  unfolding cell_right is_constructor
  value-below zero l less t c k ls e = absurd (omega arith)
  value-below (suc n) l less t c k ls e = shown (look (constructors_of P t) c) refl (cells-right-each P [] h right l e) (λ i low. value-below n i (omega arith))
    where
      shown : (o : Option Constructor) → look (constructors_of P t) c ≡ o → is_constructor o (λ fs. both (fields_right (take l h) t k fs ls) (eqb k (1 + own_sum (take l h) fs ls))) ≡ true →
          ((i : ℕ) → i < l → (u d j : ℕ) (ms : List ℕ) → look h i ≡ some (con u d j ms) → Val P h i u j) → Val P h l t k
      shown none known r value = false-is-not-true r
      shown (some fs) known r value =
          let fields = fields-shown {P = P} (front-take h l (omega (arith, look-less h l e))) value t k fs ls (both_left _ _ r) in
          let size : k ≡ 1 + own_sum (take l h) fs ls = eqb-true k (1 + own_sum (take l h) fs ls) (both_right _ _ r) in
          v_con {j = k} e known fields.are (omega (arith, fields.sum_is))

  pub right-cells-values : AllValues P h
  right-cells-values = record { value = λ l. value-below (suc l) l (omega arith) }

-- ---- a location, and the channels
pub has-location-right : {P : File} (h : List Cell) {l : ℕ} {τ : Ty} → Has P h l τ → location_fits h l τ ≡ true
has-location-right h v = has-location (front-all h) (has-less v) v

pub env-roots-right : {P : File} {h : List Cell} {ls : List ℕ} {τs : List Ty} → Env P h ls τs → roots_right h ls τs ≡ true
unfolding roots_right
env-roots-right env_nil = refl
env-roots-right {h} (env_cons v vs) = both_true (has-location-right h v) (env-roots-right vs)

pub right-roots-env : {P : File} {h : List Cell} → AllValues P h → (ls : List ℕ) (τs : List Ty) → roots_right h ls τs ≡ true → Env P h ls τs
unfolding roots_right
right-roots-env all [] [] e = env_nil
right-roots-env all [] (τ ∷ τs) e = false-is-not-true e
right-roots-env all (l ∷ ls) [] e = false-is-not-true e
right-roots-env {h} all (l ∷ ls) (τ ∷ τs) e = env_cons (right-has (front-all h) (λ i less. all.value i) l τ (both_left _ _ e)) (right-roots-env all ls τs (both_right _ _ e))
