-- Typed trees with their true sizes, as a relation; it agrees with the test `fits`.
use Rattle.std.specs.Prelude.{ℕ, suc, ◌≤◌, ◌<◌, List, [], ◌∷◌, Bool, true, ◌↔◌, ◌≡◌, eqb}
use Rattle.std.proofs.Math.Option.{Option, none, some}
use Rattle.std.proofs.Math.Path.{refl}
use Rattle.std.proofs.Common.{subst, lt-ltb, le-leb, eq-eqb, ltb-true, leb-true, eqb-true}
use native.Mathlib.Omega.{arith}
use Rattle.std.proofs.Math.ListN.{get_elem? as look}
use Rattle.language.specs.Limits.{int_range}
use Rattle.language.specs.Syntax.{Field, fbool, fint, own, other, Constructor, Ty, tbool, tint, tnamed, File, constructors_of, owns}
use Rattle.language.specs.Sizes.{sum}
use Rattle.language.specs.Heap.{Constant, kbool, kint, Tree, vleaf, vcon, Trees, vnil, vcons}
use Rattle.language.specs.Values.{tree_size, own_tree_sum, fits, fields_fit_of, constant_fits, is_constructor, named_as}
use Rattle.theory.specs.Lists.{false-is-not-true, look-get_d, both_left, both_right, both_true}

module _ (P : File) where
  mutual
    -- a value of a type: of at most its size
    pub data TreeHas : Tree → Ty → Type 0 where
      has_bool : {b : Bool} → TreeHas (vleaf (kbool b)) tbool
      has_int : {n : ℕ} → n < int_range → TreeHas (vleaf (kint n)) tint
      has_named : {v : Tree} {t j k : ℕ} → TreeVal v t j → j ≤ k → TreeHas v (tnamed t k)

    -- a value of type t whose true size is j
    pub data TreeVal : Tree → ℕ → ℕ → Type 0 where
      val_con : {t c j : ℕ} {fs : Constructor} {ws : Trees} {ks : List ℕ} →
          look (constructors_of P t) c ≡ some fs → FieldTrees t fs ws ks → j ≡ suc (sum ks) → TreeVal (vcon t c ws) t j

    -- the fields of a constructor of type t; ks: the true sizes at those of the type itself
    pub data FieldTrees : ℕ → List Field → Trees → List ℕ → Type 0 where
      fields_nil : {t : ℕ} → FieldTrees t [] vnil []
      fields_bool : {t : ℕ} {w : Tree} {fs : List Field} {ws : Trees} {ks : List ℕ} → TreeHas w tbool → FieldTrees t fs ws ks → FieldTrees t (fbool ∷ fs) (vcons w ws) ks
      fields_int : {t : ℕ} {w : Tree} {fs : List Field} {ws : Trees} {ks : List ℕ} → TreeHas w tint → FieldTrees t fs ws ks → FieldTrees t (fint ∷ fs) (vcons w ws) ks
      fields_own : {t k : ℕ} {w : Tree} {fs : List Field} {ws : Trees} {ks : List ℕ} → TreeVal w t k → FieldTrees t fs ws ks → FieldTrees t (own ∷ fs) (vcons w ws) (k ∷ ks)
      fields_other : {t u k : ℕ} {w : Tree} {fs : List Field} {ws : Trees} {ks : List ℕ} → TreeHas w (tnamed u k) → FieldTrees t fs ws ks → FieldTrees t (other u k ∷ fs) (vcons w ws) ks

-- fields with their sizes, whatever these are
record Fields (P : File) (t : ℕ) (fs : List Field) (ws : Trees) : Type 0 where
  sizes : List ℕ
  are : FieldTrees P t fs ws sizes

module _ {P : File} where
  pub val-positive : {v : Tree} {t j : ℕ} → TreeVal P v t j → 1 ≤ j
  val-positive (val_con e r s) = omega arith

  -- each field of the type itself has a size of at least 1
  pub owns-at-most-sum : {t : ℕ} {fs : List Field} {ws : Trees} {ks : List ℕ} → FieldTrees P t fs ws ks → owns fs ≤ sum ks
  unfolding owns sum
  owns-at-most-sum fields_nil = omega arith
  owns-at-most-sum (fields_bool w r) = owns-at-most-sum r
  owns-at-most-sum (fields_int w r) = owns-at-most-sum r
  owns-at-most-sum (fields_own w r) = omega (arith, val-positive w, owns-at-most-sum r)
  owns-at-most-sum (fields_other w r) = owns-at-most-sum r

  -- ---- the size that the tree says
  mutual
    unfolding tree_size sum

    pub val-size : {v : Tree} {t j : ℕ} → TreeVal P v t j → tree_size P v ≡ j
    val-size (val_con {t} {c} {ws} e r s) = rw (look-get_d (constructors_of P t) c [] e) (omega (arith, fields-sum r))

    pub fields-sum : {t : ℕ} {fs : List Field} {ws : Trees} {ks : List ℕ} → FieldTrees P t fs ws ks → own_tree_sum P ws fs ≡ sum ks
    fields-sum fields_nil = refl
    fields-sum (fields_bool w r) = fields-sum r
    fields-sum (fields_int w r) = fields-sum r
    fields-sum (fields_own w r) = omega (arith, val-size w, fields-sum r)
    fields-sum (fields_other w r) = fields-sum r

  -- ---- the relation gives the test
  mutual
    unfolding fits constant_fits named_as is_constructor sum

    pub has-fits : {v : Tree} {τ : Ty} → TreeHas P v τ → fits P v τ ≡ true
    has-fits has_bool = refl
    has-fits (has_int {n} less) = lt-ltb n int_range less
    has-fits (has_named {k} v le) = val-fits v k le

    pub val-fits : {v : Tree} {t j : ℕ} → TreeVal P v t j → (k : ℕ) → j ≤ k → fits P v (tnamed t k) ≡ true
    val-fits (val_con {t} {c} {j} {ws} e r s) k le =
        let small = le-leb (tree_size P (vcon t c ws)) k (omega (arith, val-size (val_con {j = j} e r s))) in
        both_true (eq-eqb t t refl) (both_true small (rw e (fields_fit r k (omega arith))))

    pub fields_fit : {t : ℕ} {fs : List Field} {ws : Trees} {ks : List ℕ} → FieldTrees P t fs ws ks → (k : ℕ) → sum ks ≤ k → fields_fit_of P ws fs t k ≡ true
    fields_fit fields_nil k le = refl
    fields_fit (fields_bool w r) k le = both_true (has-fits w) (fields_fit r k le)
    fields_fit (fields_int w r) k le = both_true (has-fits w) (fields_fit r k le)
    fields_fit (fields_own w r) k le = both_true (val-fits w k (omega arith)) (fields_fit r k (omega arith))
    fields_fit (fields_other w r) k le = both_true (has-fits w) (fields_fit r k le)

  -- ---- the test gives the relation
  constant-has : (x : Constant) (τ : Ty) → constant_fits x τ ≡ true → TreeHas P (vleaf x) τ
  unfolding constant_fits
  constant-has (kbool b) tbool e = has_bool
  constant-has (kbool b) tint e = false-is-not-true e
  constant-has (kbool b) (tnamed t k) e = false-is-not-true e
  constant-has (kint n) tbool e = false-is-not-true e
  constant-has (kint n) tint e = has_int (ltb-true n int_range e)
  constant-has (kint n) (tnamed t k) e = false-is-not-true e

  constructor-has : (t c k : ℕ) (ws : Trees) (o : Option Constructor) → look (constructors_of P t) c ≡ o → tree_size P (vcon t c ws) ≤ k →
      is_constructor o (λ fs. fields_fit_of P ws fs t k) ≡ true → ((fs : List Field) → fields_fit_of P ws fs t k ≡ true → Fields P t fs ws) → TreeHas P (vcon t c ws) (tnamed t k)
  unfolding is_constructor
  constructor-has t c k ws none e le is fields = false-is-not-true is
  constructor-has t c k ws (some fs) e le is fields =
      let v : TreeVal P (vcon t c ws) t (suc (sum (fields fs is).sizes)) = val_con e (fields fs is).are refl in
      has_named {k = k} v (omega (arith, val-size v))

  same-sizes : {t : ℕ} {f : Field} {w : Tree} {fs : List Field} {ws : Trees} →
      ((ks : List ℕ) → FieldTrees P t fs ws ks → FieldTrees P t (f ∷ fs) (vcons w ws) ks) → Fields P t fs ws → Fields P t (f ∷ fs) (vcons w ws)
  same-sizes more r = record { sizes = r.sizes; are = more r.sizes r.are }

  one-more-size : {t k : ℕ} {w : Tree} {fs : List Field} {ws : Trees} → TreeHas P w (tnamed t k) → Fields P t fs ws → Fields P t (own ∷ fs) (vcons w ws)
  one-more-size (has_named {j} v le) r = record { sizes = j ∷ r.sizes; are = fields_own v r.are }

  mutual
    unfolding fits named_as

    pub fits-has : (v : Tree) (τ : Ty) → fits P v τ ≡ true → TreeHas P v τ
    fits-has (vleaf x) τ e = constant-has x τ e
    fits-has (vcon t c ws) tbool e = false-is-not-true e
    fits-has (vcon t c ws) tint e = false-is-not-true e
    fits-has (vcon t c ws) (tnamed u k) e =
        let rest = both_right (eqb t u) _ e in
        subst (λ x. TreeHas P (vcon t c ws) (tnamed x k)) (eqb-true t u (both_left _ _ e))
        (constructor-has t c k ws (look (constructors_of P t) c) refl (leb-true (tree_size P (vcon t c ws)) k (both_left _ _ rest)) (both_right _ _ rest) (λ fs r. fields-are ws fs t k r))

    fields-are : (ws : Trees) (fs : List Field) (t k : ℕ) → fields_fit_of P ws fs t k ≡ true → Fields P t fs ws
    fields-are vnil [] t k e = record { sizes = []; are = fields_nil }
    fields-are vnil (f ∷ fs) t k e = false-is-not-true e
    fields-are (vcons w ws) [] t k e = false-is-not-true e
    fields-are (vcons w ws) (fbool ∷ fs) t k e = same-sizes (λ ks. fields_bool (fits-has w tbool (both_left _ _ e))) (fields-are ws fs t k (both_right _ _ e))
    fields-are (vcons w ws) (fint ∷ fs) t k e = same-sizes (λ ks. fields_int (fits-has w tint (both_left _ _ e))) (fields-are ws fs t k (both_right _ _ e))
    fields-are (vcons w ws) (own ∷ fs) t k e = one-more-size (fits-has w (tnamed t k) (both_left _ _ e)) (fields-are ws fs t k (both_right _ _ e))
    fields-are (vcons w ws) (other u j ∷ fs) t k e = same-sizes (λ ks. fields_other (fits-has w (tnamed u j) (both_left _ _ e))) (fields-are ws fs t k (both_right _ _ e))

-- the relation is the test
pub fits-is-has : (P : File) (v : Tree) (τ : Ty) → fits P v τ ≡ true ↔ TreeHas P v τ
fits-is-has P v τ = (fits-has v τ, has-fits)
