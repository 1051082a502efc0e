-- The size of a value that fits, read part by part: a constructor's fields one after the other, each against what is left of its size.
use Rattle.std.specs.Prelude.{ℕ, suc, ◌+◌, ◌-◌, ◌≤◌, ◌<◌, Bool, ◌≡◌, length, leb}
use mathlib.Core.List.{List, [], ◌∷◌}
use Rattle.std.proofs.Math.Bool.{true, false}
use Rattle.std.proofs.Math.Path.{refl}
use Rattle.std.proofs.Common.{sym, ap, ◌∙◌, eq-eqb, le-leb, leb-true, leb-false}
use Rattle.std.proofs.Math.Nat.{add-zero}
use native.Mathlib.Omega.{arith}
use Rattle.std.proofs.lemmas.Bool.{lt-leb}
use Rattle.language.specs.Refusals.{bad_input_line}
use Rattle.language.specs.Result.{both, choose}
use Rattle.language.specs.Syntax.{Field, fbool, fint, own, other, Ty, tbool, tint, tnamed, File, constructors_of, fields_of}
use Rattle.language.specs.Heap.{Tree, vcon, Trees, vcons}
use Rattle.language.specs.Values.{tree_size, own_tree_sum, fits, fields_fit_of, named_as, is_constructor}
use Rattle.language.specs.Parser.{Read, got, bad, Parser, and_then}
use Rattle.language.specs.Line.{value_trees}
use Rattle.theory.specs.Lists.{both_left, both_right, both_true, both-never}
use Rattle.theory.specs.Places.{look_at}
use Rattle.theory.specs.TypedTrees.{TreeHas, has_named, val-size, fits-is-has}
use Rattle.input_line.specs.Judges.{sized, sized_fields}

-- ---- two tests that hold together
same_truth : (a b : Bool) → (a ≡ true → b ≡ true) → (b ≡ true → a ≡ true) → a ≡ b
same_truth true b there back = sym (there refl)
same_truth false true there back = back refl
same_truth false false there back = refl

swapped : (a b : Bool) → both a b ≡ both b a
unfolding both
swapped true true = refl
swapped true false = refl
swapped false true = refl
swapped false false = refl

-- ---- a value is of a type at a smaller size exactly where its own size is within that
lower-within : {P : File} {v : Tree} {t j k : ℕ} → j ≤ k → TreeHas P v (tnamed t j) → both (fits P v (tnamed t k)) (leb (tree_size P v) j) ≡ true
lower-within {P} {v} {t} {j} {k} le (has_named x small) = both_true ((fits-is-has P v (tnamed t k)).1 (has_named x (omega arith))) (le-leb (tree_size P v) j (omega (arith, val-size x)))

lower-has : {P : File} {v : Tree} {t j k : ℕ} → tree_size P v ≤ j → TreeHas P v (tnamed t k) → TreeHas P v (tnamed t j)
lower-has {j = j} within (has_named x small) = has_named {k = j} x (omega (arith, val-size x))

module _ (P : File) (v : Tree) (t j k : ℕ) (le : j ≤ k) where
  pub fits-lower : fits P v (tnamed t j) ≡ both (fits P v (tnamed t k)) (leb (tree_size P v) j)
  fits-lower = same_truth _ _ (λ e. lower-within le ((fits-is-has P v (tnamed t j)).0 e))
      (λ e. (fits-is-has P v (tnamed t j)).1 (lower-has (leb-true _ _ (both_right _ _ e)) ((fits-is-has P v (tnamed t k)).0 (both_left _ _ e))))

-- ---- what is read behind something else
pub never-sized : {A : Type 0} (P : File) (τ : Ty) (x : Read A) (k : A → Parser Tree) → ((a : A) (bs : List ℕ) → sized P τ (k a bs) ≡ bad bad_input_line) → sized P τ (and_then x k) ≡ bad bad_input_line
unfolding sized and_then
never-sized P τ (got a bs) k wrong = wrong a bs
never-sized P τ (bad n) k wrong = refl

pub bad-sized : (P : File) (τ : Ty) {y : Read Tree} {n : ℕ} → y ≡ bad n → sized P τ y ≡ bad bad_input_line
unfolding sized
bad-sized P τ e = ap (sized P τ) e

-- ---- a constructor is judged by its fields
pub con-sized : (P : File) (t c k : ℕ) → c < length (constructors_of P t) → (y : Read Trees) → sized P (tnamed t k) (and_then y (λ ws bs. got (vcon t c ws) bs)) ≡ sized_fields P t k (fields_of P t c) 1 y
unfolding sized sized_fields and_then fits named_as is_constructor tree_size both
con-sized P t c k less (got ws rest) = rw (eq-eqb t t refl, look_at (constructors_of P t) c [] less)
    (ap (λ b. choose b (got (1 + own_tree_sum P ws (fields_of P t c)) rest) (bad bad_input_line)) (swapped (leb (1 + own_tree_sum P ws (fields_of P t c)) k) (fields_fit_of P ws (fields_of P t c) t k)))
con-sized P t c k less (bad n) = refl

-- ---- one field, and those behind it
-- the type of a field in a constructor of type t of which the size k is left, and what a field's size adds
abbrev pub field_type : ℕ → ℕ → Field → Ty
field_type t k fbool = tbool
field_type t k fint = tint
field_type t k own = tnamed t k
field_type t k (other u j) = tnamed u j

abbrev pub field_adds : Field → ℕ → ℕ
field_adds fbool s = 0
field_adds fint s = 0
field_adds own s = s
field_adds (other u j) s = 0

module _ (P : File) (t k : ℕ) (fs : List Field) (size : ℕ) (within : size ≤ k) where
  abbrev Step : Field → Tree → Read Trees → Type 0
  Step f w y = sized_fields P t k (f ∷ fs) size (and_then y (λ vs ds. got (vcons w vs) ds))
      ≡ choose (fits P w (field_type t (k - size) f)) (sized_fields P t k fs (size + field_adds f (tree_size P w)) y) (bad bad_input_line)

  choose-bad : (b : Bool) → bad bad_input_line ≡ choose {A = Read ℕ} b (bad bad_input_line) (bad bad_input_line)
  unfolding choose
  choose-bad true = refl
  choose-bad false = refl

  -- of another type
  plain_step : (b r : Bool) (s : ℕ) (rest : List ℕ) → choose (both (both b r) (leb (size + s) k)) (got (size + s) rest) (bad bad_input_line)
      ≡ choose b (choose (both r (leb (size + 0 + s) k)) (got (size + 0 + s) rest) (bad bad_input_line)) (bad bad_input_line)
  unfolding choose both
  plain_step true r s rest = rw add-zero
  plain_step false r s rest = refl

  -- of the type itself
  own-step : (w : Tree) (r : Bool) (s : ℕ) (rest : List ℕ) → choose (both (both (fits P w (tnamed t k)) r) (leb (size + (tree_size P w + s)) k)) (got (size + (tree_size P w + s)) rest) (bad bad_input_line)
      ≡ choose (fits P w (tnamed t (k - size))) (choose (both r (leb (size + tree_size P w + s) k)) (got (size + tree_size P w + s) rest) (bad bad_input_line)) (bad bad_input_line)
  unfolding choose both
  own-step w r s rest = rw (fits-lower P w t (k - size) k (omega arith)) (cases (fits P w (tnamed t k)) (leb (tree_size P w) (k - size)) refl)
    where
      together : size + (tree_size P w + s) ≡ size + tree_size P w + s
      together = omega arith

      cases : (a b : Bool) → leb (tree_size P w) (k - size) ≡ b → choose (both (both a r) (leb (size + (tree_size P w + s)) k)) (got (size + (tree_size P w + s)) rest) (bad bad_input_line)
          ≡ choose (both a b) (choose (both r (leb (size + tree_size P w + s) k)) (got (size + tree_size P w + s) rest) (bad bad_input_line)) (bad bad_input_line)
      cases true true e = rw together
      cases true false e = let large : k < size + (tree_size P w + s) = omega (arith, leb-false (tree_size P w) (k - size) e) in
          rw (both-never r (lt-leb (size + (tree_size P w + s)) k large))
      cases false b e = refl

  one-step : (f : Field) (w : Tree) (y : Read Trees) → Step f w y
  unfolding sized_fields and_then fields_fit_of own_tree_sum
  one-step f w (bad n) = choose-bad (fits P w (field_type t (k - size) f))
  one-step fbool w (got ws rest) = plain_step (fits P w tbool) (fields_fit_of P ws fs t k) (own_tree_sum P ws fs) rest
  one-step fint w (got ws rest) = plain_step (fits P w tint) (fields_fit_of P ws fs t k) (own_tree_sum P ws fs) rest
  one-step own w (got ws rest) = own-step w (fields_fit_of P ws fs t k) (own_tree_sum P ws fs) rest
  one-step (other u j) w (got ws rest) = plain_step (fits P w (tnamed u j)) (fields_fit_of P ws fs t k) (own_tree_sum P ws fs) rest

  pub fields-step : (f : Field) (p : Parser Tree) (m : ℕ) (bs : List ℕ) → sized_fields P t k (f ∷ fs) size (value_trees p (suc m) bs)
      ≡ and_then (sized P (field_type t (k - size) f) (p bs)) (λ s cs. sized_fields P t k fs (size + field_adds f s) (value_trees p m cs))
  unfolding value_trees and_then sized sized_fields choose
  fields-step f p m bs = cases (p bs)
    where
      taken : (b : Bool) (w : Tree) (cs : List ℕ) → choose b (sized_fields P t k fs (size + field_adds f (tree_size P w)) (value_trees p m cs)) (bad bad_input_line)
          ≡ and_then (choose b (got (tree_size P w) cs) (bad bad_input_line)) (λ s ds. sized_fields P t k fs (size + field_adds f s) (value_trees p m ds))
      taken true w cs = refl
      taken false w cs = refl

      cases : (x : Read Tree) → sized_fields P t k (f ∷ fs) size (and_then x (λ v cs. and_then (value_trees p m cs) (λ vs ds. got (vcons v vs) ds)))
          ≡ and_then (sized P (field_type t (k - size) f) x) (λ s cs. sized_fields P t k fs (size + field_adds f s) (value_trees p m cs))
      cases (got w cs) = one-step f w (value_trees p m cs) ∙ taken (fits P w (field_type t (k - size) f)) w cs
      cases (bad n) = refl

-- no field left
pub fields-end : (P : File) (t k size : ℕ) → size ≤ k → (p : Parser Tree) (bs : List ℕ) → sized_fields P t k [] size (value_trees p 0 bs) ≡ got size bs
unfolding sized_fields value_trees fields_fit_of own_tree_sum both choose
fields-end P t k size within p bs = rw (add-zero size, le-leb size k within)
