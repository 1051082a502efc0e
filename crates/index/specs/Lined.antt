-- The functions, inputs and nodes of a file, each with its line: lines follow each other from a number on.
use Prim.Native.Nat.{ℕ, zero, suc, ◌+◌}
use mathlib.Core.List.{List, [], ◌∷◌, ◌++◌, map}
use Rattle.std.proofs.Math.Option.{some}
use Rattle.std.specs.Prelude.{◌≡◌, get_or}
use Rattle.std.proofs.Math.Path.{refl, sym, ap}
use Rattle.std.proofs.Common.{◌∙◌}
use native.Mathlib.Omega.{arith}
use Rattle.std.proofs.Math.ListN.{length, get_elem? as look}
use Rattle.language.specs.Syntax.{Function, Input, Node, File}
use Rattle.theory.specs.Lists.{none-is-not-some}

pub record Lined (A : Type 0) : Type 0 where
  pub line : List ℕ
  pub part : A

module _ {A : Type 0} (lines : ℕ → List ℕ) where
  unfoldable pub lined : ℕ → List A → List (Lined A)
  lined i [] = []
  lined i (a ∷ l) = record { line = lines i; part = a } ∷ lined (suc i) l

  pub lined-length : (i : ℕ) (l : List A) → length (lined i l) ≡ length l
  unfolding lined
  lined-length i [] = refl
  lined-length i (a ∷ l) = omega (arith, lined-length (suc i) l)

  -- of none it does not matter from which number on
  pub lined-none : (i j : ℕ) {l : List A} → l ≡ [] → lined i l ≡ lined j l
  unfolding lined
  lined-none i j e = ap (lined i) e ∙ sym (ap (lined j) e)

  -- one more
  pub lined-more : (i : ℕ) (l : List A) (a : A) → lined i (l ++ (a ∷ [])) ≡ lined i l ++ (record { line = lines (i + length l); part = a } ∷ [])
  unfolding lined
  lined-more i [] a = ap (λ (k : ℕ). record { line = lines k; part = a } ∷ []) (let same : i ≡ i + 0 = omega arith in same)
  lined-more i (b ∷ l) a = ap (λ ms. record { line = lines i; part = b } ∷ ms) (lined-more (suc i) l a ∙ ap (λ (k : ℕ). lined (suc i) l ++ (record { line = lines k; part = a } ∷ [])) (let same : suc i + length l ≡ i + suc (length l) = omega arith in same))

  -- the one at a number
  pub lined-look : (i : ℕ) (l : List A) (k : ℕ) {a : A} → look l k ≡ some a → look (lined i l) k ≡ some (record { line = lines (i + k); part = a })
  unfolding lined
  lined-look i [] k e = none-is-not-some e
  lined-look i (b ∷ l) zero {a} e =
      let same : b ≡ a = cc in
      let first : i ≡ i + 0 = omega arith in
      λ j. some (record { line = lines (first j); part = same j })
  lined-look i (b ∷ l) (suc k) {a} e = lined-look (suc i) l k e ∙ ap (λ (n : ℕ). some (record { line = lines n; part = a })) (let same : suc i + k ≡ i + suc k = omega arith in same)

  pub lined-part : (i : ℕ) (l : List A) (k : ℕ) (d : Lined A) → (get_or (lined i l) k d).part ≡ get_or l k d.part
  unfolding lined
  lined-part i [] k d = refl
  lined-part i (b ∷ l) zero d = refl
  lined-part i (b ∷ l) (suc k) d = lined-part (suc i) l k d

-- what is made of the parts alone
pub lined-map : {A B : Type 0} (lines : ℕ → List ℕ) (f : A → B) (i : ℕ) (l : List A) → map (λ (x : Lined A). f x.part) (lined lines i l) ≡ map f l
unfolding lined
lined-map lines f i [] = refl
lined-map {B} lines f i (a ∷ l) = ap (λ (bs : List B). f a ∷ bs) (lined-map lines f (suc i) l)

-- ---- of a file whose lines are these; "Frames stand in the order types, functions, inputs, nodes"
abbrev pub functions_in : (ℕ → List ℕ) → File → List (Lined Function)
functions_in lines P = lined lines (length P.types) P.functions

abbrev pub inputs_in : (ℕ → List ℕ) → File → List (Lined Input)
inputs_in lines P = lined lines (length P.types + length P.functions) P.inputs

abbrev pub nodes_in : (ℕ → List ℕ) → File → List (Lined Node)
nodes_in lines P = lined lines (length P.types + length P.functions + length P.inputs) P.nodes
