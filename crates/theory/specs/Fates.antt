-- What becomes of an evaluation: a value with a given property, or a refusal with one; and that each way in which the evaluator puts its
-- steps together keeps to this.
use Rattle.std.specs.Prelude.{ℕ, ◌+◌, ◌-◌, ◌≤◌, ◌<◌, List, [], ◌∷◌, ◌++◌, Bool, ◌≡◌, length, ltb, leb}
use Rattle.std.proofs.Math.Bool.{true, false}
use Rattle.std.proofs.Math.Path.{refl}
use Rattle.std.proofs.Common.{sym, arith}
use borrow.Author.Tests.{ltb-true, ltb-false, leb-true, leb-false}
use Rattle.language.specs.Refusals.{heap_spent, environment_spent}
use Rattle.language.specs.Result.{choose}
use Rattle.language.specs.Heap.{Cell}
use Rattle.language.specs.Evaluator.{Out, value, refused, Outs, values, refused_all_of, bind_out, bind_outs, first, rest, needs, alloc}
use Rattle.language.specs.Rules.{New}
use Rattle.theory.specs.RulesGive.{value-refused}

pub data Fate (Q : ℕ → List Cell → Type 0) (M : ℕ → Type 0) : Out → Type 0 where
  f_value : {l : ℕ} {g : List Cell} → Q l g → Fate Q M (value l g)
  f_refused : {n : ℕ} → M n → Fate Q M (refused n)

pub data Fates (Q : List ℕ → List Cell → Type 0) (M : ℕ → Type 0) : Outs → Type 0 where
  fs_values : {ls : List ℕ} {g : List Cell} → Q ls g → Fates Q M (values ls g)
  fs_refused : {n : ℕ} → M n → Fates Q M (refused_all_of n)

pub fate-value : {Q : ℕ → List Cell → Type 0} {M : ℕ → Type 0} {o : Out} {l : ℕ} {g : List Cell} → Fate Q M o → o ≡ value l g → Q l g
fate-value {l} {g} (f_value {l = k} {g = i} q) e = let x : k ≡ l = cc in let y : i ≡ g = cc in rw y at (rw x at q)
fate-value (f_refused r) e = absurd (value-refused (sym e))

pub fate-refused : {Q : ℕ → List Cell → Type 0} {M : ℕ → Type 0} {o : Out} {n : ℕ} → Fate Q M o → o ≡ refused n → M n
fate-refused (f_value q) e = absurd (value-refused e)
fate-refused {n} (f_refused {n = m} r) e = let x : m ≡ n = cc in rw x at r

module _ {M K : ℕ → Type 0} (lift : (n : ℕ) → M n → K n) where
  pub fate-map : {Q R : ℕ → List Cell → Type 0} {o : Out} → ((l : ℕ) (g : List Cell) → Q l g → R l g) → Fate Q M o → Fate R K o
  fate-map f (f_value {l} {g} q) = f_value (f l g q)
  fate-map f (f_refused {n} r) = f_refused (lift n r)

  pub bind-fate : {Q R : ℕ → List Cell → Type 0} {o : Out} {k : ℕ → List Cell → Out} → Fate Q M o → ((l : ℕ) (g : List Cell) → Q l g → Fate R K (k l g)) → Fate R K (bind_out o k)
  unfolding bind_out
  bind-fate (f_value {l} {g} q) f = f l g q
  bind-fate (f_refused {n} r) f = f_refused (lift n r)

  pub binds-fate : {Q : List ℕ → List Cell → Type 0} {R : ℕ → List Cell → Type 0} {o : Outs} {k : List ℕ → List Cell → Out} →
      Fates Q M o → ((ls : List ℕ) (g : List Cell) → Q ls g → Fate R K (k ls g)) → Fate R K (bind_outs o k)
  unfolding bind_outs
  binds-fate (fs_values {ls} {g} q) f = f ls g q
  binds-fate (fs_refused {n} r) f = f_refused (lift n r)

  pub rest-fates : {Q R : List ℕ → List Cell → Type 0} (l : ℕ) {o : Outs} → ((ls : List ℕ) (g : List Cell) → Q ls g → R (l ∷ ls) g) → Fates Q M o → Fates R K (rest l o)
  unfolding rest
  rest-fates l f (fs_values {ls} {g} q) = fs_values (f ls g q)
  rest-fates l f (fs_refused {n} r) = fs_refused (lift n r)

  pub first-fates : {Q : ℕ → List Cell → Type 0} {R : List ℕ → List Cell → Type 0} {o : Out} {k : ℕ → List Cell → Outs} →
      Fate Q M o → ((l : ℕ) (g : List Cell) → Q l g → Fates R K (k l g)) → Fates R K (first o k)
  unfolding first
  first-fates (f_value {l} {g} q) f = f l g q
  first-fates (f_refused {n} r) f = fs_refused (lift n r)

module _ {Q : ℕ → List Cell → Type 0} {M : ℕ → Type 0} where
  pub needs-fate : (b : Bool) (n : ℕ) {o : Out} → (b ≡ false → M n) → (b ≡ true → Fate Q M o) → Fate Q M (needs b n o)
  unfolding needs
  needs-fate true n r f = f refl
  needs-fate false n r f = f_refused (r refl)

  -- m slots, or 21
  pub slots-fate : (m s : ℕ) {o : Out} → (s < m → M environment_spent) → (s ≡ m + (s - m) → Fate Q M o) → Fate Q M (needs (leb m s) environment_spent o)
  slots-fate m s r f = needs-fate (leb m s) environment_spent (λ t. r (leb-false m s t)) (λ t. f (omega (arith, leb-true m s t)))

  pub choose-fate : (b : Bool) {x y : Out} → (b ≡ true → Fate Q M x) → (b ≡ false → Fate Q M y) → Fate Q M (choose b x y)
  unfolding choose
  choose-fate true f g = f refl
  choose-fate false f g = g refl

  -- a cell, or 20
  pub alloc-fate : (cap : ℕ) (h : List Cell) (c : Cell) → (cap ≤ length h → M heap_spent) → (New cap h c (length h) (h ++ (c ∷ [])) → Q (length h) (h ++ (c ∷ []))) → Fate Q M (alloc cap h c)
  unfolding alloc
  alloc-fate cap h c r f = needs-fate (ltb (length h) cap) heap_spent (λ t. r (ltb-false (length h) cap t)) (λ t. f_value (f (record { free = ltb-true _ _ t; at = refl; is = refl })))
