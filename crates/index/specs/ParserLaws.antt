-- What a parser gave, taken apart: a count, a list of so many, and what stands behind a first value.
use Prim.Native.Nat.{ℕ, zero, suc, ◌≤◌, ◌<◌}
use mathlib.Core.List.{List, [], ◌∷◌}
use Rattle.std.specs.Prelude.{Bool, true, false, ◌≡◌, get_or, leb}
use Rattle.std.proofs.Math.Path.{refl, ap}
use Rattle.std.proofs.Common.{sym, ◌∙◌, arith, leb-true}
use Rattle.std.proofs.Math.ListN.{length}
use Rattle.language.specs.Result.{both}
use Rattle.language.specs.Parser.{Read, got, bad, Parser, and_then, return, must, byte, count, many, counted}

pub bad-is-not-got : {A B : Type 0} {n : ℕ} {a : A} {rest : List ℕ} → bad n ≡ got a rest → B
bad-is-not-got e = absurd (let z : ◌≡◌ {A = ℕ} 0 1 = cc in omega arith)

pub got-value : {A : Type 0} {a b : A} {l m : List ℕ} → got a l ≡ got b m → a ≡ b
got-value e = cc

pub got-left : {A : Type 0} {a b : A} {l m : List ℕ} → got a l ≡ got b m → l ≡ m
got-left e = cc

-- ---- a list that begins with a value: the value came first, the rest behind it
pub record Begins {A : Type 0} (y : Read (List A)) (a : A) (l : List A) (rest : List ℕ) : Type 0 where
  pub others : List A
  pub whole : l ≡ a ∷ others
  pub is : y ≡ got others rest

begins : {A : Type 0} (y : Read (List A)) {a : A} {l : List A} {rest : List ℕ} → and_then y (λ (ls : List A) bs. got (a ∷ ls) bs) ≡ got l rest → Begins y a l rest
unfolding and_then
begins {A} (got ls bs) {a} e = record { others = ls; whole = sym (got-value e); is = ap (got ls) (got-left e) }
begins (bad n) e = bad-is-not-got e

module _ {A : Type 0} (p : Parser A) where
  -- from the first value on
  pub many-begins : (n : ℕ) (bs : List ℕ) {a : A} {mid : List ℕ} {l : List A} {rest : List ℕ} → p bs ≡ got a mid → many p (suc n) bs ≡ got l rest → Begins (many p n mid) a l rest
  unfolding many and_then
  many-begins n bs {a} {mid} e h = begins (many p n mid) (sym (ap (λ y. and_then y (λ b cs. and_then (many p n cs) (λ (ls : List A) ds. got (b ∷ ls) ds))) e) ∙ h)

  pub many-bad : (n : ℕ) (bs : List ℕ) {k : ℕ} → p bs ≡ bad k → many p (suc n) bs ≡ bad k
  unfolding many and_then
  many-bad n bs e = ap (λ y. and_then y (λ b cs. and_then (many p n cs) (λ (ls : List A) ds. got (b ∷ ls) ds))) e

  many-at : (n : ℕ) (bs : List ℕ) (y : Read A) → p bs ≡ y → {l : List A} {rest : List ℕ} → many p n bs ≡ got l rest → length l ≡ n
  unfolding many
  many-at zero bs y e h = ap length (sym (got-value h))
  many-at (suc n) bs (got a mid) e h = let b = many-begins n bs e h in ap length b.whole ∙ ap suc (many-at n mid (p mid) refl b.is)
  many-at (suc n) bs (bad k) e h = bad-is-not-got (sym (many-bad n bs e) ∙ h)

  -- as many as were asked for
  pub many-length : (n : ℕ) (bs : List ℕ) {l : List A} {rest : List ℕ} → many p n bs ≡ got l rest → length l ≡ n
  many-length n bs h = many-at n bs (p bs) refl h

-- ---- a count is not above the most
must-most : (least most n : ℕ) (t : Bool) → leb n most ≡ t → (s : Bool) (bs : List ℕ) {m : ℕ} {rest : List ℕ} → must (both s t) 7 (return n) bs ≡ got m rest → m ≤ most
unfolding must both
must-most least most n true e true bs h = rw (sym (got-value h)) (leb-true n most e)
must-most least most n false e true bs h = bad-is-not-got h
must-most least most n t e false bs h = bad-is-not-got h

pub count_most : (least most : ℕ) (bs : List ℕ) {n : ℕ} {rest : List ℕ} → count least most bs ≡ got n rest → n ≤ most
unfolding count byte and_then
count_most least most [] h = bad-is-not-got h
count_most least most (b ∷ bs) h = must-most least most b (leb b most) refl (leb least b) bs h

counted-at-most : {A : Type 0} (least most : ℕ) (p : Parser A) (y : Read ℕ) (bs : List ℕ) {l : List A} {rest : List ℕ} → count least most bs ≡ y → and_then y (many p) ≡ got l rest → length l ≤ most
unfolding and_then
counted-at-most least most p (got n cs) bs e h = rw (many-length p n cs h) (count_most least most bs e)
counted-at-most least most p (bad n) bs e h = bad-is-not-got h

pub counted-most : {A : Type 0} (least most : ℕ) (p : Parser A) (bs : List ℕ) {l : List A} {rest : List ℕ} → counted least most p bs ≡ got l rest → length l ≤ most
unfolding counted
counted-most least most p bs h = counted-at-most least most p (count least most bs) bs refl h

-- ---- lists in a list: a bound on what the parser gives bounds each
module _ {A : Type 0} (p : Parser (List A)) (most : ℕ) (small : (bs : List ℕ) (l : List A) (rest : List ℕ) → p bs ≡ got l rest → length l ≤ most) where
  many-each : (n : ℕ) (bs : List ℕ) (y : Read (List A)) → p bs ≡ y → {ls : List (List A)} {rest : List ℕ} → many p n bs ≡ got ls rest → (c : ℕ) → c < length ls → length (get_or ls c []) ≤ most
  unfolding many
  many-each zero bs y e h c less = absurd (omega (arith, ap length (got-value h)))
  many-each (suc n) bs (bad k) e h c less = bad-is-not-got (sym (many-bad p n bs e) ∙ h)
  many-each (suc n) bs (got a mid) e h zero less = let b = many-begins p n bs e h in rw b.whole (small bs a mid e)
  many-each (suc n) bs (got a mid) e h (suc c) less = let b = many-begins p n bs e h in rw b.whole (many-each n mid (p mid) refl b.is c (omega (arith, ap length b.whole)))

  pub counted-each : (y : Read ℕ) {ls : List (List A)} {rest : List ℕ} → and_then y (many p) ≡ got ls rest → (c : ℕ) → c < length ls → length (get_or ls c []) ≤ most
  unfolding and_then
  counted-each (got n cs) h = many-each n cs (p cs) refl h
  counted-each (bad n) h = bad-is-not-got h
