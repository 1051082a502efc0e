-- Looking into lists, and tests that hold.
use Rattle.std.specs.Prelude.{ℕ, zero, suc, ◌+◌, ◌-◌, ◌≤◌, ◌<◌, List, [], ◌∷◌, ◌++◌, map, Bool, true, false, not, ◌≡◌, refl, length, get_or, take, drop, set}
use Rattle.std.proofs.Math.Option.{none, some}
use Rattle.std.proofs.Common.{sym, ap, ◌∙◌, arith, add-zero, zero-add, suc-add, take-take, drop-drop}
use Rattle.std.proofs.Math.ListN.{get_elem? as look}
use Rattle.std.proofs.lemmas.List.Edits.{sets}
use Rattle.language.specs.Result.{both}

pub none-is-not-some : {A B : Type 0} {a : A} → none ≡ some a → B
none-is-not-some e = absurd (let z : ◌≡◌ {A = ℕ} 0 1 = cc in omega arith)

pub false-is-not-true : {B : Type 0} → false ≡ true → B
false-is-not-true e = absurd (let z : ◌≡◌ {A = ℕ} 0 1 = cc in omega arith)

-- ---- lists
pub look-get_d : {A : Type 0} (l : List A) (i : ℕ) (d : A) {a : A} → look l i ≡ some a → get_or l i d ≡ a
look-get_d [] i d e = none-is-not-some e
look-get_d (x ∷ l) zero d e = cc
look-get_d (x ∷ l) (suc i) d e = look-get_d l i d e

pub look-less : {A : Type 0} (l : List A) (i : ℕ) {a : A} → look l i ≡ some a → i < length l
look-less [] i e = none-is-not-some e
look-less (x ∷ l) zero e = omega arith
look-less (x ∷ l) (suc i) e = omega (arith, look-less l i e)

-- what is looked up in the i-th list: that list is there
pub look-inner-less : {A : Type 0} (l : List (List A)) (i j : ℕ) {a : A} → look (get_or l i []) j ≡ some a → i < length l
look-inner-less [] i j e = none-is-not-some e
look-inner-less (x ∷ l) zero j e = omega arith
look-inner-less (x ∷ l) (suc i) j e = omega (arith, look-inner-less l i j e)

pub look-new : {A : Type 0} (l : List A) (a : A) → look (l ++ (a ∷ [])) (length l) ≡ some a
look-new [] a = refl
look-new (x ∷ l) a = look-new l a

pub look-append : {A : Type 0} (l m : List A) (i : ℕ) {a : A} → look l i ≡ some a → look (l ++ m) i ≡ some a
look-append [] m i e = none-is-not-some e
look-append (x ∷ l) m zero e = e
look-append (x ∷ l) m (suc i) e = look-append l m i e

pub look-past : {A : Type 0} (l m : List A) (i : ℕ) → look (l ++ m) (length l + i) ≡ look m i
look-past [] m i = rw zero-add
look-past (x ∷ l) m i = rw suc-add (look-past l m i)

pub look-map : {A B : Type 0} (f : A → B) (l : List A) (i : ℕ) {a : A} → look l i ≡ some a → look (map f l) i ≡ some (f a)
look-map f [] i e = none-is-not-some e
look-map f (x ∷ l) zero {a} e = let z : x ≡ a = cc in rw z
look-map f (x ∷ l) (suc i) e = look-map f l i e

pub look-beyond : {A : Type 0} (l : List A) (i : ℕ) → length l ≤ i → look l i ≡ none
look-beyond [] i le = refl
look-beyond (x ∷ l) zero le = absurd (omega arith)
look-beyond (x ∷ l) (suc i) le = look-beyond l i (omega arith)

-- lists that agree at every place are equal
pub same-list : {A : Type 0} (l k : List A) → ((i : ℕ) → look l i ≡ look k i) → l ≡ k
same-list [] [] f = refl
same-list [] (y ∷ k) f = none-is-not-some (f 0)
same-list (x ∷ l) [] f = none-is-not-some (sym (f 0))
same-list (x ∷ l) (y ∷ k) f = let head = f 0 in let tail = same-list l k (λ i. f (suc i)) in cc

-- ---- a list with one element set
pub look-set-same : {A : Type 0} (l : List A) (i : ℕ) (a : A) → i < length l → look (set l i a) i ≡ some a
look-set-same [] i a less = absurd (omega arith)
look-set-same (x ∷ l) zero a less = refl
look-set-same (x ∷ l) (suc i) a less = look-set-same l i a (omega arith)

pub look-set-other : {A : Type 0} (l : List A) (i j : ℕ) (a : A) → (j ≡ i → ⊥) → look (set l i a) j ≡ look l j
look-set-other [] i j a other = refl
look-set-other (x ∷ l) zero zero a other = absurd (other refl)
look-set-other (x ∷ l) zero (suc j) a other = refl
look-set-other (x ∷ l) (suc i) zero a other = refl
look-set-other (x ∷ l) (suc i) (suc j) a other = look-set-other l i j a (λ e. other (ap suc e))

pub map-set : {A B : Type 0} (f : A → B) (l : List A) (i : ℕ) (a : A) → map f (set l i a) ≡ set (map f l) i (f a)
map-set f [] i a = refl
map-set f (x ∷ l) zero a = refl
map-set f (x ∷ l) (suc i) a = rw (map-set f l i a)

-- ---- parts of lists
-- lists that agree up to a place agree up to an earlier one
pub take-fewer : {A : Type 0} (m n : ℕ) (l k : List A) → m ≤ n → take n l ≡ take n k → take m l ≡ take m k
take-fewer m n l k le e = sym (take-take m n l le) ∙ ap (take m) e ∙ take-take m n k le

-- lists that agree from a place on agree from a later one
pub drop_more : {A : Type 0} (m n : ℕ) (l k : List A) → m ≤ n → drop m l ≡ drop m k → drop n l ≡ drop n k
drop_more m n l k le e =
    let place : m + (n - m) ≡ n = omega arith in
    rw (← place) (sym (drop-drop (n - m) m l) ∙ ap (drop (n - m)) e ∙ drop-drop (n - m) m k)

-- ---- tests
pub both_left : (a b : Bool) → both a b ≡ true → a ≡ true
unfolding both
both_left true b e = refl
both_left false b e = e

pub both_right : (a b : Bool) → both a b ≡ true → b ≡ true
unfolding both
both_right true b e = e
both_right false b e = false-is-not-true e

pub both_true : {a b : Bool} → a ≡ true → b ≡ true → both a b ≡ true
unfolding both
both_true p q = rw (p, q)

pub both-fails : {a : Bool} (b : Bool) → a ≡ false → both a b ≡ false
unfolding both
both-fails b e = rw e

-- where the second holds, it is the first that fails
pub both_first : {a b : Bool} → both a b ≡ false → b ≡ true → a ≡ false
unfolding both
both_first {a = true} e f = rw f at e
both_first {a = false} e f = refl

pub both-never : (a : Bool) {b : Bool} → b ≡ false → both a b ≡ false
unfolding both
both-never true e = e
both-never false e = refl

pub not_of_false : {b : Bool} → b ≡ false → not b ≡ true
not_of_false e = rw e

pub never_true : (b : Bool) → (b ≡ true → ⊥) → b ≡ false
never_true true f = absurd (f refl)
never_true false f = refl

-- ---- several written one after the other, and then several more
pub sets-append : (xs ys l : List ℕ) (i : ℕ) → sets l i (xs ++ ys) ≡ sets (sets l i xs) (i + length xs) ys
sets-append [] ys l i = ap (λ m. sets l m ys) (sym (add-zero i))
sets-append (x ∷ xs) ys l i = let on : suc i + length xs ≡ i + suc (length xs) = omega arith in sets-append xs ys (set l i x) (suc i) ∙ ap (λ m. sets (sets (set l i x) (suc i) xs) m ys) on
