-- What holds of every element of a list: joining and parting lists, images, looking up, membership.
use Rattle.std.specs.Prelude.{ℕ, zero, suc, ◌<◌, ◌≡◌, refl, length, get_or}
use mathlib.Core.List.Memᴰ.{head as in_head}
use mathlib.Core.List.Memᴰ.{tail as in_Tail}
use mathlib.Core.List.{List, [], ◌∷◌, ◌++◌, map, Memᴰ as In}
use Rattle.std.proofs.Math.Option.{some}
use Rattle.std.proofs.Common.{subst, arith}
use Rattle.std.proofs.Math.ListN.{get_elem? as look}
use Rattle.language.specs.Within.{All, all_nil, all_cons}
use Rattle.theory.specs.Lists.{none-is-not-some}

-- ---- joining and parting
pub all_append : {A : Type 0} {Q : A → Type 0} {l m : List A} → All Q l → All Q m → All Q (l ++ m)
all_append all_nil qs = qs
all_append (all_cons p ps) qs = all_cons p (all_append ps qs)

pub all_snoc : {A : Type 0} {Q : A → Type 0} {l : List A} {a : A} → All Q l → Q a → All Q (l ++ (a ∷ []))
all_snoc ps q = all_append ps (all_cons q all_nil)

pub all_left : {A : Type 0} {Q : A → Type 0} (l m : List A) → All Q (l ++ m) → All Q l
all_left [] m p = all_nil
all_left (a ∷ l) m (all_cons x p) = all_cons x (all_left l m p)

pub all_right : {A : Type 0} {Q : A → Type 0} (l m : List A) → All Q (l ++ m) → All Q m
all_right [] m p = p
all_right (a ∷ l) m (all_cons x p) = all_right l m p

pub all_first : {A : Type 0} {Q : A → Type 0} {a : A} {l : List A} → All Q (a ∷ l) → Q a
all_first (all_cons x p) = x

pub all_rest : {A : Type 0} {Q : A → Type 0} {a : A} {l : List A} → All Q (a ∷ l) → All Q l
all_rest (all_cons x p) = p

-- ---- another predicate, images
pub all_map : {A : Type 0} {Q R : A → Type 0} {l : List A} → ((a : A) → Q a → R a) → All Q l → All R l
all_map f all_nil = all_nil
all_map f (all_cons {a} q qs) = all_cons (f a q) (all_map f qs)

pub all_both : {A : Type 0} {Q R S : A → Type 0} {l : List A} → ((a : A) → Q a → R a → S a) → All Q l → All R l → All S l
all_both f all_nil all_nil = all_nil
all_both f (all_cons {a} q qs) (all_cons r rs) = all_cons (f a q r) (all_both f qs rs)

pub all-to-map : {A B : Type 0} {R : B → Type 0} (f : A → B) {l : List A} → All (λ a. R (f a)) l → All R (map f l)
all-to-map f all_nil = all_nil
all-to-map f (all_cons r rs) = all_cons r (all-to-map f rs)

pub all_of_map : {A B : Type 0} {R : B → Type 0} (f : A → B) (l : List A) → All R (map f l) → All (λ a. R (f a)) l
all_of_map f [] all_nil = all_nil
all_of_map f (a ∷ l) (all_cons r rs) = all_cons r (all_of_map f l rs)

-- ---- looking up, membership
pub all_get_d : {A : Type 0} {Q : A → Type 0} {l : List A} → All Q l → (i : ℕ) (d : A) → i < length l → Q (get_or l i d)
all_get_d all_nil i d less = absurd (omega arith)
all_get_d (all_cons q qs) zero d less = q
all_get_d (all_cons q qs) (suc i) d less = all_get_d qs i d (omega arith)

pub all-at : {A : Type 0} {Q : A → Type 0} {l : List A} → All Q l → (i : ℕ) {a : A} → look l i ≡ some a → Q a
all-at all_nil i e = none-is-not-some e
all-at {Q} (all_cons q qs) zero e = subst Q (cc) q
all-at (all_cons q qs) (suc i) e = all-at qs i e

pub all-each : {A : Type 0} {Q : A → Type 0} (l : List A) → ((i : ℕ) (a : A) → look l i ≡ some a → Q a) → All Q l
all-each [] f = all_nil
all-each (a ∷ l) f = all_cons (f 0 a refl) (all-each l (λ i b e. f (suc i) b e))

pub all_in : {A : Type 0} {Q : A → Type 0} (l : List A) → ((a : A) → In a l → Q a) → All Q l
all_in [] f = all_nil
all_in (a ∷ l) f = all_cons (f a (in_head refl)) (all_in l (λ b i. f b (in_Tail i)))

pub all-member : {A : Type 0} {Q : A → Type 0} {l : List A} {a : A} → All Q l → In a l → Q a
all-member {Q} (all_cons x p) (in_head e) = rw e x
all-member (all_cons x p) (in_Tail i) = all-member p i
all-member {A = A} {Q = Q} {a = a} all_nil x3 = elim x3 [ ]
