-- The list of instances while the checker works: which of its records are finished, which are in progress, and how it grows.
-- An instance in progress is never looked up.
use Rattle.std.specs.Prelude.{ℕ, suc, ◌+◌, ◌≤◌, ◌<◌, Bool, true, false, ◌≡◌, refl, length, set, eqb}
use mathlib.Core.List.Memᴰ.{append_left as in_left}
use mathlib.Core.List.Memᴰ.{append_right as in_right}
use mathlib.Core.List.Memᴰ.{head as in_head}
use mathlib.Core.List.Memᴰ.{tail as in_Tail}
use mathlib.Core.List.{List, [], ◌∷◌, ◌++◌, append_assoc, append-nil, Memᴰ as In}
use Rattle.std.proofs.Math.Option.{Option, none, some}
use Rattle.std.proofs.Common.{sym, ap, ◌∙◌, subst, arith, length-append, length-set, ltb-true, eqb-true, eq-eqb}
use Rattle.std.proofs.Math.ListN.{get_elem? as look}
use Rattle.std.proofs.Math.Seq.{set-append_seam}
use Rattle.std.proofs.lemmas.Bool.{eqb-false}
use Rattle.language.specs.Result.{both, choose}
use Rattle.language.specs.Syntax.{Function, File}
use Rattle.language.specs.Sizes.{summed_measure, same_sizes}
use Rattle.language.specs.Estimate.{Estimate, nothing}
use Rattle.language.specs.Typing.{Place, inside, falls}
use Rattle.language.specs.Checker.{Instance, find}
use Rattle.language.specs.Within.{All, all_nil, all_cons}
use Rattle.theory.specs.Lists.{none-is-not-some, both_left, both_right, both_true}
use Rattle.theory.specs.SameTests.{same-sizes, sizes-same}
use Rattle.theory.specs.Alls.{all_append, all_map, all-member}
use Rattle.theory.specs.Different.{Distinct, distinct_nil, distinct_append}
use Rattle.theory.specs.Calls.{Allowed}
use Rattle.theory.specs.Instances.{Key, key, entered, key_of, keys_of}

-- ---- what is in progress
-- an instance in progress at a place: of a later function, or of the same one at no smaller measure
pub data Over (P : File) (r : Instance) : Place → Type 0 where
  over_later : {f v : ℕ} → f < r.function → Over P r (inside f v)
  over_same : {f v : ℕ} {F : Function} → look P.functions r.function ≡ some F → r.function ≡ f → v ≤ summed_measure F.measure r.sizes → Over P r (inside f v)

-- a record of the list at a place: finished, as D says, or in progress
pub data Known (P : File) (D : Instance → Type 0) (p : Place) (r : Instance) : Type 0 where
  finished : D r → Known P D p r
  in_progress : Over P r p → Known P D p r

pub known_map : {P : File} {D E : Instance → Type 0} {p q : Place} {r : Instance} → (D r → E r) → (Over P r p → Over P r q) → Known P D p r → Known P E q r
known_map f g (finished d) = finished (f d)
known_map f g (in_progress o) = in_progress (g o)

falls-less : (f v g w : ℕ) → falls (inside f v) g w ≡ true → f ≡ g → w < v
unfolding falls choose
falls-less f v g w e same = ltb-true w v (rw (eq-eqb f g same) at e)

-- what is in progress lies strictly over every instance that may be called: over (g, w) strictly is over (g, w + 1)
over-called : {P : File} {r : Instance} {p : Place} (g w : ℕ) → Allowed p g → falls p g w ≡ true → Over P r p → Over P r (inside g (suc w))
over-called g w a e (over_later less) = over_later {f = g} (omega arith)
over-called {P} {r} g w a e (over_same {f} {v} l same le) = go (eqb f g) refl
  where
    go : (b : Bool) → eqb f g ≡ b → Over P r (inside g (suc w))
    go true q = let z : f ≡ g = eqb-true f g q in over_same {v = suc w} l (same ∙ z) (omega (arith, falls-less f v g w e z))
    go false q = over_later {f = g} (let ne : f ≡ g → ⊥ = eqb-false f g q in omega arith)

-- so an instance in progress is not the one called
pub called-not-in-progress : {P : File} {F : Function} {r : Instance} {g : ℕ} {ks : List ℕ} →
    look P.functions g ≡ some F → r.function ≡ g → r.sizes ≡ ks → Over P r (inside g (suc (summed_measure F.measure ks))) → ⊥
called-not-in-progress l p q (over_later less) = omega arith
called-not-in-progress {F} {r} {ks} l p q (over_same {F = G} i same le) =
    let z : G ≡ F = cc in
    let y : summed_measure G.measure r.sizes ≡ summed_measure F.measure ks = rw (z, q) in
    omega arith

-- ---- the list as a whole
-- nothing is asked of the instances
abbrev pub AnyKey : Key → Type 0
AnyKey k = Unit {0}

-- each instance stands once; there are at most most; they are wanted; where no more may be entered there are as many as most
pub record Tidy (K : Key → Type 0) (most left : ℕ) (L : List Instance) : Type 0 where
  pub once : Distinct (keys_of L)
  pub few : length L ≤ most
  pub fuel : most ≤ length L + left
  pub wanted : All K (keys_of L)

-- the checker runs out of instances left only where the list is full
pub none-left-is-full : {K : Key → Type 0} {most : ℕ} {L : List Instance} → Tidy K most 0 L → most ≤ length L
none-left-is-full t = omega (arith, t.fuel)

-- the list as the checker may meet it at a place; what D says of a finished record may depend on the list
pub record Ready (P : File) (D : List Instance → Instance → Type 0) (K : Key → Type 0) (most left : ℕ) (p : Place) (L : List Instance) : Type 0 where
  pub known : All (Known P (D L) p) L
  pub tidy : Tidy K most left L

-- a list that has grown by finished instances
pub record Grown (D : List Instance → Instance → Type 0) (K : Key → Type 0) (most left : ℕ) (L M : List Instance) : Type 0 where
  pub more : List Instance
  pub is : M ≡ L ++ more
  pub added : All (D M) more
  pub kept : (r : Instance) → D L r → D M r
  pub tidy : Tidy K most left M

-- what is said of a finished record stays true while the list keeps its instances
pub record Lasting (D : List Instance → Instance → Type 0) : Type 0 where
  pub lasts : (L M : List Instance) → ((k : Key) → In k (keys_of L) → In k (keys_of M)) → (r : Instance) → D L r → D M r

-- ---- keys of lists
keys-append : (L M : List Instance) → keys_of (L ++ M) ≡ keys_of L ++ keys_of M
keys-append [] M = refl
keys-append (r ∷ L) M = ap (λ l. key_of r ∷ l) (keys-append L M)

keys-left : {k : Key} (L M : List Instance) → In k (keys_of L) → In k (keys_of (L ++ M))
keys-left L M i = rw (keys-append L M) (in_left (keys_of M) i)

pub grown-keys : {D : List Instance → Instance → Type 0} {K : Key → Type 0} {most left : ℕ} {L M : List Instance} → Grown D K most left L M → (k : Key) → In k (keys_of L) → In k (keys_of M)
grown-keys {L} g k i = subst (λ N. In k (keys_of N)) (sym g.is) (keys-left L g.more i)

pub key-stands : {r : Instance} {L : List Instance} → In r L → In (key_of r) (keys_of L)
key-stands (in_head e) = in_head (ap key_of e)
key-stands (in_Tail i) = in_Tail (key-stands i)

-- ---- growing
pub grown-not : {D : List Instance → Instance → Type 0} {K : Key → Type 0} {most left : ℕ} {L : List Instance} → Tidy K most left L → Grown D K most left L L
grown-not {L} t = record { more = []; is = sym (append-nil L); added = all_nil; kept = λ r d. d; tidy = t }

pub grown-then : {D : List Instance → Instance → Type 0} {K : Key → Type 0} {most left : ℕ} {L M N : List Instance} → Grown D K most left L M → Grown D K most left M N →
    Grown D K most left L N
grown-then {L} g h = record {
  more = g.more ++ h.more;
  is = h.is ∙ ap (λ l. l ++ h.more) g.is ∙ append_assoc L g.more h.more;
  added = all_append (all_map h.kept g.added) h.added;
  kept = λ r d. h.kept r (g.kept r d);
  tidy = h.tidy;
}

module _ {P : File} {D : List Instance → Instance → Type 0} {K : Key → Type 0} {most left : ℕ} where
  pub ready-grown : {p : Place} {L M : List Instance} → Grown D K most left L M → Ready P D K most left p L → Ready P D K most left p M
  ready-grown {p} {M} g rd = record { known = subst (λ N. All (Known P (D M) p) N) (sym g.is) (all_append (all_map (λ r. known_map (g.kept r) (λ o. o)) rd.known) (all_map (λ r d. finished d) g.added)); tidy = g.tidy }

  -- ---- a call
  pub ready-called : {p : Place} {L : List Instance} (g w : ℕ) → Allowed p g → falls p g w ≡ true → Ready P D K most left p L → Ready P D K most left (inside g (suc w)) L
  ready-called g w a e rd = record { known = all_map (λ r. known_map (λ d. d) (over-called g w a e)) rd.known; tidy = rd.tidy }

-- ---- looking up
pub found-stands : {n : Estimate} (g : ℕ) (ks : List ℕ) (L : List Instance) → find L g ks ≡ some n → In (entered g ks n) L
unfolding find
found-stands g ks [] e = none-is-not-some e
found-stands {n} g ks (r ∷ L) e = go (both (eqb r.function g) (same_sizes r.sizes ks)) refl e (found-stands g ks L)
  where
    go : (b : Bool) → both (eqb r.function g) (same_sizes r.sizes ks) ≡ b → elim b as (λ x. Option Estimate) [ true ↦ some r.numbers | false ↦ find L g ks ] ≡ some n →
        (find L g ks ≡ some n → In (entered g ks n) L) → In (entered g ks n) (r ∷ L)
    go true b e f =
        let same : r.numbers ≡ n = cc in
        in_head (sym (λ i. entered (eqb-true r.function g (both_left _ _ b) i) (same-sizes r.sizes ks (both_right _ _ b) i) (same i)))
    go false b e f = in_Tail (f e)

pub not-found-is-new : (g : ℕ) (ks : List ℕ) (L : List Instance) → find L g ks ≡ none → In (key g ks) (keys_of L) → ⊥
unfolding find
not-found-is-new g ks (r ∷ L) e (in_head i) =
    let same : both (eqb r.function g) (same_sizes r.sizes ks) ≡ true = both_true (eq-eqb r.function g (ap (λ (k : Key). k.function) (sym i))) (sizes-same (ap (λ (k : Key). k.sizes) (sym i))) in
    none-is-not-some (sym (rw (same, find) at e))
not-found-is-new g ks (r ∷ L) e (in_Tail i) = go (both (eqb r.function g) (same_sizes r.sizes ks)) e (not-found-is-new g ks L)
  where
    go : (b : Bool) → ◌≡◌ {A = Option Estimate} (elim b [ true ↦ some r.numbers | false ↦ find L g ks ]) none → (find L g ks ≡ none → In (key g ks) (keys_of L) → ⊥) → ⊥
    go true e f = none-is-not-some (sym e)
    go false e f = f e i
not-found-is-new g ks [] e x'' = elim x'' [ ]

-- An instance being checked is never looked up: what a call finds is finished.
pub found-is-finished : {P : File} {D : Instance → Type 0} {F : Function} {n : Estimate} (g : ℕ) (ks : List ℕ) (L : List Instance) →
    look P.functions g ≡ some F → All (Known P D (inside g (suc (summed_measure F.measure ks)))) L → find L g ks ≡ some n → D (entered g ks n)
found-is-finished {P} {D} {F} {n} g ks L l known e = go (all-member known (found-stands g ks L e))
  where
    go : Known P D (inside g (suc (summed_measure F.measure ks))) (entered g ks n) → D (entered g ks n)
    go (finished d) = d
    go (in_progress o) = absurd (called-not-in-progress l refl refl o)

-- ---- entering a body: a record more, in progress; and leaving it: the record is filled in
module _ {P : File} {D : List Instance → Instance → Type 0} {K : Key → Type 0} {most left : ℕ} (lasting : Lasting D) where
  pub ready-entered : {F : Function} {L : List Instance} (g : ℕ) (ks : List ℕ) → look P.functions g ≡ some F → find L g ks ≡ none → length L < most → K (key g ks) →
      Ready P D K most (suc left) (inside g (suc (summed_measure F.measure ks))) L → Ready P D K most left (inside g (summed_measure F.measure ks)) (L ++ (entered g ks nothing ∷ []))
  ready-entered {F} {L} g ks l new less wanted rd = record {
    known = all_append (all_map (λ r. known_map (lasting.lasts L M (λ k. keys-left L (this ∷ [])) r) down) rd.known) (all_cons (in_progress (over_same l refl (omega arith))) all_nil);
    tidy = record {
      once = rw (keys-append L (this ∷ [])) (distinct_append rd.tidy.once (not-found-is-new g ks L new));
      few = omega (arith, length-append L (this ∷ []));
      fuel = omega (arith, length-append L (this ∷ []), rd.tidy.fuel);
      wanted = rw (keys-append L (this ∷ [])) (all_append rd.tidy.wanted (all_cons wanted all_nil));
    };
  }
    where
      this : Instance
      this = entered g ks nothing

      M : List Instance
      M = L ++ (this ∷ [])

      down : {r : Instance} → Over P r (inside g (suc (summed_measure F.measure ks))) → Over P r (inside g (summed_measure F.measure ks))
      down (over_later less) = over_later less
      down (over_same e s le) = over_same {v = summed_measure F.measure ks} e s (omega arith)

-- leaving a body: its record, the one after L, gets its numbers
record Filled (L M more : List Instance) (s : Instance) : Type 0 where
  is : set M (length L) s ≡ L ++ (s ∷ more)
  keys : keys_of (set M (length L) s) ≡ keys_of M

filled : {M more : List Instance} (L : List Instance) (r s : Instance) → key_of s ≡ key_of r → M ≡ (L ++ (r ∷ [])) ++ more → Filled L M more s
filled {M} {more} L r s same e = record {
  is = set_is;
  keys = ap keys_of set_is ∙ keys-append L (s ∷ more) ∙ ap (λ k. keys_of L ++ (k ∷ keys_of more)) same ∙ sym (keys-append L (r ∷ more)) ∙ ap keys_of (sym was);
}
  where
    was : M ≡ L ++ (r ∷ more)
    was = e ∙ append_assoc L (r ∷ []) more

    set_is : set M (length L) s ≡ L ++ (s ∷ more)
    set_is = ap (λ m. set m (length L) s) was ∙ set-append_seam L r more s

module _ {D : List Instance → Instance → Type 0} {K : Key → Type 0} {most left : ℕ} {M : List Instance} (L : List Instance) (r s : Instance) (same : key_of s ≡ key_of r) (g : Grown D K most left (L ++ (r ∷ [])) M) where
  pub left-keys : keys_of (set M (length L) s) ≡ keys_of M
  left-keys = (filled L r s same g.is).keys

  pub left_is : set M (length L) s ≡ L ++ (s ∷ g.more)
  left_is = (filled L r s same g.is).is

  pub left-stands : In (key_of r) (keys_of M)
  left-stands = grown-keys g (key_of r) (rw (keys-append L (r ∷ [])) (in_right (keys_of L) (in_head refl)))

  pub grown-left : Lasting D → D (set M (length L) s) s → Grown D K most (suc left) L (set M (length L) s)
  grown-left lasting d = record {
    more = s ∷ g.more;
    is = new.is;
    added = all_cons d (all_map (lasting.lasts M N (λ k. subst (In k) (sym new.keys))) g.added);
    kept = lasting.lasts L N (λ k i. subst (λ l. In k (keys_of l)) (sym new.is) (keys-left L (s ∷ g.more) i));
    tidy = record {
      once = rw new.keys g.tidy.once;
      few = omega (arith, length-set M (length L) s, g.tidy.few);
      fuel = omega (arith, length-set M (length L) s, g.tidy.fuel);
      wanted = rw new.keys g.tidy.wanted;
    };
  }
    where
      N : List Instance
      N = set M (length L) s

      new : Filled L M g.more s
      new = filled L r s same g.is

-- ---- between channels no instance is in progress
pub record Settled (D : List Instance → Instance → Type 0) (K : Key → Type 0) (most left : ℕ) (L : List Instance) : Type 0 where
  pub all : All (D L) L
  pub tidy : Tidy K most left L

module _ {D : List Instance → Instance → Type 0} {K : Key → Type 0} {most : ℕ} where
  pub settled-start : Settled D K most most []
  settled-start = record { all = all_nil; tidy = record { once = distinct_nil; few = omega arith; fuel = omega arith; wanted = all_nil } }

  pub ready-settled : {P : File} {p : Place} {left : ℕ} {L : List Instance} → Settled D K most left L → Ready P D K most left p L
  ready-settled s = record { known = all_map (λ r d. finished d) s.all; tidy = s.tidy }

  pub settled-grown : {left : ℕ} {L M : List Instance} → Grown D K most left L M → Settled D K most left L → Settled D K most left M
  settled-grown {M} g s = record { all = subst (All (D M)) (sym g.is) (all_append (all_map g.kept s.all) g.added); tidy = g.tidy }
