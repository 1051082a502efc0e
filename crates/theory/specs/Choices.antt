-- Cases by a test; laws of one_of and choose: one of two tests, one of two answers.
use Rattle.std.specs.Prelude.{ℕ, [], ◌∷◌, map, Bool, true, false, ◌≡◌, refl}
use Rattle.std.proofs.Math.Option.{Option}
use Rattle.language.specs.Result.{one_of, choose}
use Rattle.theory.specs.Tests.{Whenever}

-- ---- a test holds or fails
pub by-test : {X : Type 0} (b : Bool) → (b ≡ true → X) → (b ≡ false → X) → X
by-test true f g = f refl
by-test false f g = g refl

-- ---- one of two tests
pub one_left : {a : Bool} (b : Bool) → a ≡ true → one_of a b ≡ true
unfolding one_of
one_left b e = rw e

pub one_right : (a : Bool) {b : Bool} → b ≡ true → one_of a b ≡ true
unfolding one_of
one_right true e = refl
one_right false e = e

pub one_none : (a : Bool) → one_of a false ≡ a
unfolding one_of
one_none true = refl
one_none false = refl

pub one-cases : {X : Type 0} (a b : Bool) → one_of a b ≡ true → (a ≡ true → X) → (b ≡ true → X) → X
unfolding one_of
one-cases true b e f g = f refl
one-cases false b e f g = g e

-- ---- one of two answers
pub whenever-choose : {A : Type 0} {Q : A → Type 0} (b : Bool) {x y : Option A} → (b ≡ true → Whenever Q x) → (b ≡ false → Whenever Q y) → Whenever Q (choose b x y)
unfolding choose
whenever-choose true f g = f refl
whenever-choose false f g = g refl

pub map-chosen : {B : Type 0} (f : ℕ → B) (b : Bool) (n : ℕ) → map f (choose b (n ∷ []) []) ≡ choose b (f n ∷ []) []
unfolding choose
map-chosen f true n = refl
map-chosen f false n = refl
