-- What an answer of a pass or a read says, and how that goes through the steps of a pass: an accepted value satisfies Q, a refusal N.
use Rattle.std.specs.Prelude.{ℕ, List, Bool, ◌≡◌}
use Rattle.std.proofs.Math.Bool.{true, false}
use Rattle.std.proofs.Math.Option.{Option, none, some}
use Rattle.std.proofs.Math.Path.{refl}
use Rattle.std.proofs.Common.{subst, arith}
use Rattle.language.specs.Result.{Result, ok, no, bind, need, from, choose}
use Rattle.language.specs.Parser.{Read, got, bad, Parser, and_then, must, return, refuse, from_option}
use Rattle.theory.specs.Tests.{Whenever, w_some, w_none, whenever-is}

-- ---- answers
pub data Outcome {A : Type 0} (Q : A → Type 0) (N : ℕ → ℕ → Type 0) : Result A → Type 0 where
  accepted : {a : A} → Q a → Outcome Q N (ok a)
  refused : {n frame : ℕ} → N n frame → Outcome Q N (no n frame)

-- nothing is said of a refusal
abbrev pub Whatever : ℕ → ℕ → Type 0
Whatever n frame = Unit {0}

pub when-accepted : {A : Type 0} {Q : A → Type 0} {N : ℕ → ℕ → Type 0} {r : Result A} {a : A} → Outcome Q N r → r ≡ ok a → Q a
when-accepted {Q} (accepted q) e = subst Q (cc) q
when-accepted (refused x) e = absurd (let z : ◌≡◌ {A = ℕ} 0 1 = cc in omega arith)

pub when-refused : {A : Type 0} {Q : A → Type 0} {N : ℕ → ℕ → Type 0} {r : Result A} {n frame : ℕ} → Outcome Q N r → r ≡ no n frame → N n frame
when-refused (accepted q) e = absurd (let z : ◌≡◌ {A = ℕ} 0 1 = cc in omega arith)
when-refused {N} {n} (refused {n = m} {frame = f} x) e = subst (λ y. N n y) (cc) (subst (λ y. N y f) (cc) x)

pub outcome-map : {A : Type 0} {Q R : A → Type 0} {N : ℕ → ℕ → Type 0} {r : Result A} → ((a : A) → Q a → R a) → Outcome Q N r → Outcome R N r
outcome-map f (accepted {a} q) = accepted (f a q)
outcome-map f (refused x) = refused x

pub refusal-map : {A : Type 0} {Q : A → Type 0} {M N : ℕ → ℕ → Type 0} {r : Result A} → ((n frame : ℕ) → M n frame → N n frame) → Outcome Q M r → Outcome Q N r
refusal-map f (accepted q) = accepted q
refusal-map f (refused {n} {frame} x) = refused (f n frame x)

module _ {B : Type 0} {R : B → Type 0} {N : ℕ → ℕ → Type 0} where
  pub bind-outcome : {A : Type 0} {Q : A → Type 0} {r : Result A} {k : A → Result B} → Outcome Q N r → ((a : A) → r ≡ ok a → Q a → Outcome R N (k a)) → Outcome R N (bind r k)
  unfolding bind
  bind-outcome (accepted {a} q) f = f a refl q
  bind-outcome (refused x) f = refused x

  -- ---- a test, a value, a choice: whichever way it goes
  pub need-outcome : (b : Bool) (n frame : ℕ) {r : Result B} → (b ≡ false → N n frame) → (b ≡ true → Outcome R N r) → Outcome R N (need b n frame r)
  unfolding need
  need-outcome true n frame x f = f refl
  need-outcome false n frame x f = refused (x refl)

  pub from-outcome : {A : Type 0} (o : Option A) (n frame : ℕ) {k : A → Result B} → (o ≡ none → N n frame) → ((a : A) → o ≡ some a → Outcome R N (k a)) → Outcome R N (from o n frame k)
  unfolding from
  from-outcome (some a) n frame x f = f a refl
  from-outcome none n frame x f = refused (x refl)

  pub choose-outcome : (b : Bool) {r s : Result B} → (b ≡ true → Outcome R N r) → (b ≡ false → Outcome R N s) → Outcome R N (choose b r s)
  unfolding choose
  choose-outcome true f g = f refl
  choose-outcome false f g = g refl

  -- ---- the same where it is known which way it goes
  pub need-holds : {b : Bool} (n frame : ℕ) {r : Result B} → b ≡ true → Outcome R N r → Outcome R N (need b n frame r)
  unfolding need
  need-holds n frame e o = rw e o

  pub from-holds : {A : Type 0} {o : Option A} {a : A} (n frame : ℕ) (k : A → Result B) → o ≡ some a → Outcome R N (k a) → Outcome R N (from o n frame k)
  unfolding from
  from-holds n frame k e o = rw e o

  pub choose-first : {b : Bool} {r : Result B} (s : Result B) → b ≡ true → Outcome R N r → Outcome R N (choose b r s)
  unfolding choose
  choose-first s e o = rw e o

  pub choose-second : {b : Bool} (r : Result B) {s : Result B} → b ≡ false → Outcome R N s → Outcome R N (choose b r s)
  unfolding choose
  choose-second r e o = rw e o

-- ---- where nothing is said of a refusal
abbrev pub Sat : {A : Type 0} → (A → Type 0) → Result A → Type 0
Sat Q r = Outcome Q Whatever r

pub sat-ok : {A : Type 0} {Q : A → Type 0} {a : A} → Q a → Sat Q (ok a)
sat-ok q = accepted q

pub sat-no : {A : Type 0} {Q : A → Type 0} {n frame : ℕ} → Sat Q (no n frame)
sat-no = refused tt

pub sat-value : {A : Type 0} {Q : A → Type 0} {a : A} → Sat Q (ok a) → Q a
sat-value o = when-accepted o refl

pub sat-bind : {A B : Type 0} {Q : A → Type 0} {R : B → Type 0} {r : Result A} {k : A → Result B} → Sat Q r → ((a : A) → Q a → Sat R (k a)) → Sat R (bind r k)
sat-bind o f = bind-outcome o (λ a e q. f a q)

pub sat-need : {A : Type 0} {R : A → Type 0} (test : Bool) (n frame : ℕ) {r : Result A} → (test ≡ true → Sat R r) → Sat R (need test n frame r)
sat-need test n frame f = need-outcome test n frame (λ e. tt) f

pub sat-from : {A B : Type 0} {Q : A → Type 0} {R : B → Type 0} {o : Option A} (n frame : ℕ) {k : A → Result B} → Whenever Q o → ((a : A) → Q a → Sat R (k a)) → Sat R (from o n frame k)
sat-from {o} n frame w f = from-outcome o n frame (λ e. tt) (λ a e. f a (whenever-is w e))

-- ---- reads: a value and the bytes left
pub data Reads {A : Type 0} (Q : A → List ℕ → Type 0) : Read A → Type 0 where
  reads_got : {a : A} {rest : List ℕ} → Q a rest → Reads Q (got a rest)
  reads_bad : {n : ℕ} → Reads Q (bad n)

pub reads-map : {A : Type 0} {Q R : A → List ℕ → Type 0} {r : Read A} → ((a : A) (rest : List ℕ) → Q a rest → R a rest) → Reads Q r → Reads R r
reads-map f (reads_got {a} {rest} q) = reads_got (f a rest q)
reads-map f reads_bad = reads_bad

pub reads_then : {A B : Type 0} {Q : A → List ℕ → Type 0} {R : B → List ℕ → Type 0} {r : Read A} {k : A → Parser B} →
    Reads Q r → ((a : A) (rest : List ℕ) → Q a rest → Reads R (k a rest)) → Reads R (and_then r k)
unfolding and_then
reads_then (reads_got {a} {rest} q) f = f a rest q
reads_then reads_bad f = reads_bad

pub reads-refused : {A B : Type 0} {R : B → List ℕ → Type 0} (r : Read A) (n : ℕ) → Reads R (and_then r (λ a. refuse n))
unfolding and_then
reads-refused (got a rest) n = reads_bad
reads-refused (bad m) n = reads_bad

pub reads-must : {A : Type 0} {R : A → List ℕ → Type 0} (test : Bool) (n : ℕ) (a : A) (bs : List ℕ) → (test ≡ true → R a bs) → Reads R (must test n (return a) bs)
unfolding must
reads-must true n a bs f = reads_got (f refl)
reads-must false n a bs f = reads_bad

pub reads-option : {A : Type 0} {Q : A → Type 0} {R : A → List ℕ → Type 0} {o : Option A} (n : ℕ) (bs : List ℕ) → Whenever Q o → ((a : A) → Q a → R a bs) → Reads R (from_option o n bs)
unfolding from_option
reads-option n bs (w_some {a} q) f = reads_got (f a q)
reads-option n bs w_none f = reads_bad
