-- What a test that passed, or a partial answer that exists, says of its parts: laws of chain, when and choose, of needEach. The first
-- test that fails by its frame, and the refusal there.
use Prim.Native.Nat.{ℕ, zero, suc, ◌+◌, ◌<◌}
use mathlib.Core.List.{List, [], ◌∷◌}
use Rattle.std.specs.Prelude.{Bool, false, ◌≡◌, length}
use Rattle.std.proofs.Math.Bool.{true}
use Rattle.std.proofs.Math.Option.{Option, none, some}
use Rattle.std.proofs.Math.Path.{refl, ap}
use Rattle.std.proofs.Common.{sym, ◌∙◌, add-zero}
use native.Mathlib.Omega.{arith}
use Rattle.std.proofs.Math.ListN.{get_or}
use Rattle.language.specs.Result.{Result, ok, no, need, when, choose, chain, need_each}
use Rattle.language.specs.Within.{All, all_nil, all_cons}
use Rattle.theory.specs.Lists.{none-is-not-some, false-is-not-true}

pub no_ok : {A : Type 0} {n frame : ℕ} {a : A} → no n frame ≡ ok a → ⊥
no_ok e = let z : ◌≡◌ {A = ℕ} 0 1 = cc in omega arith

-- ---- partial answers: Whenever Q o says that the answer o, if there is one, satisfies Q
pub data Whenever {A : Type 0} (Q : A → Type 0) : Option A → Type 0 where
  w_some : {a : A} → Q a → Whenever Q (some a)
  w_none : Whenever Q none

pub whenever : {A : Type 0} (o : Option A) → Whenever (λ a. o ≡ some a) o
whenever (some a) = w_some refl
whenever none = w_none

pub whenever-map : {A : Type 0} {Q R : A → Type 0} {o : Option A} → ((a : A) → Q a → R a) → Whenever Q o → Whenever R o
whenever-map f (w_some {a} q) = w_some (f a q)
whenever-map f w_none = w_none

pub whenever-chain : {A B : Type 0} {Q : A → Type 0} {R : B → Type 0} {o : Option A} {k : A → Option B} → Whenever Q o → ((a : A) → Q a → Whenever R (k a)) → Whenever R (chain o k)
unfolding chain
whenever-chain (w_some {a} q) f = f a q
whenever-chain w_none f = w_none

pub whenever-when : {A : Type 0} {R : A → Type 0} (b : Bool) (a : A) → (b ≡ true → R a) → Whenever R (when b a)
unfolding when
whenever-when true a f = w_some (f refl)
whenever-when false a f = w_none

pub whenever-choose : {A : Type 0} {Q : A → Type 0} (b : Bool) {o p : Option A} → Whenever Q o → Whenever Q p → Whenever Q (choose b o p)
unfolding choose
whenever-choose true v w = v
whenever-choose false v w = w

pub whenever-is : {A : Type 0} {Q : A → Type 0} {o : Option A} {a : A} → Whenever Q o → o ≡ some a → Q a
whenever-is {Q} {a} (w_some {a = c} q) e = let z : c ≡ a = cc in rw z at q
whenever-is w_none e = none-is-not-some e

-- ---- tests one after the other: every one holds
abbrev pub AllTrue : List Bool → Type 0
AllTrue bs = All (λ b. b ≡ true) bs

pub need-test : {A : Type 0} (b : Bool) (n frame : ℕ) (r : Result A) {a : A} → need b n frame r ≡ ok a → b ≡ true
unfolding need
need-test true n frame r e = refl
need-test false n frame r e = absurd (no_ok e)

pub need-rest : {A : Type 0} (b : Bool) (n frame : ℕ) (r : Result A) {a : A} → need b n frame r ≡ ok a → r ≡ ok a
unfolding need
need-rest true n frame r e = e
need-rest false n frame r e = absurd (no_ok e)

pub each-test : {A : Type 0} (n frame : ℕ) (bs : List Bool) (r : Result A) {a : A} → need_each n frame bs r ≡ ok a → AllTrue bs
unfolding need_each
each-test n frame [] r e = all_nil
each-test n frame (b ∷ bs) r e = all_cons (need-test b n frame _ e) (each-test n (suc frame) bs r (need-rest b n frame _ e))

pub each-rest : {A : Type 0} (n frame : ℕ) (bs : List Bool) (r : Result A) {a : A} → need_each n frame bs r ≡ ok a → r ≡ ok a
unfolding need_each
each-rest n frame [] r e = e
each-rest n frame (b ∷ bs) r e = each-rest n (suc frame) bs r (need-rest b n frame _ e)

pub each-passes : {A : Type 0} (n frame : ℕ) {bs : List Bool} (r : Result A) → AllTrue bs → need_each n frame bs r ≡ r
unfolding need_each need
each-passes n frame r all_nil = refl
each-passes n frame r (all_cons e p) = rw e (each-passes n (suc frame) r p)

-- all of them hold, or one is the first that fails
module _ {A : Type 0} (n : ℕ) (r : Result A) where
  pub data FirstFails (frame : ℕ) (bs : List Bool) : Type 0 where
    passes : AllTrue bs → need_each n frame bs r ≡ r → FirstFails frame bs
    fails : (i : ℕ) → i < length bs → get_or bs i true ≡ false → ((k : ℕ) → k < i → get_or bs k true ≡ true) → need_each n frame bs r ≡ no n (frame + i) → FirstFails frame bs

  pub first-fails : (frame : ℕ) (bs : List Bool) → FirstFails frame bs
  unfolding need_each need
  first-fails frame [] = passes all_nil refl
  first-fails frame (false ∷ bs) = fails 0 (omega arith) refl (λ k less. absurd (omega arith)) (rw add-zero)
  first-fails frame (true ∷ bs) = behind (first-fails (suc frame) bs)
    where
      behind : FirstFails (suc frame) bs → FirstFails frame (true ∷ bs)
      behind (passes all e) = passes (all_cons refl all) e
      behind (fails i less at before e) = fails (suc i) (omega arith) at (λ k. earlier k) (let place : suc frame + i ≡ frame + suc i = omega arith in e ∙ ap (no n) place)
        where
          earlier : (k : ℕ) → k < suc i → get_or (true ∷ bs) k true ≡ true
          earlier zero less = refl
          earlier (suc k) less = before k (omega arith)

-- ---- the first that fails, by its frame
-- the number of the first that fails, counted from the first's; 0 where none does
unfoldable pub first_refused : ℕ → List Bool → ℕ
first_refused frame [] = 0
first_refused frame (b ∷ bs) = choose b (first_refused (suc frame) bs) frame

pub first-none : (frame : ℕ) (bs : List Bool) → ((j : ℕ) → j < length bs → get_or bs j true ≡ true) → first_refused frame bs ≡ 0
unfolding first_refused choose
first-none frame [] h = refl
first-none frame (b ∷ bs) h = rw (h 0 (omega arith)) (first-none (suc frame) bs (λ j less. h (suc j) (omega (arith, less))))

pub first-at : (frame : ℕ) (bs : List Bool) (i : ℕ) → ((j : ℕ) → j < i → get_or bs j true ≡ true) → get_or bs i true ≡ false → first_refused frame bs ≡ frame + i
unfolding first_refused choose
first-at frame [] i h e = false-is-not-true (sym e)
first-at frame (b ∷ bs) zero h e = rw e (omega arith)
first-at frame (b ∷ bs) (suc i) h e = rw (h 0 (omega arith)) (first-at (suc frame) bs i (λ j less. h (suc j) (omega (arith, less))) e ∙ omega arith)

-- refusal n at a frame; it goes on where the frame is 0
unfoldable pub verdict : {A : Type 0} → ℕ → ℕ → Result A → Result A
verdict n zero x = x
verdict n (suc frame) x = no n (suc frame)

pub verdict-refused : {A : Type 0} (n frame : ℕ) (x : Result A) → (frame ≡ 0 → ⊥) → verdict n frame x ≡ no n frame
unfolding verdict
verdict-refused n zero x named = absurd (named refl)
verdict-refused n (suc frame) x named = refl

-- tests one after the other are the verdict on the first frame that fails
pub each-verdict : {A : Type 0} (n frame : ℕ) (bs : List Bool) (x : Result A) → need_each n (suc frame) bs x ≡ verdict n (first_refused (suc frame) bs) x
unfolding need_each need first_refused choose verdict
each-verdict n frame [] x = refl
each-verdict n frame (true ∷ bs) x = each-verdict n (suc frame) bs x
each-verdict n frame (false ∷ bs) x = refl
