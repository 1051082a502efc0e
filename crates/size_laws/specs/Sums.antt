-- Numbers one after the other: from the left or from the right. And what follows a part in two steps.
use Rattle.std.specs.Prelude.{ℕ, ◌+◌, max, ◌≡◌, refl}
use mathlib.Core.List.{List, [], ◌∷◌, ◌++◌, append_assoc, append-nil}
use Rattle.std.proofs.Math.Path.{sym}
use Rattle.std.proofs.Common.{arith}
use Rattle.language.specs.Result.{Result, ok, no, bind}
use Rattle.language.specs.Syntax.{Ty, Expr, Exprs, enil, econs, File}
use Rattle.language.specs.Estimate.{Estimate, nothing, after}
use Rattle.language.specs.Typing.{Place as Stand}
use Rattle.language.specs.Checker.{Instance, Sized, Sizeds, Enter, sized, sizeds}

pub after-after : (x y z : Estimate) → after (after x y) z ≡ after x (after y z)
after-after x y z =
    let env : max (max x.env y.env) z.env ≡ max x.env (max y.env z.env) = omega arith in
    let heap : (x.heap + y.heap) + z.heap ≡ x.heap + (y.heap + z.heap) = omega arith in
    let stack : max (max x.stack y.stack) z.stack ≡ max x.stack (max y.stack z.stack) = omega arith in
    λ i. record { env = env i; heap = heap i; stack = stack i }

pub after_none : (x : Estimate) → x ≡ after x nothing
after_none x =
    let env : x.env ≡ max x.env 0 = omega arith in
    let heap : x.heap ≡ x.heap + 0 = omega arith in
    let stack : x.stack ≡ max x.stack 0 = omega arith in
    λ i. record { env = env i; heap = heap i; stack = stack i }

none_after : (x : Estimate) → x ≡ after nothing x
none_after x =
    let env : x.env ≡ max 0 x.env = omega arith in
    let heap : x.heap ≡ 0 + x.heap = omega arith in
    let stack : x.stack ≡ max 0 x.stack = omega arith in
    λ i. record { env = env i; heap = heap i; stack = stack i }

-- ---- what follows a part may be followed in two steps
pub through : {A B D : Type 0} (a : Result A) (κ : A → Result D) (step : A → Result B) (f : B → Result D) → ((q : A) → κ q ≡ bind (step q) f) → bind a κ ≡ bind (bind a step) f
unfolding bind
through (ok q) κ step f h = h q
through (no n frame) κ step f h = refl

-- ---- several parts: those so far, and those behind them
abbrev pub and_then : Sizeds → Sizeds → Sizeds
and_then xs ys = record { types = xs.types ++ ys.types; numbers = after xs.numbers ys.numbers; list = ys.list }

abbrev pub the_none_of : List Instance → Sizeds
the_none_of L = record { types = []; numbers = nothing; list = L }

abbrev pub and_one : Sizeds → Sized → Sizeds
and_one xs x = record { types = xs.types ++ (x.type ∷ []); numbers = after xs.numbers x.numbers; list = x.list }

pub none_then : (L : List Instance) (a : Result Sizeds) → a ≡ bind a (λ ys. ok (and_then (the_none_of L) ys))
unfolding bind
none_then L (ok ys) = λ i. ok (record { types = ys.types; numbers = none_after ys.numbers i; list = ys.list })
none_then L (no n frame) = refl

module _ (P : File) (enter : Enter) (q : Stand) (Γ : List Ty) (Δ : List ℕ) (xs : Sizeds) where
  pub then-none : bind (sizeds P enter enil q Γ Δ xs.list) (λ ys. ok (and_then xs ys)) ≡ ok xs
  unfolding sizeds bind
  then-none = λ i. ok (record { types = append-nil xs.types i; numbers = sym (after_none xs.numbers) i; list = xs.list })

  pub then-more : (e : Expr) (es : Exprs) →
      bind (sizeds P enter (econs e es) q Γ Δ xs.list) (λ ys. ok (and_then xs ys)) ≡ bind (sized P enter e q Γ Δ xs.list) (λ x. bind (sizeds P enter es q Γ Δ x.list) (λ ys. ok (and_then (and_one xs x) ys)))
  unfolding sizeds bind
  then-more e es = sym (through (sized P enter e q Γ Δ xs.list) (λ (x : Sized). bind (sizeds P enter es q Γ Δ x.list) (λ ys. ok (and_then (and_one xs x) ys)))
      (λ (x : Sized). bind (sizeds P enter es q Γ Δ x.list) (λ (ys : Sizeds). ok (one_before x ys))) (λ ys. ok (and_then xs ys))
      (λ x. through (sizeds P enter es q Γ Δ x.list) (λ ys. ok (and_then (and_one xs x) ys)) (λ (ys : Sizeds). ok (one_before x ys)) (λ ys. ok (and_then xs ys))
      (λ ys i. ok (record { types = append_assoc xs.types (x.type ∷ []) ys.types i; numbers = after-after xs.numbers x.numbers ys.numbers i; list = ys.list }))))
    where
      one_before : Sized → Sizeds → Sizeds
      one_before x ys = record { types = x.type ∷ ys.types; numbers = after x.numbers ys.numbers; list = ys.list }
