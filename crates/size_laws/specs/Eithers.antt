-- The larger of several numbers: nothing changes nothing, and the order of taking them does not matter.
use Rattle.std.specs.Prelude.{ℕ, ◌-◌, max, List, ◌∷◌, Bool, ◌≡◌, refl, length, leb}
use Rattle.std.proofs.Math.Bool.{true, false}
use Rattle.std.proofs.Common.{sym, arith}
use Rattle.language.specs.Result.{Result, ok, no, bind, choose}
use Rattle.language.specs.Syntax.{Constructor, Ty, owns, Expr, Exprs, econs, File}
use Rattle.language.specs.Estimate.{Estimate, nothing, either, with_slots}
use Rattle.language.specs.Splits.{splits}
use Rattle.language.specs.Typing.{Place as Stand}
use Rattle.language.specs.Checker.{Instance, Counted, Enter, at_splits, sized_branches}
use Rattle.size_laws.specs.Promises.{at_split_of, branch_at, one_branch}

max_none : (n : ℕ) → max 0 n ≡ n
max_none n = omega arith

max-last : (n : ℕ) → max n 0 ≡ n
max-last n = omega arith

max-three : (a b c : ℕ) → max a (max b c) ≡ max (max a b) c
max-three a b c = omega arith

pub either-none : (x : Estimate) → either nothing x ≡ x
either-none x = λ i. record { env = max_none x.env i; heap = max_none x.heap i; stack = max_none x.stack i }

pub either-last : (x : Estimate) → either x nothing ≡ x
either-last x = λ i. record { env = max-last x.env i; heap = max-last x.heap i; stack = max-last x.stack i }

pub either-three : (x y z : Estimate) → either x (either y z) ≡ either (either x y) z
either-three x y z = λ i. record { env = max-three x.env y.env z.env i; heap = max-three x.heap y.heap z.heap i; stack = max-three x.stack y.stack z.stack i }

-- ---- an answer, and numbers found before it
abbrev pub joined : Estimate → Counted → Result Counted
joined x r = ok (record { numbers = either x r.numbers; list = r.list })

pub joined-none : (a : Result Counted) → a ≡ bind a (joined nothing)
unfolding bind
joined-none (ok r) = sym (λ i. ok (record { numbers = either-none r.numbers i; list = r.list }))
joined-none (no n frame) = refl

pub joined-twice : (x y : Estimate) (a : Result Counted) → bind (bind a (joined y)) (joined x) ≡ bind a (joined (either x y))
unfolding bind
joined-twice x y (ok r) = λ i. ok (record { numbers = either-three x y r.numbers i; list = r.list })
joined-twice x y (no n frame) = refl

-- ---- a branch, and those behind it
slots-then : (n : ℕ) (a : Result Counted) (κ : Counted → Result Counted) →
    bind a (λ q. κ (record { numbers = with_slots n q.numbers; list = q.list })) ≡ bind (bind a (λ q. ok (record { numbers = with_slots n q.numbers; list = q.list }))) κ
unfolding bind
slots-then n (ok q) κ = refl
slots-then n (no m frame) κ = refl

module _ (P : File) (enter : Enter) where
  pub branches-then : (e : Expr) (es : Exprs) (fs : Constructor) (cs : List Constructor) (q : Stand) (Γ : List Ty) (Δ : List ℕ) (t m : ℕ) (τ : Ty) (L : List Instance) →
      sized_branches P enter (econs e es) (fs ∷ cs) q Γ Δ t m τ L ≡ bind (one_branch P enter e fs q Γ Δ t m τ L) (λ x. bind (sized_branches P enter es cs q Γ Δ t m τ x.list) (joined x.numbers))
  unfolding sized_branches bind choose
  branches-then e es fs cs q Γ Δ t m τ L = go (leb m (owns fs))
    where
      go : (skipped : Bool) →
          choose skipped (sized_branches P enter es cs q Γ Δ t m τ L) (bind (at_splits (splits (owns fs) (m - 1)) (at_split_of P enter e fs q Γ Δ t τ) L) (λ x. bind (sized_branches P enter es cs q Γ Δ t m τ x.list) (joined (with_slots (length fs) x.numbers))))
          ≡ bind (choose skipped (ok (record { numbers = nothing; list = L })) (branch_at P enter e fs q Γ Δ t τ (splits (owns fs) (m - 1)) L)) (λ x. bind (sized_branches P enter es cs q Γ Δ t m τ x.list) (joined x.numbers))
      go true = joined-none (sized_branches P enter es cs q Γ Δ t m τ L)
      go false = slots-then (length fs) (at_splits (splits (owns fs) (m - 1)) (at_split_of P enter e fs q Γ Δ t τ) L) (λ x. bind (sized_branches P enter es cs q Γ Δ t m τ x.list) (joined x.numbers))
