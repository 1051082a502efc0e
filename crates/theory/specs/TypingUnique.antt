-- The types and numbers that figures 5 to 7 derive are unique, in every file whose functions call only earlier ones and themselves.
use Rattle.std.specs.Prelude.{ℕ, ◌≡◌, refl, length}
use mathlib.Core.List.{List, [], Memᴰ as In}
use Rattle.std.proofs.Common.{sym, ◌∙◌, arith}
use Rattle.language.specs.Result.{Result, ok, no}
use Rattle.language.specs.Syntax.{Ty, Expr, Node, File}
use Rattle.language.specs.Estimate.{Estimate}
use Rattle.language.specs.Typing.{Place, Typing, Updates, c_last, c_node, WellSized}
use Rattle.language.specs.Checker.{Sized, sized, enter_at}
use Rattle.language.specs.Within.{Within}
use Rattle.theory.specs.Alls.{all_in}
use Rattle.theory.specs.Outcomes.{Outcome, accepted, refused, when-accepted}
use Rattle.theory.specs.Different.{not-more-and-at-most}
use Rattle.theory.specs.Calls.{Calls, Allowed, Ordered, calls-anything, within-ordered}
use Rattle.language.specs.Instances.{instances_of}
use Rattle.theory.specs.InstanceList.{ready-settled, settled-start, AnyKey}
use Rattle.theory.specs.DerivedAccepted.{TooMany, Same, EntersAgree, agrees}
use Rattle.theory.specs.EnteredAgrees.{enters-agree}

pub record SameTyping (σ τ : Ty) (m n : Estimate) : Type 0 where
  pub type : σ ≡ τ
  pub numbers : m ≡ n

-- with as many instances as one derivation needs, the checker accepts; the other derivation agrees with its answer
pub typing-unique : {P : File} {p : Place} {Γ : List Ty} {Δ : List ℕ} {e : Expr} {σ τ : Ty} {m n : Estimate} → Ordered P → Calls (Allowed p) e → Typing P p Γ Δ e σ m →
    Typing P p Γ Δ e τ n → SameTyping σ τ m n
typing-unique {P} {p} {Γ} {Δ} {e} {σ} {τ} {m} {n} ordered w c d = go _ refl ((agrees en (λ k. In k (instances_of c)) c w (all_in _ (λ k i. i))).runs [] (ready-settled settled-start))
  where
    most : ℕ
    most = length (instances_of c)

    en : EntersAgree P (enter_at P most most) most most
    en = enters-agree P most ordered most

    go : (r : Result Sized) → sized P (enter_at P most most) e p Γ Δ [] ≡ r →
        Outcome (Same P (λ k. In k (instances_of c)) most most σ m (instances_of c) []) (TooMany (λ k. In k (instances_of c)) most) r → SameTyping σ τ m n
    go (ok q) is (accepted x) =
        let y : Same P AnyKey most most τ n (instances_of d) [] q = when-accepted ((agrees en AnyKey d w (all_in _ (λ k i. tt))).runs [] (ready-settled settled-start)) is in
        record { type = sym x.type ∙ y.type; numbers = sym x.numbers ∙ y.numbers }
    go (no i frame) is (refused x) = absurd (not-more-and-at-most x.more (record { these = instances_of c; few = omega arith; all = λ k i. i }))

updates-unique : {P : File} {c : ℕ} {ns : List Node} {xs ys : List Estimate} → Ordered P → Updates P c ns xs → Updates P c ns ys → xs ≡ ys
updates-unique ordered c_last c_last = refl
updates-unique ordered (c_node {n} u us) (c_node v vs) = rw ((typing-unique ordered (calls-anything n.update) u v).numbers, updates-unique ordered us vs)

-- the numbers of a file's updates are unique
pub numbers-unique : {P : File} {xs ys : List Estimate} → Within P → WellSized P xs → WellSized P ys → xs ≡ ys
numbers-unique within v w = updates-unique (within-ordered within) v.updates w.updates
