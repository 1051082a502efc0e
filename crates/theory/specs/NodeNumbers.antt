-- The nodes' numbers in any order: each node's environment and stack are at most the largest, and the heap numbers of the nodes not yet done
-- are part of the sum.
use Rattle.std.specs.Prelude.{ℕ, zero, suc, ◌+◌, ◌≤◌, ◌<◌, List, [], ◌∷◌, Bool, true, ◌≡◌, refl, length, get_or, set}
use Rattle.std.proofs.Math.Option.{some}
use Rattle.std.proofs.Common.{sym, ap, ◌∙◌, subst, arith, add-zero}
use Rattle.std.proofs.Math.ListN.{get_elem? as look}
use Rattle.std.proofs.lemmas.List.{length-map}
use Rattle.language.specs.Syntax.{Ty, Input, Node, File, no_node, node_at_of, node_channel, declared_types, channel_frame}
use Rattle.language.specs.Result.{choose}
use Rattle.language.specs.Estimate.{Estimate, nothing}
use Rattle.language.specs.Cells.{updates_numbers}
use Rattle.language.specs.Typing.{Typing, outside, Updates, c_last, c_node}
use Rattle.language.specs.Heap.{Cell}
use Rattle.theory.specs.Lists.{none-is-not-some, look-past, look-map}
use Rattle.theory.specs.Places.{look_at}
use Rattle.theory.specs.HeapValues.{Has, Env, env_nil, env_cons}
use Rattle.theory.specs.HeldChannels.{input_types, node_types}
use Rattle.theory.specs.Totals.{total}

-- ---- the number of one node
abbrev pub number_at : List Estimate → ℕ → Estimate
number_at xs i = get_or xs i nothing

pub record NumberIn (x : Estimate) (y : Estimate) : Type 0 where
  pub slots : x.env ≤ y.env
  pub calls : x.stack ≤ y.stack

pub number_in : (xs : List Estimate) (i : ℕ) → NumberIn (number_at xs i) (updates_numbers xs)
unfolding updates_numbers
number_in [] i = record { slots = omega arith; calls = omega arith }
number_in (x ∷ xs) zero = record { slots = omega arith; calls = omega arith }
number_in (x ∷ xs) (suc i) = let more = number_in xs i in record { slots = omega (arith, more.slots); calls = omega (arith, more.calls) }

-- ---- their heap numbers summed
total-shift : (w : ℕ → ℕ) (f : ℕ → Bool) (n : ℕ) → total w f (suc n) ≡ choose (f 0) (w 0) 0 + total (λ i. w (suc i)) (λ i. f (suc i)) n
unfolding total
total-shift w f zero = refl
total-shift w f (suc n) = omega (arith, total-shift w f n)

pub heap-total : (xs : List Estimate) → total (λ i. (number_at xs i).heap) (λ i. true) (length xs) ≡ (updates_numbers xs).heap
unfolding updates_numbers total choose
heap-total [] = refl
heap-total (x ∷ xs) = total-shift (λ i. (number_at (x ∷ xs) i).heap) (λ i. true) (length xs) ∙ ap (λ n. x.heap + n) (heap-total xs)

-- ---- one node of many
pub update-at : {P : File} {c : ℕ} {ns : List Node} {xs : List Estimate} → Updates P c ns xs → (i : ℕ) → i < length ns →
    Typing P (outside (channel_frame P (c + i)) (declared_types P)) [] [] (get_or ns i no_node).update (get_or ns i no_node).declared (number_at xs i)
update-at c_last i less = absurd (omega arith)
update-at {P} {c} (c_node {n} {ns} {x} typed rest) zero less = rw add-zero typed
update-at {P} {c} (c_node {n} {ns} {x} {xs} typed rest) (suc i) less =
    let place : suc c + i ≡ c + suc i = omega arith in
    subst (λ d. Typing P (outside (channel_frame P d) (declared_types P)) [] [] (get_or ns i no_node).update (get_or ns i no_node).declared (number_at xs i)) place (update-at rest i (omega arith))

pub updates-length : {P : File} {c : ℕ} {ns : List Node} {xs : List Estimate} → Updates P c ns xs → length xs ≡ length ns
updates-length c_last = refl
updates-length (c_node typed rest) = ap suc (updates-length rest)

-- ---- channels by number
pub declared-at : (P : File) (i : ℕ) → i < length P.nodes → look (declared_types P) (node_channel P i) ≡ some (node_at_of P i).declared
declared-at P i less =
    ap (λ n. look (declared_types P) (n + i)) (sym (length-map P.inputs (λ (j : Input). j.declared))) ∙ look-past (input_types P) (node_types P.nodes) i ∙ look-map (λ (n : Node). n.declared) P.nodes i (look_at P.nodes i no_node less)

pub env-set : {P : File} {h : List Cell} {ls : List ℕ} {τs : List Ty} → Env P h ls τs → (c : ℕ) {l : ℕ} {τ : Ty} → look τs c ≡ some τ → Has P h l τ → Env P h (set ls c l) τs
env-set env_nil c e v = none-is-not-some e
env-set {P} {h} (env_cons {τ = σ} w vs) zero {l} {τ} e v = let same : τ ≡ σ = cc in env_cons (subst (Has P h l) same v) vs
env-set (env_cons w vs) (suc c) e v = env_cons w (env-set vs c e v)
