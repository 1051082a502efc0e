-- Sizes, types, conditions and measures depend on the variables in scope alone: of a list of sizes, on as many as there are variables.
use Prim.Native.Nat.{ℕ, ◌+◌, ◌<◌}
use Rattle.std.specs.Prelude.{List, ◌≡◌, take}
use Rattle.std.proofs.Math.Option.{Option, some}
use Rattle.std.proofs.Math.Path.{refl, ap, ap₂}
use Rattle.std.proofs.Common.{get_or-take}
use Rattle.language.specs.Result.{both, chain}
use Rattle.language.specs.Syntax.{tnamed, Size, ResultType, Condition}
use Rattle.language.specs.Within.{All, all_nil, all_cons, WithinSize, w_lit, w_svar, w_plus, w_minus, WithinResult, w_rbool, w_rint, w_rnamed, WithinCondition}
use Rattle.language.specs.Sizes.{added, taken, type_size, type_at, condition_holds, conditions_hold, summed_measure}

module _ (Δ : List ℕ) {vars : ℕ} where
  mutual
    unfolding added

    pub added-in-scope : {n : ℕ} {s : Size} → WithinSize vars n s → added (take vars Δ) s ≡ added Δ s
    added-in-scope (w_lit less) = refl
    added-in-scope (w_svar {i} less) = get_or-take vars Δ i 0 less
    added-in-scope (w_plus v w) = ap₂ ◌+◌ (added-in-scope v) (added-in-scope w)
    added-in-scope (w_minus v w) = ap₂ ◌+◌ (added-in-scope v) (taken-in-scope w)

    pub taken-in-scope : {n : ℕ} {s : Size} → WithinSize vars n s → taken (take vars Δ) s ≡ taken Δ s
    taken-in-scope (w_lit less) = refl
    taken-in-scope (w_svar less) = refl
    taken-in-scope (w_plus v w) = ap₂ ◌+◌ (taken-in-scope v) (taken-in-scope w)
    taken-in-scope (w_minus v w) = ap₂ ◌+◌ (taken-in-scope v) (added-in-scope w)

  pub size-in-scope : {n : ℕ} {s : Size} → WithinSize vars n s → type_size (take vars Δ) s ≡ type_size Δ s
  unfolding type_size
  size-in-scope w = rw (added-in-scope w, taken-in-scope w)

  pub type-in-scope : {types : ℕ} {r : ResultType} → WithinResult types vars r → type_at (take vars Δ) r ≡ type_at Δ r
  unfolding type_at
  type-in-scope w_rbool = refl
  type-in-scope w_rint = refl
  type-in-scope (w_rnamed {t} less w) = ap (λ (o : Option ℕ). chain o (λ k. some (tnamed t k))) (size-in-scope w)

  pub condition-in-scope : {κ : Condition} → WithinCondition vars κ → condition_holds (take vars Δ) κ ≡ condition_holds Δ κ
  unfolding condition_holds
  condition-in-scope w = rw (added-in-scope w.left, taken-in-scope w.left, added-in-scope w.right, taken-in-scope w.right)

  pub conditions-in-scope : {κs : List Condition} → All (WithinCondition vars) κs → conditions_hold (take vars Δ) κs ≡ conditions_hold Δ κs
  unfolding conditions_hold
  conditions-in-scope all_nil = refl
  conditions-in-scope (all_cons w ws) = ap₂ both (condition-in-scope w) (conditions-in-scope ws)

  pub measure-in-scope : {is : List ℕ} → All (λ i. i < vars) is → summed_measure is (take vars Δ) ≡ summed_measure is Δ
  unfolding summed_measure
  measure-in-scope all_nil = refl
  measure-in-scope (all_cons {a = i} less ws) = ap₂ ◌+◌ (get_or-take vars Δ i 0 less) (measure-in-scope ws)
