-- Conditions and measures, return by return.
use Prim.Native.Nat.{ℕ, ◌+◌, ◌-◌, ◌*◌, ◌^◌, ◌<◌}
use mathlib.Core.List.{List, [], ◌∷◌}
use Rattle.std.specs.Prelude.{Bool, not, ◌≡◌, ltb, leb, eqb}
use Rattle.std.proofs.Math.Bool.{true, false}
use Rattle.std.proofs.Math.Path.{refl, sym, ap, ap₂}
use Rattle.std.proofs.Common.{◌∙◌, subst}
use native.Mathlib.Omega.{arith}
use Rattle.std.proofs.Math.ListN.{length, get_or}
use borrow.Author.Tests.{not-true, not-false}
use Rattle.language.specs.Limits.{byte_range, nesting_most}
use Rattle.language.specs.Result.{both}
use Rattle.language.specs.Syntax.{Relation, req, rlt, rle, Condition}
use Rattle.language.specs.Format.{spell_all, size_bytes, relation_code, condition_bytes}
use Rattle.language.specs.Within.{All, all_cons, WithinCondition}
use Rattle.language.specs.Sizes.{compare, condition_holds, conditions_hold, summed_measure}
use Rattle.text.specs.declared.Cursor.{Cursor}
use Rattle.text.specs.declared.Found.{Found}
use Rattle.text.specs.Places.{past}
use Rattle.encoding.specs.Spells.{Spells, spells-first, spells-next, first-of-list, themselves}
use Rattle.encoding.specs.TypeInversions.{condition-parts}
use Rattle.sizes.specs.declared.Worked.{Worked}
use Rattle.sizes.specs.declared.Judged.{Judged}
use Rattle.sizes.specs.Promises.{Reads, Told, WorksOut, Compares, Judges, HoldAll, Hold, SumsMeasures, SumsMeasure}

-- ---- relations
pub compare-equal : {code a b : ℕ} → code ≡ 0 → Compares code a b (eqb a b)
unfolding compare
compare-equal {code} {a} {b} q = record { says = says }
  where
    says : (rel : Relation) → code ≡ relation_code rel → eqb a b ≡ compare rel a b
    says req e = refl
    says rlt e = absurd (omega (arith, q, e))
    says rle e = absurd (omega (arith, q, e))

pub compare-less : {code a b : ℕ} → code ≡ 1 → Compares code a b (ltb a b)
unfolding compare
compare-less {code} {a} {b} q = record { says = says }
  where
    says : (rel : Relation) → code ≡ relation_code rel → ltb a b ≡ compare rel a b
    says req e = absurd (omega (arith, q, e))
    says rlt e = refl
    says rle e = absurd (omega (arith, q, e))

pub compare-most : {code a b : ℕ} → (code ≡ 0 → ⊥) → (code ≡ 1 → ⊥) → Compares code a b (leb a b)
unfolding compare
compare-most {code} {a} {b} p q = record { says = says }
  where
    says : (rel : Relation) → code ≡ relation_code rel → leb a b ≡ compare rel a b
    says req e = absurd (p e)
    says rlt e = absurd (q e)
    says rle e = refl

-- ---- a condition
pub sides-fit : {a b : ℕ} → a < byte_range * 2 ^ nesting_most → b < byte_range * 2 ^ nesting_most → a + b < 2 ^ 64
sides-fit h k = omega (arith, h, k)

module _ (line : List ℕ) (c : Cursor) (Δ : List ℕ) where
  pub condition-judged : {f : Found} {x y : Worked} {holds : Bool} → Reads line c f → WorksOut line f.next Δ nesting_most x → WorksOut line x.next Δ nesting_most y →
      Compares f.value (x.added + y.taken) (y.added + x.taken) holds → Judges line c Δ (record { holds = holds; next = y.next })
  unfolding condition_holds
  condition-judged {f} {x} {y} {holds} v u t k = record { says = says }
    where
      says : (vars : ℕ) (κ : Condition) → WithinCondition vars κ → Spells condition_bytes line c.at κ → (holds ≡ condition_holds Δ κ) × (y.next.at ≡ past line c.at (length (condition_bytes κ)))
      says vars κ w z =
          let i = condition-parts z in
          let a = u.says vars κ.left w.left (subst (λ m. Spells size_bytes line m κ.left) (sym v.next) i.spelled) in
          let place : x.next.at ≡ past line (past line c.at 1) (length (size_bytes κ.left)) = a.ends ∙ ap (λ (m : ℕ). past line m (length (size_bytes κ.left))) v.next in
          let b = t.says vars κ.right w.right (subst (λ m. Spells size_bytes line m κ.right) (sym place) i.next) in
          let same : holds ≡ compare κ.rel (x.added + y.taken) (y.added + x.taken) = k.says κ.rel (v.value ∙ i.relation) in
          (same ∙ ap₂ (compare κ.rel) (ap₂ ◌+◌ a.is_added b.is_taken) (ap₂ ◌+◌ b.is_added a.is_taken), b.ends ∙ ap (λ (m : ℕ). past line m (length (size_bytes κ.right))) place ∙ sym i.ends)

  -- ---- conditions, one after the other
  pub none_left : {n : ℕ} → n ≡ 0 → HoldAll line c Δ n true
  unfolding conditions_hold
  none_left {n} q = record { says = says }
    where
      says : (vars : ℕ) (κs : List Condition) → n ≡ length κs → All (WithinCondition vars) κs → Spells (spell_all condition_bytes) line c.at κs → true ≡ conditions_hold Δ κs
      says vars [] e ws z = refl
      says vars (κ ∷ κs) e ws z = absurd (omega (arith, e, q))

  module _ {n : ℕ} (more : n ≡ 0 → ⊥) {x : Judged} (u : Judges line c Δ x) where
    pub one-fails : not x.holds ≡ true → HoldAll line c Δ n false
    unfolding conditions_hold both
    one-fails q = record { says = says }
      where
        says : (vars : ℕ) (κs : List Condition) → n ≡ length κs → All (WithinCondition vars) κs → Spells (spell_all condition_bytes) line c.at κs → false ≡ conditions_hold Δ κs
        says vars [] e ws z = absurd (more e)
        says vars (κ ∷ κs) e (all_cons w ws) z = sym (ap (λ t. both t (conditions_hold Δ κs)) (sym (u.says vars κ w (first-of-list z).spelled).0 ∙ not-true x.holds q))

    pub one_holds : {r : Bool} → not x.holds ≡ false → HoldAll line x.next Δ (n - 1) r → HoldAll line c Δ n r
    unfolding conditions_hold both
    one_holds {r} q rest = record { says = says }
      where
        says : (vars : ℕ) (κs : List Condition) → n ≡ length κs → All (WithinCondition vars) κs → Spells (spell_all condition_bytes) line c.at κs → r ≡ conditions_hold Δ κs
        says vars [] e ws z = absurd (more e)
        says vars (κ ∷ κs) e (all_cons w ws) z =
            let two = first-of-list z in
            let judged = u.says vars κ w two.spelled in
            let left : n - 1 ≡ length κs = omega (arith, e) in
            rest.says vars κs left ws (subst (λ m. Spells (spell_all condition_bytes) line m κs) (sym judged.1) two.next)
            ∙ sym (ap (λ t. both t (conditions_hold Δ κs)) (sym judged.0 ∙ not-false x.holds q))

  module _ {f : Found} (v : Reads line c f) where
    pub conditions-counted : {r : Bool} → HoldAll line f.next Δ f.value r → Hold line c Δ r
    conditions-counted u = record {
      says = λ vars κs count ws z. u.says vars κs (v.value ∙ count) ws (subst (λ m. Spells (spell_all condition_bytes) line m κs) (sym v.next) z);
    }

    -- ---- measures
    pub measures_counted : {r : ℕ} → SumsMeasures line f.next Δ f.value r → SumsMeasure line c Δ r
    measures_counted u = record {
      says = λ is count z. u.says is (v.value ∙ count) (subst (λ m. Spells themselves line m is) (sym v.next) z);
      less = omega (arith, u.less, v.less);
    }

  pub measures-none : {n : ℕ} → n ≡ 0 → SumsMeasures line c Δ n 0
  unfolding summed_measure
  measures-none {n} q = record { says = says; less = omega arith }
    where
      says : (is : List ℕ) → n ≡ length is → Spells themselves line c.at is → 0 ≡ summed_measure is Δ
      says [] e z = refl
      says (i ∷ is) e z = absurd (omega (arith, e, q))

  pub measures-more : {n : ℕ} {f : Found} {k r : ℕ} → (n ≡ 0 → ⊥) → Reads line c f → Told Δ f.value k → SumsMeasures line f.next Δ (n - 1) r → SumsMeasures line c Δ n (k + r)
  unfolding summed_measure
  measures-more {n} {f} {k} {r} more v u t = record { says = says; less = omega (arith, more, u.less, t.less) }
    where
      says : (is : List ℕ) → n ≡ length is → Spells themselves line c.at is → k + r ≡ summed_measure is Δ
      says [] e z = absurd (more e)
      says (i ∷ is) e z =
          let first : f.value ≡ i = v.value ∙ spells-first z (omega arith) in
          let behind : Spells themselves line (past line c.at 1) is = spells-next z (i ∷ []) refl in
          let left : n - 1 ≡ length is = omega (arith, e) in
          ap₂ ◌+◌ (u.is ∙ ap (λ j. get_or Δ j 0) first) (t.says is left (subst (λ m. Spells themselves line m is) (sym v.next) behind))

pub measures-fit : {line Δ : List ℕ} {c : Cursor} {n i k r : ℕ} → n < byte_range → Told Δ i k → SumsMeasures line c Δ (n - 1) r → k + r < 2 ^ 32
measures-fit less u t = omega (arith, less, u.less, t.less)
