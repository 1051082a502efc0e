-- The size of a type, and result types, return by return.
use Rattle.std.specs.Prelude.{ℕ, ◌+◌, ◌-◌, ◌<◌, ◌≤◌, List, ◌≡◌, refl, length, Some, None, Option as Maybe}
use Rattle.std.proofs.Math.Option.{Option, none, some}
use Rattle.std.proofs.Math.Path.{sym, ap}
use Rattle.std.proofs.Common.{ap₂, ◌∙◌, subst, arith}
use borrow.Author.Tests.{lt-ltb, le-ltb, le-leb, lt-leb}
use Rattle.language.specs.Limits.{size_most, nesting_most}
use Rattle.language.specs.Result.{both, when, chain}
use Rattle.language.specs.Syntax.{Ty, tnamed, Size, ResultType, rnamed}
use Rattle.language.specs.Format.{size_bytes, result_bytes}
use Rattle.language.specs.Within.{Bound, WithinSize, WithinResult, w_rnamed}
use Rattle.language.specs.Sizes.{added, taken, type_size, type_at}
use Rattle.text.specs.declared.Cursor.{Cursor}
use Rattle.text.specs.declared.Found.{Found}
use Rattle.text.specs.Places.{past, byte_at, past-past}
use Rattle.encoding.specs.Spells.{Spells, IsLeaf}
use Rattle.encoding.specs.TypeInversions.{IsNamedResult, ResultCoded, rbool_coded, rint_coded, rnamed_coded, result-of-byte, rbool-spelled, rint-spelled}
use Rattle.sizes.specs.declared.Worked.{Worked}
use Rattle.sizes.specs.declared.SizeAt.{SizeAt}
use Rattle.sizes.specs.declared.SizedType.TheVariants.{Bool as BoolIs, Int as IntIs, Named}
use Rattle.sizes.specs.declared.TypeAt.{TypeAt}
use Rattle.sizes.specs.Promises.{Reads, WorksOut, AgreesSize, size_is, size-outside, SizeBound, size_bound, no_size, SizeGiven, AgreesType, type_is, type_outside, OneByteEach, bool_small, int_small, named_small, meaning, TypeBound, type_bound, no_type, TypeGiven}

-- ---- the size of a type from what is added and what is taken away
module _ (Δ : List ℕ) (s : Size) where
  none-low : added Δ s ≤ taken Δ s → type_size Δ s ≡ none
  unfolding type_size both when
  none-low le = rw (le-ltb (taken Δ s) (added Δ s) le)

  none-high : taken Δ s + size_most < added Δ s → type_size Δ s ≡ none
  unfolding type_size both when
  none-high high = rw (lt-ltb (taken Δ s) (added Δ s) (omega (arith, high)), lt-leb (added Δ s) (taken Δ s + size_most) high)

  some-between : taken Δ s < added Δ s → added Δ s ≤ taken Δ s + size_most → type_size Δ s ≡ some (added Δ s - taken Δ s)
  unfolding type_size both when
  some-between less le = rw (lt-ltb (taken Δ s) (added Δ s) less, le-leb (added Δ s) (taken Δ s + size_most) le)

module _ (line : List ℕ) (c : Cursor) (Δ : List ℕ) {x : Worked} (u : WorksOut line c Δ nesting_most x) where
  pub size_low : x.added ≤ x.taken → SizeGiven line c Δ None
  size_low le = record {
    says = λ vars s w z. let i = u.says vars s w z in size-outside (none-low Δ s (omega (arith, le, i.is_added, i.is_taken)));
    bound = no_size;
  }

  pub size-high : size_most < x.added - x.taken → SizeGiven line c Δ None
  size-high high = record {
    says = λ vars s w z. let i = u.says vars s w z in size-outside (none-high Δ s (omega (arith, high, i.is_added, i.is_taken)));
    bound = no_size;
  }

  pub size-found : x.taken < x.added → x.added - x.taken ≤ size_most → SizeGiven line c Δ (Some (record { size = x.added - x.taken; next = x.next }))
  size-found less le = record {
    says = λ vars s w z.
        let i = u.says vars s w z in
        size_is (some-between Δ s (omega (arith, less, i.is_added, i.is_taken)) (omega (arith, less, le, i.is_added, i.is_taken)) ∙ sym (ap some (ap₂ ◌-◌ i.is_added i.is_taken))) i.ends;
    bound = size_bound (omega (arith, less), le);
  }

-- ---- what an answer says
pub size-given : {o : Option ℕ} {end : ℕ} {x : Maybe SizeAt} {s : SizeAt} → x ≡ Some s → AgreesSize o end x → (o ≡ some s.size) × (s.next.at ≡ end)
size-given {o} {end} e v = elim (subst (AgreesSize o end) e v) [ size_is p q ↦ (p, q) ]

pub size-refused : {o : Option ℕ} {end : ℕ} {x : Maybe SizeAt} → x ≡ None → AgreesSize o end x → o ≡ none
size-refused {o} {end} e v = elim (subst (AgreesSize o end) e v) [ size-outside p ↦ p ]

pub size-within : {x : Maybe SizeAt} {s : SizeAt} → x ≡ Some s → SizeBound x → Bound s.size
size-within e v = elim (subst SizeBound e v) [ size_bound p ↦ p ]

-- ---- result types
named-coded : {line : List ℕ} {at : ℕ} {ρ : ResultType} {code : ℕ} → ResultCoded line at ρ code → (code ≡ 0 → ⊥) → (code ≡ 1 → ⊥) → IsNamedResult line at ρ
named-coded (rbool_coded i) p q = absurd (p refl)
named-coded (rint_coded i) p q = absurd (q refl)
named-coded (rnamed_coded i) p q = i

size-of-named : {types vars t : ℕ} {s : Size} → WithinResult types vars (rnamed t s) → WithinSize vars nesting_most s
size-of-named (w_rnamed less w) = w

leaf-ends : {n : ℕ} (line : List ℕ) (m : ℕ) {ρ σ : ResultType} → IsLeaf result_bytes 1 ρ σ → n ≡ past line m 1 → n ≡ past line m (length (result_bytes ρ))
leaf-ends line m i e = e ∙ ap (past line m) (sym (ap (λ (a : ResultType). length (result_bytes a)) i.is ∙ i.long))

module _ (line : List ℕ) (c : Cursor) (Δ : List ℕ) {f : Found} (v : Reads line c f) where
  pub type-bool : f.value ≡ 0 → TypeGiven line c Δ (Some (record { ty = BoolIs; next = f.next }))
  unfolding type_at
  type-bool code = record {
    says = λ types vars ρ w z.
        let i = rbool-spelled z (sym v.value ∙ code) in
        type_is (ap (type_at Δ) i.is) (leaf-ends line c.at i v.next);
    bound = type_bound bool_small;
  }

  pub type-int : f.value ≡ 1 → TypeGiven line c Δ (Some (record { ty = IntIs; next = f.next }))
  unfolding type_at
  type-int code = record {
    says = λ types vars ρ w z.
        let i = rint-spelled z (sym v.value ∙ code) in
        type_is (ap (type_at Δ) i.is) (leaf-ends line c.at i v.next);
    bound = type_bound int_small;
  }

  module _ (p : f.value ≡ 0 → ⊥) (q : f.value ≡ 1 → ⊥) {g : Found} (o : Reads line f.next g) {x : Maybe SizeAt} (u : SizeGiven line g.next Δ x) where
    is-named : {ρ : ResultType} → Spells result_bytes line c.at ρ → IsNamedResult line c.at ρ
    is-named {ρ} z = named-coded (subst (ResultCoded line c.at ρ) (sym v.value) (result-of-byte z)) p q

    number_read : (g.value ≡ byte_at line (past line c.at 1)) × (g.next.at ≡ past line c.at 2)
    number_read = (o.value ∙ ap (byte_at line) v.next, o.next ∙ ap (λ (m : ℕ). past line m 1) v.next ∙ past-past line c.at 1 1)

    size-agrees : {types vars : ℕ} {ρ : ResultType} → WithinResult types vars ρ → (z : Spells result_bytes line c.at ρ) → AgreesSize (type_size Δ (is-named z).size) (past line g.next.at (length (size_bytes (is-named z).size))) x
    size-agrees {types} {vars} w z =
        let i = is-named z in
        u.says vars i.size (size-of-named (subst (WithinResult types vars) i.is w)) (subst (λ m. Spells size_bytes line m i.size) (sym number_read.1) i.spelled)

    named-at : {ρ : ResultType} (z : Spells result_bytes line c.at ρ) → type_at Δ ρ ≡ chain (type_size Δ (is-named z).size) (λ k. some (tnamed g.value k))
    unfolding type_at
    named-at z =
        let i = is-named z in
        ap (type_at Δ) i.is ∙ ap (λ t. chain (type_size Δ i.size) (λ k. some (tnamed t k))) (sym number_read.0)

    pub type-refused : x ≡ None → TypeGiven line c Δ None
    unfolding chain
    type-refused e = record {
      says = λ types vars ρ w z. type_outside (named-at z ∙ ap (λ (a : Option ℕ). chain a (λ k. some (tnamed g.value k))) (size-refused e (size-agrees w z)));
      bound = no_type;
    }

    pub type-named : {s : SizeAt} → x ≡ Some s → TypeGiven line c Δ (Some (record { ty = Named g.value s.size; next = s.next }))
    unfolding chain
    type-named e = record {
      says = λ types vars ρ w z.
          let i = is-named z in
          let agreed = size-given e (size-agrees w z) in
          type_is (named-at z ∙ ap (λ (a : Option ℕ). chain a (λ k. some (tnamed g.value k))) agreed.0)
          (agreed.1 ∙ ap (λ (m : ℕ). past line m (length (size_bytes i.size))) number_read.1 ∙ sym (ap (λ (a : ResultType). past line c.at (length (result_bytes a))) i.is ∙ i.ends));
      bound = type_bound (named_small o.less (size-within e u.bound));
    }

-- ---- what an answer says
pub type-given : {o : Option Ty} {end : ℕ} {x : Maybe TypeAt} {s : TypeAt} → x ≡ Some s → AgreesType o end x → (o ≡ some (meaning s.ty)) × (s.next.at ≡ end)
type-given {o} {end} e v = elim (subst (AgreesType o end) e v) [ type_is p q ↦ (p, q) ]

pub type-not-given : {o : Option Ty} {end : ℕ} {x : Maybe TypeAt} → x ≡ None → AgreesType o end x → o ≡ none
type-not-given {o} {end} e v = elim (subst (AgreesType o end) e v) [ type_outside p ↦ p ]

pub type-within : {x : Maybe TypeAt} {s : TypeAt} → x ≡ Some s → TypeBound x → OneByteEach s.ty
type-within e v = elim (subst TypeBound e v) [ type_bound p ↦ p ]
