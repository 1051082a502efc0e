-- The words of types and of fields, one by one: their sizes, whether they agree, the type of a field with its size.
use Rattle.std.specs.Prelude.{ℕ, ◌+◌, ◌*◌, ◌/◌, ◌%◌, ◌≤◌, ◌<◌, Bool, true, false, ◌≡◌, eqb}
use Rattle.std.proofs.Math.Path.{refl}
use Rattle.std.proofs.Common.{sym, ap, ◌∙◌, arith}
use borrow.Author.Tests.{eq-eqb, ne_eqb, lt-ltb, le-ltb, eqb-true, eqb-false}
use Rattle.language.specs.Limits.{byte_range}
use Rattle.language.specs.Result.{both, choose}
use Rattle.language.specs.Syntax.{Field, fbool, fint, own, other, Ty, tbool, tint, tnamed}
use Rattle.language.specs.Layout.{tag_step}
use Rattle.language.specs.Within.{WithinField, w_fbool, w_fint, w_own, w_other}
use Rattle.language.specs.Sizes.{size_of_type, same_type}
use Rattle.text.specs.Bytes.{declared_word, field_word}
use Rattle.theory.specs.Lists.{false-is-not-true}
use Rattle.theory.specs.SameTests.{same-type, type-same}
use Rattle.sizes.specs.Promises.{Small, small_bool, small_int, small_named}
use Rattle.sizes.specs.WordLaws.{word-once}
use Rattle.type_rows.specs.Rows.{size_in, field_agrees, bound_word}

-- ---- words alone, by what the code tests
pub size-of-plain : {word : ℕ} → word < tag_step → (0 ≡ size_in word) × (0 < byte_range)
unfolding size_in choose
size-of-plain {word} h = (rw (lt-ltb word tag_step h), omega arith)

pub size-of-named : {word : ℕ} → tag_step ≤ word → (word % tag_step ≡ size_in word) × (word % tag_step < byte_range)
unfolding size_in choose
size-of-named {word} h = (rw (le-ltb word tag_step h), omega arith)

module _ {field : ℕ} (t : ℕ) where
  pub agrees-own : (word : ℕ) → field ≡ 2 → eqb (word / tag_step) (t + 1) ≡ field_agrees field word t
  unfolding field_agrees choose
  agrees-own word e = rw e

  pub agrees-other : (word : ℕ) → (field ≡ 2 → ⊥) → eqb field word ≡ field_agrees field word t
  unfolding field_agrees choose
  agrees-other word e = rw (ne_eqb field 2 e)

  pub bound-own : (size : ℕ) → field ≡ 2 → tag_step * (t % tag_step + 1) + size ≡ bound_word field t size
  unfolding bound_word choose
  bound-own size e = rw e

  pub bound-other : (size : ℕ) → (field ≡ 2 → ⊥) → field ≡ bound_word field t size
  unfolding bound_word choose
  bound-other size e = rw (ne_eqb field 2 e)

-- ---- by types
-- the type of a field, at this size if it is of the type itself
unfoldable pub bound_type : ℕ → Field → ℕ → Ty
bound_type t fbool k = tbool
bound_type t fint k = tint
bound_type t own k = tnamed t k
bound_type t (other u j) k = tnamed u j

pub size-in-word : {τ : Ty} → Small τ → size_in (declared_word τ) ≡ size_of_type τ
unfolding size_in choose declared_word size_of_type
size-in-word small_bool = refl
size-in-word small_int = refl
size-in-word (small_named {t} {k} p q) = rw (le-ltb (tag_step * (t + 1) + k) tag_step (omega arith)) (omega (arith, q))

-- one word a type
same-by-word : {σ τ : Ty} → Small σ → Small τ → eqb (declared_word σ) (declared_word τ) ≡ same_type σ τ
same-by-word {σ} {τ} v w = tested (same_type σ τ) refl
  where
    tested : (r : Bool) → same_type σ τ ≡ r → eqb (declared_word σ) (declared_word τ) ≡ r
    tested true e = eq-eqb _ _ (ap declared_word (same-type σ τ e))
    tested false e = ne_eqb _ _ (λ (z : declared_word σ ≡ declared_word τ). false-is-not-true (sym e ∙ type-same (word-once v w z)))

-- a type of this number, at whatever size
number_same : (t u k : ℕ) → k < byte_range → eqb ((tag_step * (u + 1) + k) / tag_step) (t + 1) ≡ both (eqb t u) (eqb k k)
unfolding both
number_same t u k q = tested (eqb t u) refl
  where
    number : (tag_step * (u + 1) + k) / tag_step ≡ u + 1
    number = omega (arith, q)

    tested : (r : Bool) → eqb t u ≡ r → eqb ((tag_step * (u + 1) + k) / tag_step) (t + 1) ≡ both r (eqb k k)
    tested true e = eq-eqb ((tag_step * (u + 1) + k) / tag_step) (t + 1) (omega (arith, number, eqb-true t u e)) ∙ sym (eq-eqb k k refl)
    tested false e = ne_eqb _ _ (λ (z : (tag_step * (u + 1) + k) / tag_step ≡ t + 1). eqb-false t u e (omega (arith, number, z)))

-- ---- a field's word is not that of the type itself
other-is-not-own : (u k : ℕ) → eqb (tag_step * (u + 1) + k) 2 ≡ false
other-is-not-own u k = ne_eqb _ _ (λ (z : tag_step * (u + 1) + k ≡ 2). absurd (omega (arith, z)))

module _ {t : ℕ} (less : t < 255) where
  pub agrees-by-type : {f : Field} {τ : Ty} → WithinField t f → Small τ → field_agrees (field_word f) (declared_word τ) t ≡ same_type (bound_type t f (size_of_type τ)) τ
  unfolding field_agrees choose field_word declared_word bound_type same_type size_of_type
  agrees-by-type {τ} w_fbool s = same-by-word small_bool s
  agrees-by-type {τ} w_fint s = same-by-word small_int s
  agrees-by-type w_own small_bool = ne_eqb 0 (t + 1) (λ (z : 0 ≡ t + 1). absurd (omega (arith, z)))
  agrees-by-type w_own small_int = ne_eqb 0 (t + 1) (λ (z : 0 ≡ t + 1). absurd (omega (arith, z)))
  agrees-by-type w_own (small_named {t = u} {k} p q) = number_same t u k q
  agrees-by-type {τ} (w_other {t = u} {k} p q) s = rw (other-is-not-own u k) (same-by-word (small_named {t = u} {k = k} (omega arith) (omega (arith, q.1))) s)

  pub bound-by-type : {f : Field} {size k : ℕ} → WithinField t f → (field_word f ≡ 2 → size ≡ k) → bound_word (field_word f) t size ≡ declared_word (bound_type t f k)
  unfolding bound_word choose field_word declared_word bound_type
  bound-by-type w_fbool e = refl
  bound-by-type w_fint e = refl
  bound-by-type w_own e = omega (arith, e refl)
  bound-by-type (w_other {t = u} {k = j} p q) e = rw (other-is-not-own u j)
