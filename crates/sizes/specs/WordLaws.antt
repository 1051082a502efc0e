-- Types and their words: one word a type, as long as numbers and sizes are of one byte each.
use Rattle.std.specs.Prelude.{ℕ, ◌+◌, ◌-◌, ◌*◌, ◌/◌, ◌%◌, ◌<◌, ◌≤◌, ◌≡◌, refl}
use Rattle.std.proofs.Common.{sym, ap₂, arith}
use Rattle.language.specs.Limits.{byte_range}
use Rattle.language.specs.Layout.{tag_step}
use Rattle.language.specs.Syntax.{Ty, tbool, tint, tnamed}
use Rattle.text.specs.Bytes.{declared_word}
use Rattle.sizes.specs.declared.SizedType.{SizedType}
use Rattle.sizes.specs.declared.SizedType.TheVariants.{Bool as BoolIs, Int as IntIs, Named}
use Rattle.sizes.specs.Promises.{Small, small_bool, small_int, small_named, WordOf, FromWord}

-- ---- the word of a type
pub word-bool : {x : SizedType} → x ≡ BoolIs → WordOf x 0
unfolding declared_word
word-bool e = rw e (record { is = refl; small = small_bool })

pub word-int : {x : SizedType} → x ≡ IntIs → WordOf x 1
unfolding declared_word
word-int e = rw e (record { is = refl; small = small_int })

pub word-named : {x : SizedType} {t k : ℕ} → x ≡ Named t k → t < byte_range → k < byte_range → WordOf x (tag_step * (t + 1) + k)
unfolding declared_word
word-named e p q = rw e (record { is = refl; small = small_named p q })

-- ---- the type of a word
pub from_bool : {word : ℕ} → word ≡ 0 → FromWord word BoolIs
unfolding declared_word
from_bool {word} q = record { says = from; small = small_bool }
  where
    from : (τ : Ty) → Small τ → declared_word τ ≡ word → tbool ≡ τ
    from tbool small_bool e = refl
    from tint small_int e = absurd (omega (arith, e, q))
    from (tnamed t k) (small_named p r) e = absurd (omega (arith, e, q))

pub from_int : {word : ℕ} → (word ≡ 0 → ⊥) → word < tag_step → FromWord word IntIs
unfolding declared_word
from_int {word} q less = record { says = from; small = small_int }
  where
    from : (τ : Ty) → Small τ → declared_word τ ≡ word → tint ≡ τ
    from tbool small_bool e = absurd (q (sym e))
    from tint small_int e = refl
    from (tnamed t k) (small_named p r) e = absurd (omega (arith, e, less))

pub from_named : {word : ℕ} → tag_step ≤ word → FromWord word (Named ((word / tag_step - 1) % tag_step) (word % tag_step))
unfolding declared_word
from_named {word} le = record { says = from; small = small_named {t = (word / tag_step - 1) % tag_step} {k = word % tag_step} (omega arith) (omega arith) }
  where
    from : (τ : Ty) → Small τ → declared_word τ ≡ word → tnamed ((word / tag_step - 1) % tag_step) (word % tag_step) ≡ τ
    from tbool small_bool e = absurd (omega (arith, e, le))
    from tint small_int e = absurd (omega (arith, e, le))
    from (tnamed t k) (small_named p r) e = ap₂ tnamed (omega (arith, e, p, r)) (omega (arith, e, p, r))

-- ---- one word a type
pub word-once : {σ τ : Ty} → Small σ → Small τ → declared_word σ ≡ declared_word τ → σ ≡ τ
unfolding declared_word
word-once small_bool small_bool e = refl
word-once small_bool small_int e = absurd (omega (arith, e))
word-once small_bool (small_named p q) e = absurd (omega (arith, e))
word-once small_int small_bool e = absurd (omega (arith, e))
word-once small_int small_int e = refl
word-once small_int (small_named p q) e = absurd (omega (arith, e))
word-once (small_named p q) small_bool e = absurd (omega (arith, e))
word-once (small_named p q) small_int e = absurd (omega (arith, e))
word-once (small_named {t} {k} p q) (small_named {t = u} {k = j} r s) e = ap₂ tnamed (omega (arith, e, p, q, r, s)) (omega (arith, e, p, q, r, s))
