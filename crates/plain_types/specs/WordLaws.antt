-- Plain types and their words: one word a type, the type of a word, by operators, of a constructor's fields, of a declared type.
use Rattle.std.specs.Prelude.{ℕ, ◌+◌, ◌-◌, ◌*◌, ◌/◌, ◌≤◌, ◌<◌, true, false, ◌≡◌, refl}
use Rattle.std.proofs.Common.{sym, ap, ◌∙◌, arith, eq-eqb, ne_eqb, lt-ltb, le-ltb}
use Rattle.language.specs.Result.{choose}
use Rattle.language.specs.Syntax.{Field, Plain, pnamed, Ty, Op, oadd, osub, omul, oeq, olt, ole, oand, oor}
use Rattle.language.specs.Format.{op_code}
use Rattle.language.specs.Within.{WithinField, w_fbool, w_fint, w_own, w_other, WithinPlain, w_pbool, w_pint, w_pnamed, WithinDeclared, w_tbool, w_tint, w_tnamed}
use Rattle.language.specs.Layout.{tag_step}
use Rattle.language.specs.PlainTypes.{plain_field, plain_declared, same_plain, is_named, operand_type, op_type}
use Rattle.text.specs.Bytes.{plain_word, declared_word, field_word}
use Rattle.plain_types.specs.declared.words.PlainType.{PlainType}
use Rattle.plain_types.specs.declared.words.PlainType.TheVariants.{Bool as BoolIs, Int as IntIs, Named}
use Rattle.plain_types.specs.Agrees.{meaning}
use Rattle.plain_types.specs.Words.{named_type, type_at, WordOf, operand_of, outcome_of, own_or_other}

-- ---- the word of a type
pub word-bool : {x : PlainType} → x ≡ BoolIs → WordOf x 0
unfolding plain_word
word-bool e = rw e (record { is = refl; small = w_pbool })

pub word-int : {x : PlainType} → x ≡ IntIs → WordOf x 1
unfolding plain_word
word-int e = rw e (record { is = refl; small = w_pint })

pub word-named : {x : PlainType} {t : ℕ} → x ≡ Named t → t < tag_step → WordOf x (tag_step * (t + 1))
unfolding plain_word
word-named e p = rw e (record { is = refl; small = w_pnamed p })

-- ---- `==` of two types is the definition's test of what they mean
same-itself : (x : PlainType) → same_plain (meaning x) (meaning x) ≡ true
unfolding same_plain
same-itself BoolIs = refl
same-itself IntIs = refl
same-itself (Named t) = eq-eqb t t refl

pub same-types : {x y : PlainType} → x ≡ y → same_plain (meaning x) (meaning y) ≡ true
same-types {x} {y} e = rw e (same-itself y)

pub other-types : (x y : PlainType) → (x ≡ y → ⊥) → same_plain (meaning x) (meaning y) ≡ false
unfolding same_plain
other-types BoolIs BoolIs h = absurd (h refl)
other-types BoolIs IntIs h = refl
other-types BoolIs (Named u) h = refl
other-types IntIs BoolIs h = refl
other-types IntIs IntIs h = absurd (h refl)
other-types IntIs (Named u) h = refl
other-types (Named t) BoolIs h = refl
other-types (Named t) IntIs h = refl
other-types (Named t) (Named u) h = ne_eqb t u (λ e. h (ap Named e))

-- ---- whether a type is a named one
pub other-unnamed : (x : PlainType) → ((t : ℕ) → x ≡ Named t → ⊥) → false ≡ is_named (meaning x)
unfolding is_named
other-unnamed BoolIs h = refl
other-unnamed IntIs h = refl
other-unnamed (Named t) h = absurd (h t refl)

pub named-named : {x : PlainType} {t : ℕ} → x ≡ Named t → true ≡ is_named (meaning x)
unfolding is_named
named-named e = rw e

-- ---- the type of a word
pub type-zero : (word : ℕ) → word ≡ 0 → BoolIs ≡ type_at word
unfolding choose
type-zero word e = rw (eq-eqb word 0 e)

pub type-small : (word : ℕ) → (word ≡ 0 → ⊥) → word < tag_step → IntIs ≡ type_at word
unfolding choose
type-small word some less = rw (ne_eqb word 0 some, lt-ltb word tag_step less)

pub type-large : (word : ℕ) → tag_step ≤ word → named_type (word / tag_step - 1) ≡ type_at word
unfolding choose
type-large word le = rw (ne_eqb word 0 (λ e. omega (arith, e, le)), le-ltb word tag_step le)

sized-named : (t k : ℕ) → t < tag_step → k < tag_step → meaning (type_at (tag_step * (t + 1) + k)) ≡ pnamed t
sized-named t k small less = sym (ap meaning (type-large (tag_step * (t + 1) + k) (omega arith))) ∙ ap pnamed (omega (arith, small, less))

pub plain_at : {τ : Plain} → WithinPlain tag_step τ → meaning (type_at (plain_word τ)) ≡ τ
unfolding plain_word
plain_at w_pbool = sym (ap meaning (type-zero 0 refl))
plain_at w_pint = sym (ap meaning (type-small 1 (λ e. omega (arith, e)) (omega arith)))
plain_at (w_pnamed {t} l) = let none : tag_step * (t + 1) ≡ tag_step * (t + 1) + 0 = omega arith in ap (λ n. meaning (type_at n)) none ∙ sized-named t 0 l (omega arith)

pub declared-at : {types : ℕ} {τ : Ty} → types ≤ tag_step → WithinDeclared types τ → meaning (type_at (declared_word τ)) ≡ plain_declared τ
unfolding declared_word plain_declared
declared-at few w_tbool = sym (ap meaning (type-zero 0 refl))
declared-at few w_tint = sym (ap meaning (type-small 1 (λ e. omega (arith, e)) (omega arith)))
declared-at few (w_tnamed {t} {k} l b) = sized-named t k (omega (arith, few, l)) (omega (arith, b.1))

-- ---- a named type of a small number
pub named-is : (t : ℕ) → t < tag_step → meaning (named_type t) ≡ pnamed t
named-is t h = ap pnamed (omega (arith, h))

pub plain-fewer : {types : ℕ} {τ : Plain} → types ≤ tag_step → WithinPlain types τ → WithinPlain tag_step τ
plain-fewer few w_pbool = w_pbool
plain-fewer few w_pint = w_pint
plain-fewer few (w_pnamed {t} l) = w_pnamed {t = t} (omega (arith, few, l))

-- ---- a field's type
pub own_is : (t word : ℕ) → word ≡ 2 → named_type t ≡ own_or_other t word
unfolding choose
own_is t word e = rw (eq-eqb word 2 e)

pub other-is : (t word : ℕ) → (word ≡ 2 → ⊥) → type_at word ≡ own_or_other t word
unfolding choose
other-is t word e = rw (ne_eqb word 2 e)

pub field_plain : {types : ℕ} (t : ℕ) {f : Field} → t < tag_step → types ≤ tag_step → WithinField types f → meaning (own_or_other t (field_word f)) ≡ plain_field t f
unfolding field_word plain_field
field_plain t h few w_fbool = sym (ap meaning (other-is t 0 (λ e. omega (arith, e)))) ∙ sym (ap meaning (type-zero 0 refl))
field_plain t h few w_fint = sym (ap meaning (other-is t 1 (λ e. omega (arith, e)))) ∙ sym (ap meaning (type-small 1 (λ e. omega (arith, e)) (omega arith)))
field_plain t h few w_own = sym (ap meaning (own_is t 2 refl)) ∙ named-is t h
field_plain t h few (w_other {t = u} {k} l b) = sym (ap meaning (other-is t (tag_step * (u + 1) + k) (λ e. omega (arith, e)))) ∙ sized-named u k (omega (arith, few, l)) (omega (arith, b.1))

pub field-small : {types : ℕ} (t : ℕ) {f : Field} → t < tag_step → types ≤ tag_step → WithinField types f → WithinPlain tag_step (plain_field t f)
unfolding plain_field
field-small t h few w_fbool = w_pbool
field-small t h few w_fint = w_pint
field-small t h few w_own = w_pnamed h
field-small t h few (w_other {t = u} l b) = w_pnamed {t = u} (omega (arith, few, l))

-- ---- operators
pub operand-int : (o : ℕ) → o < 6 → IntIs ≡ operand_of o
unfolding choose
operand-int o h = rw (lt-ltb o 6 h)

pub operand-bool : (o : ℕ) → 6 ≤ o → BoolIs ≡ operand_of o
unfolding choose
operand-bool o h = rw (le-ltb o 6 h)

pub outcome-int : (o : ℕ) → o < 3 → IntIs ≡ outcome_of o
unfolding choose
outcome-int o h = rw (lt-ltb o 3 h)

pub outcome-bool : (o : ℕ) → 3 ≤ o → BoolIs ≡ outcome_of o
unfolding choose
outcome-bool o h = rw (le-ltb o 3 h)

pub operand-is : (op : Op) → meaning (operand_of (op_code op)) ≡ operand_type op
unfolding choose operand_type
operand-is oadd = refl
operand-is osub = refl
operand-is omul = refl
operand-is oeq = refl
operand-is olt = refl
operand-is ole = refl
operand-is oand = refl
operand-is oor = refl

pub outcome-is : (op : Op) → meaning (outcome_of (op_code op)) ≡ op_type op
unfolding choose op_type
outcome-is oadd = refl
outcome-is osub = refl
outcome-is omul = refl
outcome-is oeq = refl
outcome-is olt = refl
outcome-is ole = refl
outcome-is oand = refl
outcome-is oor = refl
