-- What a plain type of the code means, and when an answer of the code agrees with the definition's: a plain type, the cursor where the
-- expression ends; or none.
-- Laws of chain, when and both, one each.
use Rattle.std.specs.Prelude.{Option as Maybe, Some, None}
use Rattle.std.specs.Prelude.{ℕ, Bool, true, false, ◌≡◌, refl}
use Rattle.std.proofs.Math.Option.{Option, none, some}
use Rattle.std.proofs.Common.{sym, ap, ◌∙◌, subst, arith}
use Rattle.language.specs.Result.{both, when, chain}
use Rattle.language.specs.Syntax.{Plain, pbool, pint, pnamed}
use Rattle.theory.specs.Lists.{none-is-not-some}
use Rattle.plain_types.specs.declared.words.PlainType.{PlainType}
use Rattle.plain_types.specs.declared.words.PlainType.TheVariants.{Bool as BoolIs, Int as IntIs, Named}
use Rattle.plain_types.specs.declared.words.Typed.{Typed}

-- what the code answers: a type and the cursor behind what has it, or none where types disagree
abbrev pub Typing : Type 0
Typing = Maybe Typed

abbrev pub meaning : PlainType → Plain
meaning BoolIs = pbool
meaning IntIs = pint
meaning (Named t) = pnamed t

pub data Agrees (r : Typing) (end : ℕ) : Option Plain → Type 0 where
  is_type : {k : Typed} {τ : Plain} → r ≡ Some k → meaning k.of ≡ τ → k.next.at ≡ end → Agrees r end (some τ)
  is_none : r ≡ None → Agrees r end none

-- ---- what an answer tells
pub record TypeFound (k : Typed) (end : ℕ) (o : Option Plain) : Type 0 where
  pub type : Plain
  pub is : o ≡ some type
  pub kind : meaning k.of ≡ type
  pub place : k.next.at ≡ end

wrong-is-not : {B : Type 0} {k : Typed} → ◌≡◌ {A = Typing} None (Some k) → B
wrong-is-not e = absurd (let z : ◌≡◌ {A = ℕ} 0 1 = cc in omega arith)

is-once : {j k : Typed} → ◌≡◌ {A = Typing} (Some j) (Some k) → j ≡ k
is-once e = cc

some-once : {σ τ : Plain} → some σ ≡ some τ → σ ≡ τ
some-once e = cc

module _ {x : Typing} {end : ℕ} where
  pub typed : {o : Option Plain} {k : Typed} → Agrees x end o → x ≡ Some k → TypeFound k end o
  typed {k} (is_type {k = j} {τ} q w p) e =
      let same : j ≡ k = is-once (sym q ∙ e) in
      record { type = τ; is = refl; kind = ap (λ (i : Typed). meaning i.of) (sym same) ∙ w; place = ap (λ (i : Typed). i.next.at) (sym same) ∙ p }
  typed (is_none q) e = wrong-is-not (sym q ∙ e)

  pub untyped : {o : Option Plain} → Agrees x end o → x ≡ None → o ≡ none
  untyped (is_type q w p) e = wrong-is-not (sym e ∙ q)
  untyped (is_none q) e = refl

  pub agrees-as : {o u : Option Plain} → o ≡ u → Agrees x end u → Agrees x end o
  agrees-as e a = subst (Agrees x end) (sym e) a

  -- an answer that is known
  pub typed-is : {τ : Plain} {k : Typed} → Agrees x end (some τ) → x ≡ Some k → (meaning k.of ≡ τ) × (k.next.at ≡ end)
  typed-is {τ} a e = let t = typed a e in let same : τ ≡ t.type = some-once t.is in (t.kind ∙ sym same, t.place)

  pub typed-there : {τ : Plain} → Agrees x end (some τ) → x ≡ None → ⊥
  typed-there a e = none-is-not-some (sym (untyped a e))

-- ---- tests
pub when-some : {A : Type 0} (b : Bool) (a : A) {c : A} → when b a ≡ some c → (b ≡ true) × (a ≡ c)
unfolding when
when-some true a e = (refl, cc)
when-some false a e = none-is-not-some e

pub when-none : {A : Type 0} (b : Bool) (a : A) → when b a ≡ none → b ≡ false
unfolding when
when-none true a e = none-is-not-some (sym e)
when-none false a e = refl

-- an answer to a test: it holds, and the answer is what stands behind it; or it does not hold
pub record Holds (k : Typed) (end : ℕ) (b : Bool) (τ : Plain) : Type 0 where
  pub is : b ≡ true
  pub kind : meaning k.of ≡ τ
  pub place : k.next.at ≡ end

module _ {x : Typing} {end : ℕ} (b : Bool) (τ : Plain) where
  pub holds : {k : Typed} → Agrees x end (when b τ) → x ≡ Some k → Holds k end b τ
  holds a e =
      let t = typed a e in
      let w = when-some b τ t.is in
      record { is = w.0; kind = t.kind ∙ sym w.1; place = t.place }

  pub fails : Agrees x end (when b τ) → x ≡ None → b ≡ false
  fails a e = when-none b τ (untyped a e)

-- ---- an answer made
pub wrong : {end : ℕ} {o : Option Plain} → o ≡ none → Agrees None end o
wrong e = agrees-as e (is_none refl)

pub answered : {r : Typing} {end : ℕ} {k : Typed} {τ : Plain} {o : Option Plain} → r ≡ Some k → meaning k.of ≡ τ → k.next.at ≡ end → o ≡ some τ → Agrees r end o
answered q w p e = agrees-as e (is_type q w p)

-- ---- the definition's combinators where a part is known
module _ {A B : Type 0} {o : Option A} (k : A → Option B) where
  pub chain-some : {a : A} → o ≡ some a → chain o k ≡ k a
  unfolding chain
  chain-some e = rw e

  pub chain-none : o ≡ none → chain o k ≡ none
  unfolding chain
  chain-none e = rw e

pub when_true : {A : Type 0} {b : Bool} (a : A) → b ≡ true → when b a ≡ some a
unfolding when
when_true a e = rw e

pub when_false : {A : Type 0} {b : Bool} (a : A) → b ≡ false → when b a ≡ none
unfolding when
when_false a e = rw e

pub both_first : {a b : Bool} → a ≡ true → both a b ≡ b
unfolding both
both_first e = rw e

pub both-not : {a : Bool} (b : Bool) → a ≡ false → both a b ≡ false
unfolding both
both-not b e = rw e

-- whatever the first answer is, the second is none
pub chain-never : {A B : Type 0} (o : Option A) (k : A → Option B) → ((a : A) → k a ≡ none) → chain o k ≡ none
unfolding chain
chain-never none k h = refl
chain-never (some a) k h = h a
