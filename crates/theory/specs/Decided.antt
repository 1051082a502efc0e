-- Where the left side of an operator decides (document 02, R-2): the operator is `06` or `07`, on Bools and with a Bool for its value, and
-- the value is the left side's own, whatever the right side's would be.
use Rattle.std.specs.Prelude.{ℕ, Bool, true, false, ◌≡◌}
use Rattle.std.proofs.Math.Path.{refl}
use Rattle.std.proofs.Common.{◌∙◌, arith}
use Rattle.language.specs.Result.{both, one_of}
use Rattle.language.specs.Syntax.{pbool, pint, Op, oadd, osub, omul, oeq, olt, ole, oand, oor}
use Rattle.language.specs.PlainTypes.{operand_type, op_type}
use Rattle.language.specs.Heap.{Constant, kbool, kint, constant_type, truth, apply_op, decides}
use Rattle.theory.specs.Lists.{false-is-not-true}

-- the left sides that decide: of `06` a false one, of `07` a true one
pub data Deciding : Op → Bool → Type 0 where
  false_decides : Deciding oand false
  true_decides : Deciding oor true

pub deciding : (o : Op) (v : Bool) → decides o v ≡ true → Deciding o v
unfolding decides
deciding oadd v e = false-is-not-true e
deciding osub v e = false-is-not-true e
deciding omul v e = false-is-not-true e
deciding oeq v e = false-is-not-true e
deciding olt v e = false-is-not-true e
deciding ole v e = false-is-not-true e
deciding oand false e = false_decides
deciding oand true e = false-is-not-true e
deciding oor true e = true_decides
deciding oor false e = false-is-not-true e

module _ (o : Op) (v : Bool) (d : decides o v ≡ true) where
  pub decided-operand : operand_type o ≡ pbool
  unfolding operand_type
  decided-operand = go (deciding o v d)
    where
      go : {p : Op} {w : Bool} → Deciding p w → operand_type p ≡ pbool
      go false_decides = refl
      go true_decides = refl

  -- and its value is of the type of its operands
  pub decided-result : op_type o ≡ pbool
  unfolding op_type
  decided-result = go (deciding o v d)
    where
      go : {p : Op} {w : Bool} → Deciding p w → op_type p ≡ pbool
      go false_decides = refl
      go true_decides = refl

  pub decided-value : (y : Constant) → apply_op o (kbool v) y ≡ kbool v
  unfolding apply_op truth both one_of
  decided-value y = go (deciding o v d)
    where
      go : {p : Op} {w : Bool} → Deciding p w → apply_op p (kbool w) y ≡ kbool w
      go false_decides = refl
      go true_decides = refl

int-is-not-bool : {A : Type 0} → pint ≡ pbool → A
int-is-not-bool e = absurd (let z : ◌≡◌ {A = ℕ} 0 1 = cc in omega arith)

-- a left side of the operator's type is a Bool that decides, or does not decide
pub decided-cases : {A : Type 0} (o : Op) (x : Constant) → constant_type x ≡ operand_type o → ((v : Bool) → x ≡ kbool v → decides o v ≡ true → A) → (decides o (truth x) ≡ false → A) → A
unfolding constant_type truth
decided-cases {A} o (kbool v) typed left more = cases (decides o v) refl
  where
    cases : (b : Bool) → decides o v ≡ b → A
    cases true e = left v refl e
    cases false e = more e
decided-cases {A} o (kint n) typed left more = cases (decides o false) refl
  where
    cases : (b : Bool) → decides o false ≡ b → A
    cases true e = int-is-not-bool (typed ∙ decided-operand o false e)
    cases false e = more e
