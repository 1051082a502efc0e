-- `parts` meets its contract: the forms of the last arm have no parts.
use Prim.Native.Nat.{ℕ}
use mathlib.Core.List.{List}
use mathlib.Core.Path.{◌≡◌, refl}
use native.Mathlib.Omega.{arith}
use Rattle.heads.specs.declared.Form.{Form}
use Rattle.heads.specs.declared.Form.TheVariants.{Bool as BoolForm, Int, Variable, Now, Last, Let, If, Operator, Call, Construct, Case, Adjust, Fit, Missing}
use Rattle.heads.specs.Skips.{parts_of}
use Rattle.heads.proofs.skip.parts.Goals as goal

no-parts : (types functions : List ℕ) (f : Form) → (f ≡ Let → ⊥) → (f ≡ If → ⊥) → ((o : ℕ) → f ≡ Operator o → ⊥) → ((i : ℕ) → f ≡ Call i → ⊥) → ((t c : ℕ) → f ≡ Construct t c → ⊥) → ((t : ℕ) → f ≡ Case t → ⊥) →
    (f ≡ Adjust → ⊥) → ((k : ℕ) → f ≡ Fit k → ⊥) → 0 ≡ parts_of types functions f
no-parts types functions (BoolForm b) no_let no_if no_op no_call no_con no_case no_adj no_fit = refl
no-parts types functions (Int n) no_let no_if no_op no_call no_con no_case no_adj no_fit = refl
no-parts types functions (Variable v) no_let no_if no_op no_call no_con no_case no_adj no_fit = refl
no-parts types functions (Now c) no_let no_if no_op no_call no_con no_case no_adj no_fit = refl
no-parts types functions (Last c) no_let no_if no_op no_call no_con no_case no_adj no_fit = refl
no-parts types functions Let no_let no_if no_op no_call no_con no_case no_adj no_fit = absurd (no_let refl)
no-parts types functions If no_let no_if no_op no_call no_con no_case no_adj no_fit = absurd (no_if refl)
no-parts types functions (Operator o) no_let no_if no_op no_call no_con no_case no_adj no_fit = absurd (no_op o refl)
no-parts types functions (Call f) no_let no_if no_op no_call no_con no_case no_adj no_fit = absurd (no_call f refl)
no-parts types functions (Construct t c) no_let no_if no_op no_call no_con no_case no_adj no_fit = absurd (no_con t c refl)
no-parts types functions (Case t) no_let no_if no_op no_call no_con no_case no_adj no_fit = absurd (no_case t refl)
no-parts types functions Adjust no_let no_if no_op no_call no_con no_case no_adj no_fit = absurd (no_adj refl)
no-parts types functions (Fit k) no_let no_if no_op no_call no_con no_case no_adj no_fit = absurd (no_fit k refl)
no-parts types functions Missing no_let no_if no_op no_call no_con no_case no_adj no_fit = refl

pub returns-in_default : goal.returns-in_default
returns-in_default c = (no-parts _ _ _ c.in_default.not-Let c.in_default.not-If c.in_default.not-Operator c.in_default.not-Call c.in_default.not-Construct c.in_default.not-Case c.in_default.not-Adjust c.in_default.not-Fit, omega arith)
