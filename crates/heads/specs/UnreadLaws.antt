-- Where no form is read, no expression is spelled.
use Rattle.std.specs.Prelude.{ℕ, ◌≤◌, List, ◌≡◌, refl, length}
use Rattle.std.proofs.Common.{ap, ◌∙◌, arith}
use Rattle.std.proofs.Math.ListN.{get_or-eq_default}
use Rattle.language.specs.Syntax.{Expr, econ}
use Rattle.language.specs.Format.{expr_bytes}
use Rattle.text.specs.Places.{bytes_from, bytes_left}
use Rattle.encoding.specs.Spells.{Spells, spells-left}
use Rattle.encoding.specs.Forms.{OfList, FormCoded, bool_coded, int_coded, var_coded, now_coded, last_coded, let_coded, if_coded, op_coded, call_coded, con_coded, case_coded, adj_coded, fit_coded}
use Rattle.encoding.specs.ExprInversions.{form-of-byte, int-spelled, con-spelled, code-within}
use Rattle.heads.specs.Heads.{OtherCode, NoOperand, Unread, no_code, no_form, no_operand, no_constructor, no-int}

long-is : {e a : Expr} {k : ℕ} → e ≡ a → length (expr_bytes a) ≡ k → length (expr_bytes e) ≡ k
long-is is long = ap (λ (a : Expr). length (expr_bytes a)) is ∙ long

-- every other code has a byte behind it
two_bytes : {line : List ℕ} {at : ℕ} {e : Expr} {code : ℕ} → FormCoded line at e code → OtherCode code → 2 ≤ length (expr_bytes e)
unfolding expr_bytes
two_bytes (bool_coded i) o = omega (arith, long-is i.is i.long)
two_bytes (int_coded i) o = omega (arith, long-is i.is i.long)
two_bytes (var_coded i) o = omega (arith, long-is i.is i.long)
two_bytes (now_coded i) o = omega (arith, long-is i.is i.long)
two_bytes (last_coded i) o = omega (arith, long-is i.is i.long)
two_bytes (let_coded i) o = absurd (o.no_let refl)
two_bytes (if_coded i) o = absurd (o.no_if refl)
two_bytes (op_coded i) o = rw i.of.is (omega arith)
two_bytes (call_coded i) o = rw i.is (omega arith)
two_bytes (con_coded i) o = rw i.is (omega arith)
two_bytes (case_coded i) o = rw i.is (omega arith)
two_bytes (adj_coded i) o = absurd (o.no_adjust refl)
two_bytes (fit_coded i) o = rw i.is (omega arith)

of-no-form : {line : List ℕ} {at : ℕ} {e : Expr} {code : ℕ} → FormCoded line at e code → OtherCode code → NoOperand code → ⊥
of-no-form (bool_coded i) o n = n.no_bool refl
of-no-form (int_coded i) o n = o.no_int refl
of-no-form (var_coded i) o n = n.no_variable refl
of-no-form (now_coded i) o n = n.no_now refl
of-no-form (last_coded i) o n = n.no_last refl
of-no-form (let_coded i) o n = o.no_let refl
of-no-form (if_coded i) o n = o.no_if refl
of-no-form (op_coded i) o n = n.no_operator refl
of-no-form (call_coded i) o n = n.no_call_of refl
of-no-form (con_coded i) o n = o.no_construct refl
of-no-form (case_coded i) o n = n.no_case refl
of-no-form (adj_coded i) o n = o.no_adjust refl
of-no-form (fit_coded i) o n = n.no_fit refl

three-bytes : {line : List ℕ} {at t k : ℕ} {e : Expr} → OfList (econ t k) 3 line at e → 3 ≤ length (expr_bytes e)
unfolding expr_bytes
three-bytes i = rw i.is (omega arith)

pub unread-none : {line : List ℕ} {at : ℕ} {e : Expr} → Unread line at → Spells expr_bytes line at e → ⊥
unread-none {line} {at} (no_code ended) s = let none : bytes_left line at ≤ 0 = omega (arith, ended) in omega (arith, (code-within s).0, get_or-eq_default (bytes_from line at) 0 none)
unread-none (no_form o n) s = of-no-form (form-of-byte s) o n
unread-none (no_operand o less) s = omega (arith, less, two_bytes (form-of-byte s) o, spells-left s)
unread-none (no_constructor q less) s = omega (arith, less, three-bytes (con-spelled s q), spells-left s)
unread-none (no-int q less) s = let i = int-spelled s q in omega (arith, less, long-is i.is i.long, spells-left s)
