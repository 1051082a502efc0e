-- The four bytes of an Int give its value: the low 32 bits of the number, which within the limits are the number.
use Rattle.std.specs.Prelude.{ℕ, ◌%◌, ◌<◌, List, ◌≡◌}
use Rattle.std.proofs.Common.{arith}
use Rattle.language.specs.Limits.{int_range}
use Rattle.language.specs.Syntax.{Expr, eint}
use Rattle.language.specs.Format.{int_bytes}
use Rattle.language.specs.Scope.{Scope}
use Rattle.language.specs.Within.{WithinExpr, w_int}
use Rattle.text.specs.Places.{past}
use Rattle.theory.specs.ExactLeaves.{four_bytes}
use Rattle.encoding.specs.Spells.{Spells, spells-byte, spells-first}
use Rattle.encoding.specs.Forms.{four_at, IsInt}

pub int-four : {line : List ℕ} {at n : ℕ} → Spells int_bytes line at n → four_at line at ≡ n % int_range
unfolding int_bytes
int-four {n} s = rw (spells-first s (omega arith), spells-byte s 1 (omega arith), spells-byte s 2 (omega arith), spells-byte s 3 (omega arith)) (four_bytes n)

-- ---- within the limits
int-in-range : {n i : ℕ} {S : Scope} → WithinExpr n S (eint i) → i < int_range
int-in-range (w_int room less) = less

pub int-value : {line : List ℕ} {at n : ℕ} {S : Scope} {e : Expr} (i : IsInt line at e) → WithinExpr n S e → four_at line (past line at 1) ≡ i.value
int-value i w = omega (arith, i.four, int-in-range (rw i.is at w))
