-- The readers of a Bool, an operator and an Int are exact.
use Rattle.std.specs.Prelude.{ℕ, ◌+◌, ◌*◌, ◌/◌, ◌%◌, ◌<◌, ◌^◌, [], ◌∷◌, Bool, true, false, ◌≡◌, refl}
use Rattle.std.proofs.Math.Option.{some}
use Rattle.std.proofs.Common.{sym, ap, ◌∙◌, arith}
use Rattle.language.specs.Limits.{int_range}
use Rattle.language.specs.Result.{choose}
use Rattle.language.specs.Syntax.{Op, oadd, osub, omul, oeq, olt, ole, oand, oor}
use Rattle.language.specs.Format.{bit, int_bytes, op_code}
use Rattle.language.specs.Parser.{got, and_then, byte, decode, code}
use Rattle.language.specs.ReadExpr.{ops, bools, int}
use Rattle.theory.specs.Exact.{Byte, Behind, Exact, next, done}
use Rattle.theory.specs.ExactParts.{one, byte-exact, entry, no_entry, code-exact}

pub bool-exact : Exact (code 0x00 bools) (λ b. one (bit b)) (λ b. Unit {0})
unfolding decode choose
bool-exact = code-exact 0x00 bools bit stands (entry refl (entry refl no_entry))
  where
    stands : (b : Bool) → decode 0x00 bools (bit b) ≡ some b
    stands false = refl
    stands true = refl

pub op-exact : Exact (code 0x00 ops) (λ o. one (op_code o)) (λ o. Unit {0})
unfolding decode choose
op-exact = code-exact 0x00 ops op_code stands (entry refl (entry refl (entry refl (entry refl (entry refl (entry refl (entry refl (entry refl no_entry))))))))
  where
    stands : (o : Op) → decode 0x00 ops (op_code o) ≡ some o
    stands oadd = refl
    stands osub = refl
    stands omul = refl
    stands oeq = refl
    stands olt = refl
    stands ole = refl
    stands oand = refl
    stands oor = refl

-- the low 16, 24 and 32 bits of a number by its bytes
low-16 : (n : ℕ) → n % 2 ^ 16 ≡ n / 2 ^ 8 % 2 ^ 8 * 2 ^ 8 + n % 2 ^ 8
low-16 n = omega arith

low-24 : (n : ℕ) → n % 2 ^ 24 ≡ n / 2 ^ 16 % 2 ^ 8 * 2 ^ 16 + n % 2 ^ 16
low-24 n = omega arith

low-32 : (n : ℕ) → n % 2 ^ 32 ≡ n / 2 ^ 24 % 2 ^ 8 * 2 ^ 24 + n % 2 ^ 24
low-32 n = omega arith

pub four_bytes : (n : ℕ) → n / 2 ^ 24 % 2 ^ 8 * 2 ^ 24 + n / 2 ^ 16 % 2 ^ 8 * 2 ^ 16 + n / 2 ^ 8 % 2 ^ 8 * 2 ^ 8 + n % 2 ^ 8 ≡ n % int_range
four_bytes n = regroup (n / 2 ^ 24 % 2 ^ 8 * 2 ^ 24) (n / 2 ^ 16 % 2 ^ 8 * 2 ^ 16) (n / 2 ^ 8 % 2 ^ 8 * 2 ^ 8) (n % 2 ^ 8) ∙ rw (← low-16 n, ← low-24 n) (sym (low-32 n))
  where
    regroup : (a b c d : ℕ) → a + b + c + d ≡ a + (b + (c + d))
    regroup a b c d = omega arith

join-bytes : (n : ℕ) → n < int_range → n / 2 ^ 24 % 2 ^ 8 * 2 ^ 24 + n / 2 ^ 16 % 2 ^ 8 * 2 ^ 16 + n / 2 ^ 8 % 2 ^ 8 * 2 ^ 8 + n % 2 ^ 8 ≡ n
join-bytes n w = four_bytes n ∙ omega arith

abbrev joined : ℕ → ℕ → ℕ → ℕ → ℕ
joined a b c d = a * 2 ^ 24 + b * 2 ^ 16 + c * 2 ^ 8 + d

split-joined : (a b c d : ℕ) → Byte a → Byte b → Byte c → Byte d → int_bytes (joined a b c d) ≡ a ∷ b ∷ c ∷ d ∷ []
unfolding int_bytes
split-joined a b c d A B C D = λ i. third i ∷ second i ∷ first i ∷ zeroth i ∷ []
  where
    third : joined a b c d / 2 ^ 24 % 2 ^ 8 ≡ a
    third = omega arith

    second : joined a b c d / 2 ^ 16 % 2 ^ 8 ≡ b
    second = omega arith

    first : joined a b c d / 2 ^ 8 % 2 ^ 8 ≡ c
    first = omega arith

    zeroth : joined a b c d % 2 ^ 8 ≡ d
    zeroth = omega arith

pub int-exact : Exact int int_bytes (λ i. i < int_range)
unfolding int byte and_then int_bytes
int-exact = record { back = λ n rest w. ap (λ (m : ℕ). got m rest) (join-bytes n w); forth = forth }
  where
    forth : Behind int_bytes (λ i. i < int_range) [] int
    forth = next byte-exact.forth λ a u. next byte-exact.forth λ b v. next byte-exact.forth λ c w. next byte-exact.forth λ d x. done (omega arith) (split-joined a b c d u v w x)
