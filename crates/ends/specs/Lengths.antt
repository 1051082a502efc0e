-- How many bytes spell an expression, a written size and a result type: at least one, and those of the head and of the parts.
use Rattle.std.specs.Prelude.{ℕ, ◌+◌, ◌<◌, [], ◌++◌, ◌≡◌, length}
use Rattle.std.proofs.Common.{arith, length-append}
use Rattle.language.specs.Syntax.{Size, lit, svar, plus, minus, ResultType, rbool, rint, rnamed, Op, Expr, ebool, eint, evar, enow, elast, elet, eif, eop, ecall, econ, ecase, eadj, efit, Exprs, enil, econs}
use Rattle.language.specs.Format.{size_bytes, result_bytes, expr_bytes, exprs_bytes}

-- ---- at least one
pub size-some : (k : Size) → 0 < length (size_bytes k)
unfolding size_bytes
size-some (lit n) = omega arith
size-some (svar i) = omega arith
size-some (plus a b) = omega arith
size-some (minus a b) = omega arith

pub result-some : (r : ResultType) → 0 < length (result_bytes r)
unfolding result_bytes
result-some rbool = omega arith
result-some rint = omega arith
result-some (rnamed t s) = omega arith

pub expr-some : (e : Expr) → 0 < length (expr_bytes e)
unfolding expr_bytes
expr-some (ebool b) = omega arith
expr-some (eint n) = omega arith
expr-some (evar v) = omega arith
expr-some (enow c) = omega arith
expr-some (elast c) = omega arith
expr-some (elet a b) = omega arith
expr-some (eif a b d) = omega arith
expr-some (eop o a b) = omega arith
expr-some (ecall f es) = omega arith
expr-some (econ t c es) = omega arith
expr-some (ecase t e r bs) = omega arith
expr-some (eadj s e) = omega arith
expr-some (efit k a b d) = omega arith

-- ---- a list
pub more-long : (e : Expr) (es : Exprs) → length (exprs_bytes (econs e es)) ≡ length (expr_bytes e) + length (exprs_bytes es)
unfolding exprs_bytes
more-long e es = length-append (expr_bytes e) (exprs_bytes es)

pub one-long : (e : Expr) → length (exprs_bytes (econs e enil)) ≡ length (expr_bytes e)
unfolding exprs_bytes
one-long e = omega (arith, length-append (expr_bytes e) [])

two-long : (a b : Expr) → length (exprs_bytes (econs a (econs b enil))) ≡ length (expr_bytes a) + length (expr_bytes b)
two-long a b = omega (arith, more-long a (econs b enil), one-long b)

three-long : (a b d : Expr) → length (exprs_bytes (econs a (econs b (econs d enil)))) ≡ length (expr_bytes a) + (length (expr_bytes b) + length (expr_bytes d))
three-long a b d = omega (arith, more-long a (econs b (econs d enil)), two-long b d)

-- ---- a form: the bytes of its head, and those of its parts
pub let-long : (a b : Expr) → length (expr_bytes (elet a b)) ≡ 1 + length (exprs_bytes (econs a (econs b enil)))
unfolding expr_bytes
let-long a b = omega (arith, length-append (expr_bytes a) (expr_bytes b), two-long a b)

pub if-long : (a b d : Expr) → length (expr_bytes (eif a b d)) ≡ 1 + length (exprs_bytes (econs a (econs b (econs d enil))))
unfolding expr_bytes
if-long a b d = omega (arith, length-append (expr_bytes a) (expr_bytes b ++ expr_bytes d), length-append (expr_bytes b) (expr_bytes d), three-long a b d)

pub op-long : (o : Op) (a b : Expr) → length (expr_bytes (eop o a b)) ≡ 2 + length (exprs_bytes (econs a (econs b enil)))
unfolding expr_bytes
op-long o a b = omega (arith, length-append (expr_bytes a) (expr_bytes b), two-long a b)

pub call_long : (f : ℕ) (es : Exprs) → length (expr_bytes (ecall f es)) ≡ 2 + length (exprs_bytes es)
unfolding expr_bytes
call_long f es = omega arith

pub con-long : (t c : ℕ) (es : Exprs) → length (expr_bytes (econ t c es)) ≡ 3 + length (exprs_bytes es)
unfolding expr_bytes
con-long t c es = omega arith

pub case-long : (t : ℕ) (e : Expr) (r : ResultType) (bs : Exprs) → length (expr_bytes (ecase t e r bs)) ≡ 2 + (length (expr_bytes e) + (length (result_bytes r) + length (exprs_bytes bs)))
unfolding expr_bytes
case-long t e r bs = omega (arith, length-append (expr_bytes e) (result_bytes r ++ exprs_bytes bs), length-append (result_bytes r) (exprs_bytes bs))

pub adj-long : (k : Size) (e : Expr) → length (expr_bytes (eadj k e)) ≡ 1 + (length (size_bytes k) + length (expr_bytes e))
unfolding expr_bytes
adj-long k e = omega (arith, length-append (size_bytes k) (expr_bytes e))

pub fit-long : (k : ℕ) (a b d : Expr) → length (expr_bytes (efit k a b d)) ≡ 2 + length (exprs_bytes (econs a (econs b (econs d enil))))
unfolding expr_bytes
fit-long k a b d = omega (arith, length-append (expr_bytes a) (expr_bytes b ++ expr_bytes d), length-append (expr_bytes b) (expr_bytes d), three-long a b d)
