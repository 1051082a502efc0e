-- `type_at` meets its contract, return by return.
use native.Mathlib.Omega.{arith}
use Rattle.sizes.specs.TypeLaws.{type-bool, type-int, type-refused, type-named}
use Rattle.sizes.proofs.type_at.Goals as goal

pub returns-then-code-eq-TYPE_BOOL : goal.returns-then-code-eq-TYPE_BOOL
returns-then-code-eq-TYPE_BOOL c = type-bool _ _ _ c.read-f.ensures c.if-code-eq-TYPE_BOOL.true

pub returns-then-code-eq-TYPE_INT : goal.returns-then-code-eq-TYPE_INT
returns-then-code-eq-TYPE_INT c = type-int _ _ _ c.read-f.ensures c.if-code-eq-TYPE_INT.true

pub returns-in_err-s : goal.returns-in_err-s
returns-in_err-s c = rw c.from_residual.ensures (type-refused _ _ _ c.read-f.ensures c.if-code-eq-TYPE_BOOL.false c.if-code-eq-TYPE_INT.false c.read-g.ensures c.size_at.ensures c.in_err-s.was)

pub overflow_cast-result : goal.overflow_cast-result
overflow_cast-result c = omega (arith, c.read-g.ensures.less)

pub returns : goal.returns
returns c = type-named _ _ _ c.read-f.ensures c.if-code-eq-TYPE_BOOL.false c.if-code-eq-TYPE_INT.false c.read-g.ensures c.size_at.ensures c.in_ok-s.was
