-- The next pair read: none from the end on, none where the line ends before or in it, or its byte.
use native.Mathlib.Omega.{arith}
use Rattle.text.specs.Places.{pair-at-end, pair-within}
use Rattle.text.specs.ReadLaws.{byte-end, byte-done}
use Rattle.text.proofs.Cursor.byte.Goals as goal

pub returns-then-line-from : goal.returns-then-line-from
returns-then-line-from c = byte-end _ _ (pair-at-end _ _ c.if-line-from.true) (omega (arith, c.if-line-from.true))

pub overflow_add-behind : goal.overflow_add-behind
overflow_add-behind c = omega (arith, c.pair_start-at.ensures, pair-within c.args.line.now c.args.self.at c.if-line-from.false)

pub returns-then-line-behind : goal.returns-then-line-behind
returns-then-line-behind c = byte-end _ _ c.pair_start-at.ensures c.if-line-behind.true

pub returns : goal.returns
returns c = byte-done _ _ c.pair_start-at.ensures (omega (arith, c.if-line-behind.false)) _ _ c.digit-high.ensures c.digit-low.ensures
