-- A refusal before the board's numbers are asked, 15 to 17, and acceptance.
use Rattle.std.proofs.Common.{arith}
use Rattle.checker.specs.CheckLaws.{check-refused, board-refused, board-accepts}
use Rattle.checker.proofs.check_read.Goals as goal

pub returns-in-Err : goal.returns-in-Err
returns-in-Err c = check-refused _ _ _ c.in-Err.ensures c.from.ensures c.clear.ensures

pub returns-then-r-ne-NO_REFUSAL : goal.returns-then-r-ne-NO_REFUSAL
returns-then-r-ne-NO_REFUSAL c = board-refused _ _ c.needed.ensures c.judge-r.ensures c.in-Ok.ensures c.if-r-ne-NO_REFUSAL.true c.clear-then-r-ne-NO_REFUSAL.ensures

pub returns : goal.returns
returns c = board-accepts _ _ c.needed.ensures c.judge-r.ensures c.in-Ok.ensures (omega arith) (omega (arith, c.if-r-ne-NO_REFUSAL.false)) c.put_used.ensures
