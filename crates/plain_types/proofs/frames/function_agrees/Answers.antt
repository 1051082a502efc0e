-- A function's body is of its result type where the check of an expression says so.
use native.Mathlib.Omega.{arith}
use Rattle.plain_types.specs.FrameLaws.{function-fits}
use Rattle.plain_types.proofs.frames.function_agrees.Goals as goal

pub returns : goal.returns
returns c = function-fits _ _ _ c.arity-n.ensures _ c.enter.ensures (omega arith) c.body_start-at.ensures c.line_behind_types-line.ensures c.returned-result.ensures c.expect.ensures c.is_some.ensures
