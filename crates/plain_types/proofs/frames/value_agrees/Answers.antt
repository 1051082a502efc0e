-- An expression of a channel is of the declared type where the check of an expression says so.
use native.Mathlib.Omega.{arith}
use Rattle.plain_types.specs.FrameLaws.{value-fits}
use Rattle.plain_types.proofs.frames.value_agrees.Goals as goal

pub returns : goal.returns
returns c = value-fits _ _ _ c.declared_word.ensures c.from-declared.ensures c.expect.ensures (omega arith) c.is_some.ensures
