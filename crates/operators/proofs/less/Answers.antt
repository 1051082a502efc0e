-- The order of the bits with the sign turned over.
use Rattle.operators.specs.OperatorLaws.{signed-less}
use Rattle.operators.proofs.less.Goals as goal

pub returns : goal.returns
returns c = signed-less _ _ c.wrapping_add_u32.ensures.value c.wrapping_add_u32-2.ensures.value
