-- `size_of` meets its contract.
use Rattle.sizes.specs.SizeLaws.{variable-told}
use Rattle.sizes.proofs.size_of.Goals as goal

pub returns : goal.returns
returns c = variable-told _ c.byte_at.ensures.0 c.byte_at.ensures.1
