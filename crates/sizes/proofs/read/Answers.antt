-- `read` meets its contract.
use Rattle.sizes.specs.SizeLaws.{read_told}
use Rattle.sizes.proofs.read.Goals as goal

pub returns : goal.returns
returns c = read_told _ _ c.byte.ensures c.unwrap_or.ensures
