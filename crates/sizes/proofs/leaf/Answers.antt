-- `leaf` meets its contract, return by return.
use Rattle.sizes.specs.SizeLaws.{leaf-number, leaf-variable}
use Rattle.sizes.proofs.leaf.Goals as goal

pub returns-then-code-eq-SIZE_NUMBER : goal.returns-then-code-eq-SIZE_NUMBER
returns-then-code-eq-SIZE_NUMBER c = leaf-number _ _ _ c.read-f.ensures c.if-code-eq-SIZE_NUMBER.true

pub returns : goal.returns
returns c = leaf-variable _ _ _ c.read-f.ensures c.if-code-eq-SIZE_NUMBER.false c.size_of-size.ensures
