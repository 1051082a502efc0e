-- `compare` meets its contract, return by return.
use Rattle.sizes.specs.ConditionLaws.{compare-equal, compare-less, compare-most}
use Rattle.sizes.proofs.compare.Goals as goal

pub returns-then-code-eq-RELATION_EQUAL : goal.returns-then-code-eq-RELATION_EQUAL
returns-then-code-eq-RELATION_EQUAL c = compare-equal c.if-code-eq-RELATION_EQUAL.true

pub returns-then-code-eq-RELATION_LESS : goal.returns-then-code-eq-RELATION_LESS
returns-then-code-eq-RELATION_LESS c = compare-less c.if-code-eq-RELATION_LESS.true

pub returns : goal.returns
returns c = compare-most c.if-code-eq-RELATION_EQUAL.false c.if-code-eq-RELATION_LESS.false
