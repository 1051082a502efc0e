-- `measures` meets its contract, return by return.
use native.Mathlib.Omega.{arith}
use native.Mathlib.Nat.{pos_of_ne-zero}
use Rattle.sizes.specs.ConditionLaws.{measures-none, measures-fit, measures-more}
use Rattle.sizes.proofs.+measures.Goals as goal

pub returns-then-n-eq0 : goal.returns-then-n-eq0
returns-then-n-eq0 t c = measures-none _ _ _ c.if-n-eq0.true

pub overflow_sub-n : goal.overflow_sub-n
overflow_sub-n t c = pos_of_ne-zero c.if-n-eq0.false

pub measures-rest-requires : goal.measures-rest-requires
measures-rest-requires t c = (omega (arith, c.decreases, c.if-n-eq0.false), omega (arith, c.requires))

pub overflow_add-result : goal.overflow_add-result
overflow_add-result t c = record { fits = measures-fit c.requires c.size_of-size.ensures c.measures-rest.ensures }

pub returns : goal.returns
returns t c = measures-more _ _ _ c.if-n-eq0.false c.read-f.ensures c.size_of-size.ensures c.measures-rest.ensures
