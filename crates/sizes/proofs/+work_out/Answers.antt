-- `work_out` meets its contract, return by return.
use native.Mathlib.Omega.{arith}
use native.Mathlib.Nat.{pos_of_ne-zero}
use Rattle.sizes.specs.SizeLaws.{sum_fits, work_none, work-leaf, work-sum, work-difference}
use Rattle.sizes.proofs.+work_out.Goals as goal

pub returns-then-levels-eq0 : goal.returns-then-levels-eq0
returns-then-levels-eq0 t c = work_none _ _ _ _ c.if-levels-eq0.true

pub returns-then-code-lt-SIZE_SUM : goal.returns-then-code-lt-SIZE_SUM
returns-then-code-lt-SIZE_SUM t c = work-leaf _ _ _ _ c.read-f.ensures c.if-code-lt-SIZE_SUM.true c.leaf.ensures

pub overflow_sub-levels : goal.overflow_sub-levels
overflow_sub-levels t c = pos_of_ne-zero c.if-levels-eq0.false

pub work_out-x-requires : goal.work_out-x-requires
work_out-x-requires t c = (omega (arith, c.decreases, c.if-levels-eq0.false), omega (arith, c.requires))

pub overflow_sub-levels-2 : goal.overflow_sub-levels-2
overflow_sub-levels-2 t c = pos_of_ne-zero c.if-levels-eq0.false

pub work_out-y-requires : goal.work_out-y-requires
work_out-y-requires t c = (omega (arith, c.decreases, c.if-levels-eq0.false), omega (arith, c.requires))

pub overflow_add-result : goal.overflow_add-result
overflow_add-result t c = record { fits = sum_fits c.if-levels-eq0.false c.requires c.work_out-x.ensures.added_less c.work_out-y.ensures.added_less }

pub overflow_add-result-then-code-eq-SIZE_SUM : goal.overflow_add-result-then-code-eq-SIZE_SUM
overflow_add-result-then-code-eq-SIZE_SUM t c = record { fits = sum_fits c.if-levels-eq0.false c.requires c.work_out-x.ensures.taken_less c.work_out-y.ensures.taken_less }

pub returns-then-code-eq-SIZE_SUM : goal.returns-then-code-eq-SIZE_SUM
returns-then-code-eq-SIZE_SUM t c = work-sum _ _ _ _ c.read-f.ensures c.if-levels-eq0.false c.work_out-x.ensures c.work_out-y.ensures c.if-code-eq-SIZE_SUM.true

pub overflow_add-result-2 : goal.overflow_add-result-2
overflow_add-result-2 t c = record { fits = sum_fits c.if-levels-eq0.false c.requires c.work_out-x.ensures.added_less c.work_out-y.ensures.taken_less }

pub overflow_add-result-3 : goal.overflow_add-result-3
overflow_add-result-3 t c = record { fits = sum_fits c.if-levels-eq0.false c.requires c.work_out-x.ensures.taken_less c.work_out-y.ensures.added_less }

pub returns : goal.returns
returns t c = work-difference _ _ _ _ c.read-f.ensures c.if-levels-eq0.false c.work_out-x.ensures c.work_out-y.ensures c.if-code-lt-SIZE_SUM.false c.if-code-eq-SIZE_SUM.false
