-- The cycle of functions that test an initial value meets its contracts; the measure is levels left, a list by what is left of it.
use mathlib.Core.Logic.{⊎_elim}
use Rattle.language.specs.Oks.{was_ok, was_err}
use Rattle.plain_types.specs.InitialLaws.{initial-cut, initial-bool, initial-int, initial-other, initial-made, initial-stops, initial-behind, initials-none, initials-wrong, initials-more}
use Rattle.plain_types.proofs.initials.+initials.Goals as goal

pub initial-returns-then-levels-eq0 : goal.initial-returns-then-levels-eq0
initial-returns-then-levels-eq0 t c = initial-cut _ _ _ _ c.if-levels-eq0.true

pub initial-returns-in_err-first-in-Adjust : goal.initial-returns-in_err-first-in-Adjust
initial-returns-in_err-first-in-Adjust t c = rw c.from_residual.ensures (initial-stops _ _ _ _ c.head_at-head.ensures c.in-Adjust.is c.size.ensures (was_err _ c.ok.ensures.value c.in_err-first-in-Adjust.was).1)

pub initial-returns-in-Bool : goal.initial-returns-in-Bool
initial-returns-in-Bool t c = ⊎_elim (λ b. initial-bool _ _ _ _ c.head_at-head.ensures b.1 c.answer.ensures) (λ i. initial-int _ _ _ _ c.head_at-head.ensures i.1 c.answer.ensures) c.in-Bool.is

pub initial-returns-in-Construct : goal.initial-returns-in-Construct
initial-returns-in-Construct t c = initial-made _ _ _ _ c.head_at-head.ensures c.in-Construct.is c.fields-n.ensures c.initials.ensures

pub initial-returns-in_ok-first-in-Adjust : goal.initial-returns-in_ok-first-in-Adjust
initial-returns-in_ok-first-in-Adjust t c = initial-behind _ _ _ _ c.head_at-head.ensures c.in-Adjust.is c.size.ensures (was_ok _ c.ok.ensures.value c.in_ok-first-in-Adjust.was) c.initial.ensures

pub initial-returns-in_default : goal.initial-returns-in_default
initial-returns-in_default t c = initial-other _ _ _ _ c.head_at-head.ensures c.in_default.not-Bool c.in_default.not-Int c.in_default.not-Construct c.in_default.not-Adjust

pub initials-returns-then-n-eq0 : goal.initials-returns-then-n-eq0
initials-returns-then-n-eq0 t c = initials-none _ _ _ _ c.if-n-eq0.true c.answer.ensures

pub initials-returns-in_err-k : goal.initials-returns-in_err-k
initials-returns-in_err-k t c = rw c.from_residual.ensures (initials-wrong _ _ _ _ c.if-n-eq0.false c.initial.ensures c.in_err-k.was)

pub initials-returns : goal.initials-returns
initials-returns t c = initials-more _ _ _ _ c.if-n-eq0.false c.initial.ensures c.in_ok-k.was c.initials.ensures
