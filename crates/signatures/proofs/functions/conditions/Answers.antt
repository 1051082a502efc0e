-- Conditions passed over: at each turn, whatever passes over those left passes over them all.
use Rattle.text.specs.Bytes.{step_of}
use Rattle.std.proofs.Common.{sym, ap, ◌∙◌}
use Rattle.language.specs.HandedOn.{handed_on}
use mathlib.Core.Path.{refl}
use native.Mathlib.Omega.{arith}
use Rattle.language.specs.Limits.{conditions_most}
use Rattle.language.specs.Reader.{condition}
use Rattle.text.specs.StepLaws.{ends-within, number-moved}
use Rattle.index.specs.EnterLaws.{counted-passes}
use Rattle.signatures.specs.PassLaws.{passes-start, passes_on, passes-stop, passes-end, no-count}
use Rattle.signatures.proofs.functions.conditions.Goals as goal

pub returns-in_err-f : goal.returns-in_err-f
returns-in_err-f c = no-count 0 conditions_most (condition _) c.count.ensures c.in_err-f.was (handed_on c.from_residual.ensures ∙ sym (ap step_of c.in_err-f.was))

pub loop-init : goal.loop-init
loop-init c = (omega arith, passes-start (omega arith) (ends-within (number-moved c.count.ensures.0 c.in_ok-f.was)))

pub returns-in_err-next : goal.returns-in_err-next
returns-in_err-next c = rw (handed_on c.from_residual-in_err-next.ensures ∙ sym c.in_err-next.was) (counted-passes 0 conditions_most (condition _) c.count.ensures c.in_ok-f.was (passes-stop c.loop.invariant.1 c.condition.ensures (omega arith) c.in_err-next.was))

pub loop-preserved : goal.loop-preserved
loop-preserved c = (omega arith, passes_on c.loop.invariant.1 c.condition.ensures (omega arith) c.in_ok-next.was)

pub returns : goal.returns
returns c = counted-passes 0 conditions_most (condition _) c.count.ensures c.in_ok-f.was (passes-end c.loop.invariant.1 refl (omega (arith, c.loop.invariant.0)))
