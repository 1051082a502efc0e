-- The indices of a measure passed over: at each turn, whatever passes over those left passes over them all.
use Rattle.text.specs.Bytes.{step_of}
use Rattle.std.proofs.Common.{sym, ap, ◌∙◌}
use Rattle.language.specs.HandedOn.{handed_on}
use mathlib.Core.Path.{refl}
use native.Mathlib.Omega.{arith}
use Rattle.language.specs.Limits.{measures_most}
use Rattle.language.specs.Parser.{index}
use Rattle.text.specs.StepLaws.{ends-within, number-moved}
use Rattle.index.specs.EnterLaws.{counted-passes}
use Rattle.signatures.specs.PassLaws.{passes-start, number-passed-on, number-stops-passing, passes-end, no-count}
use Rattle.signatures.proofs.functions.measure.Goals as goal

pub returns-in_err-f : goal.returns-in_err-f
returns-in_err-f c = no-count 0 measures_most (index _) c.count.ensures c.in_err-f.was (handed_on c.from_residual.ensures ∙ sym (ap step_of c.in_err-f.was))

pub loop-init : goal.loop-init
loop-init c = (omega arith, passes-start (omega arith) (ends-within (number-moved c.count.ensures.0 c.in_ok-f.was)))

pub returns-in_err-g : goal.returns-in_err-g
returns-in_err-g c = counted-passes 0 measures_most (index _) c.count.ensures c.in_ok-f.was (number-stops-passing c.loop.invariant.1 c.index.ensures.0 (omega arith) c.in_err-g.was (handed_on c.from_residual-in_err-g.ensures ∙ sym (ap step_of c.in_err-g.was)))

pub loop-preserved : goal.loop-preserved
loop-preserved c = (omega arith, number-passed-on c.loop.invariant.1 c.index.ensures.0 (omega arith) c.in_ok-g.was)

pub returns : goal.returns
returns c = counted-passes 0 measures_most (index _) c.count.ensures c.in_ok-f.was (passes-end c.loop.invariant.1 refl (omega (arith, c.loop.invariant.0)))
