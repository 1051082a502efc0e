-- So many parameters: at each turn, whatever reads those left reads them all.
use Rattle.std.proofs.Common.{sym}
use Rattle.language.specs.HandedOn.{handed_on}
use mathlib.Core.Path.{refl, ◌∙◌}
use native.Mathlib.Omega.{arith}
use Rattle.index.specs.EnterLaws.{leads-on, leads-stop, leads-end}
use Rattle.signatures.proofs.functions.parameters_into.Goals as goal

pub returns-in_err-next : goal.returns-in_err-next
returns-in_err-next c = rw (handed_on c.from_residual.ensures ∙ sym c.in_err-next.was) (leads-stop 1 (λ f. refl) c.loop-i.invariant.1.1 c.parameter_into.ensures (omega arith) c.in_err-next.was)

pub loop-i-preserved : goal.loop-i-preserved
loop-i-preserved c = (omega arith, (c.parameter_into.auto.functions ∙ c.loop-i.invariant.1.0, leads-on 1 (λ f. refl) c.loop-i.invariant.1.1 c.parameter_into.ensures (omega arith) (omega arith) c.in_ok-next.was))

pub returns : goal.returns
returns c = leads-end 1 (λ f. refl) c.loop-i.invariant.1.1 refl (omega (arith, c.loop-i.invariant.0))
