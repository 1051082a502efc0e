-- A condition passed over: a relation and two sizes.
use Rattle.text.specs.Bytes.{step_of}
use Rattle.std.proofs.Common.{sym, ap, ◌∙◌}
use Rattle.language.specs.HandedOn.{handed_on}
use Rattle.signatures.specs.PassLaws.{condition-no-code, condition-first-stops, condition-whole}
use Rattle.signatures.proofs.functions.condition.Goals as goal

pub returns-in_err-f : goal.returns-in_err-f
returns-in_err-f c = condition-no-code _ _ _ c.code.ensures c.in_err-f.was (handed_on c.from_residual.ensures ∙ sym (ap step_of c.in_err-f.was))

pub returns-in_err-e : goal.returns-in_err-e
returns-in_err-e c = rw (handed_on c.from_residual-in_err-e.ensures ∙ sym c.in_err-e.was) (condition-first-stops _ _ _ c.code.ensures c.in_ok-f.was c.size.ensures c.in_err-e.was)

pub returns : goal.returns
returns c = condition-whole _ _ _ c.code.ensures c.in_ok-f.was c.size.ensures c.in_ok-e.was c.size-2.ensures
