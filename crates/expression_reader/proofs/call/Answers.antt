-- `call` meets its contract, return by return.
use Rattle.std.proofs.Common.{sym, ◌∙◌, refl}
use Rattle.language.specs.HandedOn.{handed_on}
use Rattle.expression_reader.specs.FormLaws.{opened-some, call_none, call-some}
use Rattle.expression_reader.proofs.call.Goals as goal

pub returns-in_err-f : goal.returns-in_err-f
returns-in_err-f c = rw (handed_on c.from_residual.ensures ∙ sym c.in_err-f.was) (call_none _ _ _ _ c.index.ensures c.in_err-f.was)

pub returns : goal.returns
returns c = call-some _ _ _ _ c.index.ensures c.in_ok-f.was c.arity-parts.ensures refl (opened-some refl c.opened.ensures)
