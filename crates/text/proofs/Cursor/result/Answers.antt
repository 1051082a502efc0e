use Rattle.std.proofs.Common.{sym, ap, ◌∙◌}
use Rattle.language.specs.HandedOn.{handed_on}
use Rattle.text.specs.Bytes.{step_of}
use Rattle.text.specs.TypeLaws.{result-no-code, result-constant, result-no-type, result-sized}
use Rattle.text.proofs.Cursor.result.Goals as goal

pub returns-in_err-f : goal.returns-in_err-f
returns-in_err-f c = result-no-code _ _ _ _ c.code.ensures c.in_err-f.was (handed_on c.from_residual.ensures ∙ sym (ap step_of c.in_err-f.was))

pub returns-then-form-lt-TYPE_NAMED : goal.returns-then-form-lt-TYPE_NAMED
returns-then-form-lt-TYPE_NAMED c = result-constant _ _ _ _ c.code.ensures c.in_ok-f.was c.if-form-lt-TYPE_NAMED.true

pub returns-in_err-g : goal.returns-in_err-g
returns-in_err-g c = result-no-type _ _ _ _ c.code.ensures c.in_ok-f.was c.if-form-lt-TYPE_NAMED.false c.index.ensures c.in_err-g.was (handed_on c.from_residual-in_err-g.ensures ∙ sym (ap step_of c.in_err-g.was))

pub returns : goal.returns
returns c = result-sized _ _ _ _ c.code.ensures c.in_ok-f.was c.if-form-lt-TYPE_NAMED.false c.index.ensures c.in_ok-g.was c.size.ensures
