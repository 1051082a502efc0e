use Rattle.std.proofs.Common.{sym, ◌∙◌}
use Rattle.language.specs.HandedOn.{handed_on}
use Rattle.text.specs.TypeLaws.{declared-no-code, declared-constant, declared-named}
use Rattle.text.proofs.Cursor.declared.Goals as goal

pub returns-in_err-f : goal.returns-in_err-f
returns-in_err-f c = rw (handed_on c.from_residual.ensures ∙ sym c.in_err-f.was) (declared-no-code _ _ _ c.code.ensures c.in_err-f.was)

pub returns-then-form-lt-TYPE_NAMED : goal.returns-then-form-lt-TYPE_NAMED
returns-then-form-lt-TYPE_NAMED c = declared-constant _ _ _ c.code.ensures c.in_ok-f.was c.if-form-lt-TYPE_NAMED.true

pub returns : goal.returns
returns c = declared-named _ _ _ c.code.ensures c.in_ok-f.was c.if-form-lt-TYPE_NAMED.false c.named.ensures
