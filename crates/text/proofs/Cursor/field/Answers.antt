use Rattle.std.proofs.Common.{sym, ◌∙◌}
use Rattle.language.specs.HandedOn.{handed_on}
use Rattle.text.specs.TypeLaws.{field-no-code, field-constant, field-other}
use Rattle.text.proofs.Cursor.field.Goals as goal

pub returns-in_err-f : goal.returns-in_err-f
returns-in_err-f c = rw (handed_on c.from_residual.ensures ∙ sym c.in_err-f.was) (field-no-code _ _ _ c.code.ensures c.in_err-f.was)

pub returns-then-form-lt-FIELD_OTHER : goal.returns-then-form-lt-FIELD_OTHER
returns-then-form-lt-FIELD_OTHER c = field-constant _ _ _ c.code.ensures c.in_ok-f.was c.if-form-lt-FIELD_OTHER.true

pub returns : goal.returns
returns c = field-other _ _ _ c.code.ensures c.in_ok-f.was c.if-form-lt-FIELD_OTHER.false c.named.ensures
