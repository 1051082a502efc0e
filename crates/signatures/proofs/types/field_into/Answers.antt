-- A field's word is the next one of the table.
use Rattle.std.proofs.Common.{sym, ap, ◌∙◌}
use Rattle.language.specs.HandedOn.{handed_on}
use Rattle.text.specs.Bytes.{step_of, field_word}
use Rattle.index.specs.EnterLaws.{word-refused, word-entered}
use Rattle.signatures.proofs.types.field_into.Goals as goal

pub returns-in_err-f : goal.returns-in_err-f
returns-in_err-f c = word-refused field_word _ c.field.ensures.0 c.in_err-f.was (handed_on c.from_residual.ensures ∙ sym (ap step_of c.in_err-f.was))

pub returns : goal.returns
returns c = word-entered field_word _ c.field.ensures.0 c.in_ok-f.was c.put.ensures
