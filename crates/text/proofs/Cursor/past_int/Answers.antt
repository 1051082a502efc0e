use Rattle.std.proofs.Common.{sym, ap, ◌∙◌, arith}
use Rattle.language.specs.HandedOn.{handed_on}
use Rattle.text.specs.Bytes.{step_of}
use Rattle.text.specs.IntLaws.{past-int-whole, past-int-read}
use Rattle.text.proofs.Cursor.past_int.Goals as goal

pub overflow_add-result : goal.overflow_add-result
overflow_add-result c = omega (arith, (c.unspaced_int.ensures c.if-unspaced_int.true).fourth.there)

pub returns-then-unspaced_int : goal.returns-then-unspaced_int
returns-then-unspaced_int c = past-int-whole _ _ (c.unspaced_int.ensures c.if-unspaced_int.true)

pub returns-in_err-f : goal.returns-in_err-f
returns-in_err-f c = past-int-read _ _ c.int.ensures (handed_on c.from_residual.ensures ∙ sym (ap step_of c.in_err-f.was))

pub returns : goal.returns
returns c = past-int-read _ _ c.int.ensures (sym (ap step_of c.in_ok-f.was))
