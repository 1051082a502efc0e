-- An input: its declared type and its initial value, and the three words of its entry.
use Rattle.text.specs.Bytes.{step_of}
use Rattle.std.proofs.Common.{sym, ap, ◌∙◌}
use Rattle.language.specs.HandedOn.{handed_on}
use Rattle.reader.specs.Channels.{follows-as, input-no-type, input-no-value, input-read}
use Rattle.reader.proofs.frames.input_frame.Goals as goal

pub returns-in_err-f : goal.returns-in_err-f
returns-in_err-f c = input-no-type _ _ _ c.requires.at_value c.declared.ensures.0 c.in_err-f.was (handed_on c.from_residual.ensures ∙ sym (ap step_of c.in_err-f.was))

pub returns-in_err-next : goal.returns-in_err-next
returns-in_err-next c = rw (handed_on c.from_residual-in_err-next.ensures ∙ sym c.in_err-next.was) (input-no-value _ _ _ c.requires.at_value c.declared.ensures.0 c.in_ok-f.was (follows-as c.outside-s.ensures c.expr.ensures) c.in_err-next.was)

pub returns : goal.returns
returns c = rw (sym c.in_ok-next.was) (input-read _ _ _ c.requires.at_value c.declared.ensures.0 c.in_ok-f.was c.requires.fits c.place.ensures (follows-as c.outside-s.ensures c.expr.ensures) c.put_channel.ensures)
