-- A node: its declared type, its initial value and its update, and the three words of its entry.
use Rattle.text.specs.Bytes.{step_of}
use Rattle.std.proofs.Common.{sym, ap, ◌∙◌}
use Rattle.language.specs.HandedOn.{handed_on}
use Rattle.reader.specs.Channels.{follows-as, node-no-type, node-no-initial, node-no-update, node-read}
use Rattle.reader.proofs.frames.node_frame.Goals as goal

pub returns-in_err-f : goal.returns-in_err-f
returns-in_err-f c = node-no-type _ _ _ c.requires.at_value c.declared.ensures.0 _ c.in_err-f.was (handed_on c.from_residual.ensures ∙ sym (ap step_of c.in_err-f.was))

pub returns-in_err-d : goal.returns-in_err-d
returns-in_err-d c = rw (handed_on c.from_residual-in_err-d.ensures ∙ sym c.in_err-d.was) (node-no-initial _ _ _ c.requires.at_value c.declared.ensures.0 _ c.in_ok-f.was (follows-as c.outside-s.ensures c.expr.ensures) c.in_err-d.was)

pub returns-in_err-next : goal.returns-in_err-next
returns-in_err-next c = rw (handed_on c.from_residual-in_err-next.ensures ∙ sym c.in_err-next.was) (node-no-update _ _ _ c.requires.at_value c.declared.ensures.0 _ c.in_ok-f.was (follows-as c.outside-s.ensures c.expr.ensures) c.in_ok-d.was (follows-as c.outside-u.ensures c.expr-2.ensures) c.in_err-next.was)

pub returns : goal.returns
returns c = rw (sym c.in_ok-next.was) (node-read _ _ _ c.requires.at_value c.declared.ensures.0 _ c.in_ok-f.was (follows-as c.outside-s.ensures c.expr.ensures) c.in_ok-d.was c.requires.fits c.place.ensures c.place-2.ensures (follows-as c.outside-u.ensures c.expr-2.ensures) c.put_channel.ensures)
