-- A type: what stands behind the kind, the end of the frame, and then whether the type is free of itself.
use Rattle.std.proofs.Common.{sym, refl, ◌∙◌}
use Rattle.language.specs.HandedOn.{handed_on}
use Rattle.reader.specs.EndedLaws.{ended-stops, ended-behind}
use Rattle.reader.specs.FrameLaws.{type-stops, type-free, type-not-free}
use Rattle.reader.proofs.frames.type_frame.Goals as goal

pub returns-in_err-next : goal.returns-in_err-next
returns-in_err-next c = type-stops _ _ _ _ c.requires.at_value c.type_def.ensures refl (ended-stops _ _ c.in_err-next.was (handed_on c.from_residual.ensures)) (handed_on c.from_residual.ensures)

pub returns-in_err-n : goal.returns-in_err-n
returns-in_err-n c = rw (handed_on c.from_residual-in_err-n.ensures ∙ sym c.in_err-n.was) (type-stops _ _ _ _ c.requires.at_value c.type_def.ensures c.one_more.ensures (ended-behind _ _ c.in_ok-next.was c.ended.ensures) c.in_err-n.was)

pub returns-then-not-self_free : goal.returns-then-not-self_free
returns-then-not-self_free c = type-not-free _ _ _ _ c.requires.at_value c.type_def.ensures c.one_more.ensures (ended-behind _ _ c.in_ok-next.was c.ended.ensures) c.in_ok-n.was c.self_free.ensures c.if-not-self_free.true

pub returns : goal.returns
returns c = rw (sym c.in_ok-n.was) (type-free _ _ _ _ c.requires.at_value c.type_def.ensures c.one_more.ensures (ended-behind _ _ c.in_ok-next.was c.ended.ensures) c.in_ok-n.was c.self_free.ensures c.if-not-self_free.false)
