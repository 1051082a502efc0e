use Rattle.std.proofs.Common.{sym, ◌∙◌}
use Rattle.language.specs.HandedOn.{handed_on}
use Rattle.text.specs.CodeLaws.{place-in-none, place-in-full, place-in-found}
use Rattle.text.proofs.Cursor.code_in.Goals as goal

pub returns-in_err-f : goal.returns-in_err-f
returns-in_err-f c = rw (handed_on c.from_residual.ensures ∙ sym c.in_err-f.was) (place-in-none _ _ _ _ _ c.code.ensures c.in_err-f.was)

pub returns-then-not-room : goal.returns-then-not-room
returns-then-not-room c = place-in-full _ _ _ _ _ c.code.ensures c.in_ok-f.was c.if-not-room.true

pub returns : goal.returns
returns c = rw (sym c.in_ok-f.was) (place-in-found _ _ _ _ _ c.code.ensures c.in_ok-f.was c.if-not-room.false)
