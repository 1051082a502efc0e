use Rattle.std.proofs.Common.{sym, ◌∙◌}
use Rattle.language.specs.HandedOn.{handed_on}
use Rattle.text.specs.CodeLaws.{place-no-byte, place-before, place_after, place_found}
use Rattle.text.proofs.Cursor.code.Goals as goal

pub returns-in_err-f : goal.returns-in_err-f
returns-in_err-f c = rw (handed_on c.from_residual.ensures ∙ sym c.in_err-f.was) (place-no-byte _ _ _ _ c.byte.ensures c.in_err-f.was)

pub returns-then-b-first : goal.returns-then-b-first
returns-then-b-first c = place-before _ _ _ _ c.byte.ensures c.in_ok-f.was c.if-b-first.true

pub returns-then-size-i : goal.returns-then-size-i
returns-then-size-i c = place_after _ _ _ _ c.byte.ensures c.in_ok-f.was c.if-b-first.false c.if-size-i.true

pub returns : goal.returns
returns c = place_found _ _ _ _ c.byte.ensures c.in_ok-f.was c.if-b-first.false c.if-size-i.false
