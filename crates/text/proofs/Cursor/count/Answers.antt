use Rattle.std.proofs.Common.{sym, ◌∙◌}
use Rattle.language.specs.HandedOn.{handed_on}
use Rattle.text.specs.ReadLaws.{count-stops, count-few, count-many, count-in}
use Rattle.text.proofs.Cursor.count.Goals as goal

pub returns-in_err-f : goal.returns-in_err-f
returns-in_err-f c = rw (handed_on c.from_residual.ensures ∙ sym c.in_err-f.was) (count-stops _ _ _ _ c.byte.ensures c.in_err-f.was)

pub returns-then-n-least : goal.returns-then-n-least
returns-then-n-least c = count-few _ _ _ _ c.byte.ensures c.in_ok-f.was c.if-n-least.true

pub returns-then-most-n : goal.returns-then-most-n
returns-then-most-n c = count-many _ _ _ _ c.byte.ensures c.in_ok-f.was c.if-n-least.false c.if-most-n.true

pub returns : goal.returns
returns c = count-in _ _ _ _ c.byte.ensures c.in_ok-f.was c.if-n-least.false c.if-most-n.false
