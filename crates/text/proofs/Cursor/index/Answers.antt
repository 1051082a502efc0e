use Rattle.std.proofs.Common.{sym, ◌∙◌}
use Rattle.language.specs.HandedOn.{handed_on}
use native.Mathlib.Omega.{arith}
use Rattle.text.specs.ReadLaws.{index-stops, index-out, index_in}
use Rattle.text.proofs.Cursor.index.Goals as goal

pub returns-in_err-f : goal.returns-in_err-f
returns-in_err-f c = rw (handed_on c.from_residual.ensures ∙ sym c.in_err-f.was) (index-stops _ _ _ c.byte.ensures c.in_err-f.was)

pub returns-then-bound-i : goal.returns-then-bound-i
returns-then-bound-i c = index-out _ _ _ c.byte.ensures c.in_ok-f.was (omega (arith, c.if-bound-i.true))

pub returns : goal.returns
returns c = index_in _ _ _ c.byte.ensures c.in_ok-f.was c.if-bound-i.false
