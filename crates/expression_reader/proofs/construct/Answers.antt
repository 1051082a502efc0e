-- `construct` meets its contract, return by return.
use Rattle.std.proofs.Common.{sym, ◌∙◌, refl}
use Rattle.language.specs.HandedOn.{handed_on}
use Rattle.expression_reader.specs.FormLaws.{opened-some, construct-none, construct-no, construct-some}
use Rattle.expression_reader.proofs.construct.Goals as goal

pub returns-in_err-f : goal.returns-in_err-f
returns-in_err-f c = rw (handed_on c.from_residual.ensures ∙ sym c.in_err-f.was) (construct-none _ _ _ _ c.index.ensures c.in_err-f.was)

pub returns-in_err-g : goal.returns-in_err-g
returns-in_err-g c = rw (handed_on c.from_residual-in_err-g.ensures ∙ sym c.in_err-g.was) (construct-no _ _ _ _ c.index.ensures c.in_ok-f.was c.constructors-count.ensures c.index-2.ensures c.in_err-g.was)

pub returns : goal.returns
returns c = construct-some _ _ _ _ c.index.ensures c.in_ok-f.was c.constructors-count.ensures c.index-2.ensures c.in_ok-g.was c.fields-parts.ensures refl (opened-some refl c.opened.ensures)
