-- A type and its constructor, byte by byte.
use Rattle.std.proofs.Common.{sym, ◌∙◌}
use Rattle.language.specs.HandedOn.{handed_on}
use Rattle.input_cells.specs.LayLaws.{tag-none, tag-half, tag-whole}
use Rattle.input_cells.proofs.tag_at.Goals as goal

pub returns-in_err-f : goal.returns-in_err-f
returns-in_err-f c = rw (handed_on c.from_residual.ensures ∙ sym c.in_err-f.was) (tag-none _ _ c.byte.ensures c.in_err-f.was)

pub returns-in_err-g : goal.returns-in_err-g
returns-in_err-g c = rw (handed_on c.from_residual-in_err-g.ensures ∙ sym c.in_err-g.was) (tag-half _ _ c.byte.ensures c.in_ok-f.was c.byte-2.ensures c.in_err-g.was)

pub returns : goal.returns
returns c = tag-whole _ _ c.byte.ensures c.in_ok-f.was c.byte-2.ensures c.in_ok-g.was c.constructor_tag.ensures
