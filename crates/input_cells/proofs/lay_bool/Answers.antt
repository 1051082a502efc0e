-- A Bool behind its code, return by return.
use Rattle.language.specs.Oks.{was_ok, was_err}
use Rattle.input_cells.specs.CellLaws.{bool-missing, bool-laid}
use Rattle.input_cells.proofs.lay_bool.Goals as goal

pub returns-in_err-f : goal.returns-in_err-f
returns-in_err-f c = rw c.from_residual.ensures (bool-missing _ _ c.code.ensures (was_err _ c.ok.ensures.value c.in_err-f.was).1)

pub returns : goal.returns
returns c = bool-laid _ _ c.code.ensures c.requires (was_ok _ c.ok.ensures.value c.in_ok-f.was) c.lay_leaf.ensures
