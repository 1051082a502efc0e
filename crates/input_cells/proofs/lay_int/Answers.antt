-- An Int behind its code, return by return.
use Rattle.language.specs.Oks.{was_ok, was_err}
use Rattle.input_cells.specs.CellLaws.{int-missing, int-laid}
use Rattle.input_cells.proofs.lay_int.Goals as goal

pub returns-in_err-f : goal.returns-in_err-f
returns-in_err-f c = rw c.from_residual.ensures (int-missing _ _ c.int.ensures (was_err _ c.ok.ensures.value c.in_err-f.was).1)

pub returns : goal.returns
returns c = int-laid _ _ c.int.ensures c.requires (was_ok _ c.ok.ensures.value c.in_ok-f.was) c.lay_leaf.ensures
