-- The values of the line before its LF.
use mathlib.Core.Path.{refl}
use borrow.Author.Rules.{rules}
use Rattle.input_cells.specs.InputsLaidLaws.{inputs-none, inputs-laid}
use Rattle.input_cells.proofs.put_inputs.Goals as goal

pub returns-then-size-eq0 : goal.returns-then-size-eq0
returns-then-size-eq0 c = inputs-none c.requires.used_le_cells c.if-size-eq0.true

pub returns : goal.returns
returns c = inputs-laid refl (search rules) c.lay_inputs.ensures
