-- From the right on, up to the first place that gives.
use mathlib.Core.Path.{sym, ◌∙◌}
use native.Mathlib.Omega.{arith}
use Rattle.splits.specs.MoveLaws.{looks-start, looks_on}
use Rattle.splits.proofs.pivot.Goals as goal

pub loop-j-init : goal.loop-j-init
loop-j-init c = looks-start _ _ _ c.requires.0 c.requires.1

pub loop-j-preserved : goal.loop-j-preserved
loop-j-preserved c = looks_on c.loop-j.invariant (omega (arith, c.loop-j-test.true)) (sym c.may_move.ensures ∙ c.if-may_move.false)
