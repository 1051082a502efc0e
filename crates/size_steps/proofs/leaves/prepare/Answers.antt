-- What is tested of a call before its body.
use Rattle.size_steps.specs.LeafLaws.{prepare-no-condition, prepare-no-fall, prepare-no-size, prepare-ready}
use Rattle.size_steps.proofs.leaves.prepare.Goals as goal

pub returns-then-not-conditions_hold : goal.returns-then-not-conditions_hold
returns-then-not-conditions_hold c = prepare-no-condition _ _ _ _ _ c.line_behind_types-called.ensures c.frame_line-line.ensures c.conditions_start.ensures c.conditions_hold.ensures c.if-not-conditions_hold.true

pub returns-then-not-falls : goal.returns-then-not-falls
returns-then-not-falls c = prepare-no-fall _ _ _ _ _ c.line_behind_types-called.ensures c.frame_line-line.ensures c.conditions_start.ensures c.conditions_hold.ensures c.if-not-conditions_hold.false c.measure_start.ensures c.summed_measure-w.ensures c.falls.ensures c.if-not-falls.true

pub returns-in_default : goal.returns-in_default
returns-in_default c = prepare-no-size _ _ _ _ _ c.line_behind_types-called.ensures c.frame_line-line.ensures c.conditions_start.ensures c.conditions_hold.ensures c.if-not-conditions_hold.false c.measure_start.ensures c.summed_measure-w.ensures c.falls.ensures c.if-not-falls.false c.result_start.ensures c.type_at.ensures c.in_default.is

pub returns : goal.returns
returns c = prepare-ready _ _ _ _ _ c.line_behind_types-called.ensures c.frame_line-line.ensures c.conditions_start.ensures c.conditions_hold.ensures c.if-not-conditions_hold.false c.measure_start.ensures c.summed_measure-w.ensures c.falls.ensures c.if-not-falls.false c.result_start.ensures c.type_at.ensures c.in-Some.is
