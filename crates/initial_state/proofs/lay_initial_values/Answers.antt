-- The initial values one after the other.
use Rattle.initial_state.specs.LayLaws.{laying-none, laying_refused, laying-more, laying-all}
use Rattle.initial_state.proofs.lay_initial_values.Goals as goal

pub loop-c-init : goal.loop-c-init
loop-c-init c = laying-none _ _ _ _ _ _ _ c.requires

pub returns-in_default : goal.returns-in_default
returns-in_default c = laying_refused _ _ _ _ _ _ _ c.loop-c.invariant c.loop-c-test.true c.initial_start-at.ensures c.channel_value.ensures c.in_default.is

pub loop-c-preserved : goal.loop-c-preserved
loop-c-preserved c = laying-more _ _ _ _ _ _ _ c.loop-c.invariant c.loop-c-test.true c.initial_start-at.ensures c.channel_value.ensures c.in-Ok.is c.put_channel_cell.ensures

pub returns : goal.returns
returns c = laying-all _ _ _ _ _ _ _ c.loop-c.invariant c.loop-c-test.false
