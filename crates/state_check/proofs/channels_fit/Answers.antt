-- A channel at each turn, until one does not fit.
use native.Mathlib.Omega.{arith}
use Rattle.state_check.specs.LoadLaws.{channels-on, channels-not, channels-end}
use Rattle.state_check.proofs.channels_fit.Goals as goal

pub returns-then-not-location_fits : goal.returns-then-not-location_fits
returns-then-not-location_fits c = channels-not c.loop-c.invariant c.loop-c-test.true c.channel_cell.ensures c.declared_word.ensures c.location_fits.ensures c.if-not-location_fits.true

pub loop-c-preserved : goal.loop-c-preserved
loop-c-preserved c = channels-on c.loop-c.invariant c.loop-c-test.true c.channel_cell.ensures c.declared_word.ensures c.location_fits.ensures c.if-not-location_fits.false

pub returns : goal.returns
returns c = channels-end (omega arith) c.loop-c-test.false c.loop-c.invariant
