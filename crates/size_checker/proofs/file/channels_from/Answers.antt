-- Channel after channel: what was summed so far, and the expressions that are left decide the whole.
use Rattle.std.proofs.Common.{◌∙◌}
use Rattle.language.specs.HandedOn.{handed_on}
use native.Mathlib.Omega.{arith}
use mathlib.Core.Path.{refl, ◌∙◌}
use Rattle.size_laws.specs.ChannelsLaws.{along-start, along-on, along-no, along-end}
use Rattle.size_checker.proofs.file.channels_from.Goals as goal

pub overflow_add-last : goal.overflow_add-last
overflow_add-last c = omega (arith, c.requires.inputs, c.requires.nodes)

pub loop-c-init : goal.loop-c-init
loop-c-init c = (along-start c.none-all.ensures, refl)

pub channel-requires : goal.channel-requires
channel-requires c = (c.requires, omega (arith, c.requires.inputs, c.requires.nodes, c.loop-c-test.true))

pub returns-in_err-a-clause-sized : goal.returns-in_err-a-clause-sized
returns-in_err-a-clause-sized c = along-no c.loop-c.invariant.0 c.loop-c-test.true c.channel.ensures.sized c.in_err-a.was (handed_on c.from_residual.ensures)

pub loop-c-preserved : goal.loop-c-preserved
loop-c-preserved c = (along-on c.loop-c.invariant.0 c.loop-c-test.true c.channel.ensures.sized c.in_ok-a.was c.joined-all.ensures, c.channel.ensures.same_list ∙ c.loop-c.invariant.1)

pub returns-clause-sized : goal.returns-clause-sized
returns-clause-sized c = along-end c.loop-c.invariant.0 (omega (arith, c.loop-c-test.false))
