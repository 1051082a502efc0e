use Rattle.state_check.specs.LoadLaws.{ChannelsFrom}
use Rattle.state_check.proofs.channels_fit.Given as goal

abbrev pub invariant-loop-c : goal.invariant-loop-c
invariant-loop-c l = ChannelsFrom l.index l.state l.channels l.used l.c
