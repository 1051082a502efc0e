use Rattle.state_words.specs.Words.{channel_at}
use Rattle.node_order.specs.Lowest.{Below}
use Rattle.node_order.specs.RowLaws.{Filled}
use Rattle.iteration.proofs.take_channels.Given as goal

abbrev pub invariant-loop-c : goal.invariant-loop-c
invariant-loop-c l = Below (Filled (channel_at l.state) l.channels) l.c
