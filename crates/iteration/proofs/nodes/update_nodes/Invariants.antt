use Rattle.iteration.specs.NodesLaws.{Updating}
use Rattle.iteration.proofs.nodes.update_nodes.Given as goal

abbrev pub invariant-loop : goal.invariant-loop
invariant-loop l = Updating l.text l.index l.ends l.readings l.used l.calls l.initial.channels l.initial.state l.initial.slots l.channels l.state l.slots l.top l.done l.counter
