use Rattle.sizes.proofs.+measures.Given as goal

abbrev pub decreases-measures : goal.decreases-measures
decreases-measures l = l.n
