use Rattle.sizes.proofs.+work_out.Given as goal

abbrev pub decreases-work_out : goal.decreases-work_out
decreases-work_out l = l.levels
