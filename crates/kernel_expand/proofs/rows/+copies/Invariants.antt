use Rattle.kernel_expand.proofs.rows.+copies.Given as goal

abbrev pub decreases-copies : goal.decreases-copies
decreases-copies l = l.times
