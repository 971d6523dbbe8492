use Rattle.kernel_expand.proofs.forms.Join.+last.Given as goal

abbrev pub decreases-last : goal.decreases-last
decreases-last l = l.count
