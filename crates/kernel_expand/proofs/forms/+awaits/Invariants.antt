use Rattle.kernel_expand.proofs.forms.+awaits.Given as goal

abbrev pub decreases-awaits : goal.decreases-awaits
decreases-awaits l = l.times
