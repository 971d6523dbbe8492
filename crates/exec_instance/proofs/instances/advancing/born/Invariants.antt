use Rattle.exec_instance.proofs.Advancing.{Bearing}
use Rattle.exec_instance.proofs.instances.advancing.born.Given as goal

abbrev pub invariant-loop-change : goal.invariant-loop-change
invariant-loop-change l = Bearing l.last l.changes l.change-index l.id l.born.items
