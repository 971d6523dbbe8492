use Rattle.net_propagate.specs.Settling.{IsUnderWay, left_in}
use Rattle.net_propagate.proofs.settle.settle_asked.Given as goal

abbrev pub invariant-sweeps : goal.invariant-sweeps
invariant-sweeps l = IsUnderWay l.task l.place

abbrev pub decreases-sweeps : goal.decreases-sweeps
decreases-sweeps l = left_in l.place
