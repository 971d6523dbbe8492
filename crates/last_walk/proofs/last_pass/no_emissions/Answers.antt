use Rattle.std.proofs.Common.{sym, subst, ◌+◌}
use Rattle.last_walk.specs.Whole.{NoEmissions}
use Rattle.last_walk.proofs.Beginning.{none_more}
use Rattle.last_walk.proofs.last_pass.no_emissions.Goals as goal

pub loop-signal-preserved : goal.loop-signal-preserved
loop-signal-preserved c = subst (NoEmissions (c.loop-signal.signal + 1)) (sym c.in_ok-push.ensures.items)
    (none_more c.loop-signal.signal c.loop-signal.none.items c.none.result c.loop-signal.invariant c.none.ensures)
