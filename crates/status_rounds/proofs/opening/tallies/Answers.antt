use Rattle.std.proofs.Common.{sym, subst, ◌+◌}
use Rattle.status_rounds.specs.NothingKnown.{AllNone}
use Rattle.status_rounds.proofs.Beginning.{all_none_more}
use Rattle.status_rounds.proofs.opening.tallies.Goals as goal

pub loop-signal-preserved : goal.loop-signal-preserved
loop-signal-preserved c = subst (AllNone (c.loop-signal.signal + 1)) (sym c.in_ok-push.ensures.items)
    (all_none_more c.loop-signal.signal c.loop-signal.none.items c.new.result c.loop-signal.invariant
    c.new.ensures)
