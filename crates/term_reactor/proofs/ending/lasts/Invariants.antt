use Rattle.std.proofs.Common.{◌≡◌, map, take}
use Rattle.hh_term.specs.Reaction.{last_of}
use Rattle.status_rounds.specs.Before.{lasts_of}
use Rattle.sync_step.specs.Told.{now_in}
use Rattle.term_reactor.proofs.ending.lasts.Given as goal

abbrev pub invariant-loop-signal : goal.invariant-loop-signal
invariant-loop-signal l = lasts_of l.cells.items ≡ map last_of (map now_in (take l.signal-index l.signals))
