use Rattle.std.proofs.Common.{◌≡◌, map, take}
use Rattle.hh_term.specs.Reaction.{first_last}
use Rattle.status_rounds.specs.Before.{lasts_of}
use Rattle.term_reactor.proofs.stand.first_before.Given as goal

abbrev pub invariant-loop-signal : goal.invariant-loop-signal
invariant-loop-signal l = lasts_of l.cells.items ≡ map first_last (take l.signal-index l.signals)
