use Rattle.status_rounds.specs.NothingKnown.{AllNone}
use Rattle.status_rounds.proofs.opening.tallies.Given as goal

abbrev pub invariant-loop-signal : goal.invariant-loop-signal
invariant-loop-signal l = AllNone l.signal l.none.items
