use Rattle.std.proofs.Common.{◌≡◌}
use Rattle.reaction_run.proofs.Runs.{Ran}
use Rattle.reaction_run.proofs.reactor.run.Given as goal

abbrev pub invariant-loop-event : goal.invariant-loop-event
invariant-loop-event g l =
    Ran g.R.Reactor.machine (g.R.Reactor.state l.fn.machine) l.fn.events l.event-index (g.R.Reactor.state l.machine) l.replies.items
    × (g.R.Reactor.signals l.machine ≡ g.R.Reactor.signals l.fn.machine)
    × (l.events ≡ l.fn.events)
