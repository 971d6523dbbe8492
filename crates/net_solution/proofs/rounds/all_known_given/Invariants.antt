use Rattle.std.proofs.Common.{◌≡◌, map, take, get_or}
use Rattle.hh_base.specs.declared.value.Tri.TheVariants.{Unknown}
use Rattle.net_solution.specs.Rounds.{known_given}
use Rattle.net_solution.proofs.rounds.all_known_given.Given as goal

abbrev pub invariant-loop-signal : goal.invariant-loop-signal
invariant-loop-signal l =
    l.known.items ≡ map (known_given (λ g. get_or l.gates g Unknown)) (take l.signal-index l.nets.signals)
