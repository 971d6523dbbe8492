use Rattle.std.proofs.Common.{◌≡◌, ◌++◌, take}
use Rattle.std.specs.List.{flat_map}
use Rattle.net_solution.specs.Equations.{input_of}
use Rattle.net_solution.specs.Tallied.{tallied}
use Rattle.net_propagate.specs.Settling.{nets_in, question_in, emission_at}
use Rattle.net_propagate.proofs.value.meet_listed.Given as goal

abbrev pub invariant-emissions : goal.invariant-emissions
invariant-emissions l =
    l.tally ≡ tallied l.net_signal.decl.kind l.net_signal.decl.combine
    (flat_map (input_of l.signal) (question_in l.task).given
    ++ flat_map (emission_at (nets_in l.task) (question_in l.task) l.place l.net_signal.decl.kind l.signal)
    (take l.number-index l.emissions))
