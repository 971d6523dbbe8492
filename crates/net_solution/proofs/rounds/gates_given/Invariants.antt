use Rattle.std.proofs.Common.{◌≡◌, map, take, get_or}
use Rattle.hh_base.specs.declared.value.Tri.TheVariants.{Unknown}
use Rattle.net_solution.specs.Equations.{gate_value}
use Rattle.net_solution.specs.Places.{question_of, seen_in}
use Rattle.net_solution.proofs.rounds.gates_given.Given as goal

abbrev pub invariant-loop-gate : goal.invariant-loop-gate
invariant-loop-gate l =
    l.gates.items
    ≡ map (gate_value l.nets (question_of l.asked) (λ g. get_or l.place.gates.items g Unknown)
    (seen_in l.place))
    (take l.gate-index l.nets.gates)
