use Rattle.std.proofs.Common.{◌≡◌, ◌++◌, take, get_or}
use Rattle.std.specs.List.{flat_map}
use Rattle.hh_base.specs.declared.value.Tri.TheVariants.{Unknown}
use Rattle.net_solution.specs.Equations.{emission_of, input_of}
use Rattle.net_solution.specs.Places.{question_of, seen_in}
use Rattle.net_solution.specs.Tallied.{tallied}
use Rattle.net_solution.proofs.signal.meet_all.Given as goal

abbrev pub invariant-loop-emit : goal.invariant-loop-emit
invariant-loop-emit l =
    l.tally ≡ tallied l.net_signal.decl.kind l.net_signal.decl.combine
    (flat_map (input_of l.signal) (question_of l.asked).given
    ++ flat_map
    (emission_of (question_of l.asked) (λ g. get_or l.place.gates.items g Unknown) (seen_in l.place)
    l.net_signal.decl.kind l.signal)
    (take l.emit-index l.nets.emits))
