use Rattle.std.proofs.Common.{◌≡◌, take}
use Rattle.std.specs.List.{flat_map}
use Rattle.net_solution.specs.Equations.{input_of}
use Rattle.net_solution.specs.Places.{question_of}
use Rattle.net_solution.specs.Tallied.{tallied}
use Rattle.net_solution.proofs.signal.meet_inputs.Given as goal

abbrev pub invariant-loop-given : goal.invariant-loop-given
invariant-loop-given l =
    l.tally ≡ tallied l.kind l.word (flat_map (input_of l.signal)
    (take l.given-index (question_of l.asked).given))
