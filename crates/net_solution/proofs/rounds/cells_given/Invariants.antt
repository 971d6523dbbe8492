use Rattle.std.proofs.Common.{◌≡◌, take, get_or}
use Rattle.hh_base.specs.declared.value.Tri.TheVariants.{Unknown}
use Rattle.net_solution.specs.Places.{question_of, seen_in}
use Rattle.net_solution.specs.Rounds.{cell_given}
use Rattle.net_solution.specs.Solution.{numbered}
use Rattle.net_solution.proofs.rounds.cells_given.Given as goal

abbrev pub invariant-loop-number : goal.invariant-loop-number
invariant-loop-number l =
    l.cells.items
    ≡ numbered
    (cell_given l.nets (question_of l.asked) (λ g. get_or l.place.gates.items g Unknown) (seen_in l.place)
    (λ g. get_or l.gates g Unknown))
    0 (take l.number l.signals)
