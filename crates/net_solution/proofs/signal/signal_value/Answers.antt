use Rattle.std.proofs.Common.{get_or}
use Rattle.hh_base.specs.declared.value.Tri.TheVariants as tri
use Rattle.net_solution.specs.Equations.{emissions_of}
use Rattle.net_solution.specs.Places.{question_of, seen_in}
use Rattle.net_solution.proofs.signal.signal_value.Goals as goal

pub returns : goal.returns
returns c =
    c.in_ok-value.ensures
    (emissions_of c.args.nets.now (question_of c.args.asked.now)
    (λ g. get_or c.args.place.now.gates.items g tri.Unknown) (seen_in c.args.place.now)
    c.args.net_signal.now.decl.kind c.args.signal)
    c.in_ok-tally.ensures
