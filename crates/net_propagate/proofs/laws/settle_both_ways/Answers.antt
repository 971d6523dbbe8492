use Rattle.net_solution.specs.Places.{valuation_of}
use Rattle.net_solution.proofs.Least.{one_least}
use Rattle.net_propagate.proofs.laws.settle_both_ways.Goals as goal

pub returns-clause-same : goal.returns-clause-same
returns-clause-same c =
    one_least c.args.nets.now _ (valuation_of c.in_ok-rounds.rounds) (valuation_of c.settle.new.place.valuation)
    c.in_ok-rounds.ensures c.in_ok-settle.ensures.least
