use Rattle.std.proofs.Common.{sym, ◌∙◌}
use Rattle.net_solution.specs.Places.{question_of, valuation_of}
use Rattle.net_solution.proofs.Rounding.{rounds_begin, rounds_go_on, less_open, rounds_end}
use Rattle.net_solution.proofs.rounds.settle_records.Goals as goal

pub rounds-init : goal.rounds-init
rounds-init c =
    record {
      exact = c.in_ok-place.ensures.exact;
      rounded = rounds_begin c.args.nets.now (question_of c.args.asked.now) (valuation_of c.in_ok-place.place)
          c.in_ok-place.ensures.given;
    }

pub rounds-smaller : goal.rounds-smaller
rounds-smaller c =
    less_open c.args.nets.now (question_of c.args.asked.now) (valuation_of c.rounds.place)
    (valuation_of c.round.new.place) c.rounds.invariant.rounded c.in_ok-round.ensures.given
    (sym c.in_ok-round.ensures.more ∙ c.if-branch.true)

pub rounds-preserved : goal.rounds-preserved
rounds-preserved c =
    record {
      exact = c.in_ok-round.ensures.exact;
      rounded = rounds_go_on c.args.nets.now (question_of c.args.asked.now) (valuation_of c.rounds.place)
          (valuation_of c.round.new.place) c.rounds.invariant.rounded c.in_ok-round.ensures.given;
    }

pub returns : goal.returns
returns c =
    rounds_end c.args.nets.now (question_of c.args.asked.now) (valuation_of c.rounds.place)
    (valuation_of c.round.new.place) c.rounds.invariant.rounded c.in_ok-round.ensures.given
    (sym c.in_ok-round.ensures.more ∙ c.if-branch.false)
