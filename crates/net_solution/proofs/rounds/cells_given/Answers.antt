use Rattle.std.proofs.Common.{sym, ◌∙◌, ◌∷◌, ◌++◌, [], get_or, arith}
use Rattle.hh_base.specs.declared.value.Tri.TheVariants as tri
use Rattle.net_solution.specs.Places.{question_of, seen_in}
use Rattle.net_solution.specs.Rounds.{cell_given}
use Rattle.net_solution.proofs.Rounding.{numbered_step}
use Rattle.net_solution.proofs.rounds.cells_given.Goals as goal

pub loop-number-preserved : goal.loop-number-preserved
loop-number-preserved c =
    let gives = cell_given c.args.nets.now (question_of c.args.asked.now)
    (λ g. get_or c.args.place.now.gates.items g tri.Unknown) (seen_in c.args.place.now)
    (λ g. get_or c.args.gates.now g tri.Unknown) in
    c.in_ok-push.ensures.items
    ∙ (λ i. c.loop-number.invariant i ++ c.in_ok-cell_given.ensures i ∷ [])
    ∙ sym (numbered_step gives c.as_slice-signals.result.now c.loop-number.number
    c.index-signals-number.result
    (omega (arith, c.loop-number-test.true)) c.index-signals-number.is)
