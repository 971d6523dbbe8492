use Rattle.std.proofs.Common.{subst}
use Rattle.net_propagate.specs.Settling.{nets_in, question_in}
use Rattle.net_propagate.specs.Settling.{SweptAll}
use Rattle.net_propagate.proofs.Stepping.{still_least}
use Rattle.net_propagate.proofs.settle.go_on.Goals as goal

pub returns-clause-least : goal.returns-clause-least
returns-clause-least c = λ e.
    still_least (nets_in c.args.task.now) (question_in c.args.task.now) c.see_all.new.place c.sweep.new.place
    c.in_ok-see_all.ensures.way.rising c.in_ok-see_all.ensures.exact
    (subst (SweptAll (nets_in c.args.task.now) (question_in c.args.task.now) c.see_all.new.place c.sweep.new.place)
    c.if-branch.false c.in_ok-sweep.ensures.swept)
