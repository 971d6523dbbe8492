use Rattle.std.proofs.Common.{◌≡◌, take}
use Rattle.reaction_run.specs.Reacting.{is_settled}
use Rattle.reaction_desk.specs.Unsettled.{open_ids}
use Rattle.reaction_desk.proofs.looking.unsettled_in.Given as goal

abbrev pub invariant-loop-index : goal.invariant-loop-index
invariant-loop-index g l =
    l.ids.items ≡ open_ids (is_settled (g.M.Reactor.state l.machine)) (take l.index (g.M.Reactor.state l.machine).running)
