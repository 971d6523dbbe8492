use Rattle.std.proofs.Common.{rules}
use Rattle.turn_cell.proofs.Turned.{may_work, may_leave, turn_rests, turn_done}
use Rattle.turn_cell.proofs.cell.TurnCell.take_turn.Goals as goal

pub work-out-requires : goal.work-out-requires
work-out-requires g c = record {
  own = search rules;
  holds = may_work _ _ (g.J.TurnJob.asks c.args.job) _ _ _ _ c.requires.rests c.requires.asks c.draw-ticket.ensures.me c.wait.ensures.me;
}

pub leave-requires-clause-may : goal.leave-requires-clause-may
leave-requires-clause-may g c =
    may_leave _ _ _ _ _ _ _ _ c.requires.rests c.draw-ticket.ensures.me c.wait.ensures.me c.work-out.ensures.view c.work-out.ensures.job

pub returns-clause-rests : goal.returns-clause-rests
returns-clause-rests g c =
    turn_rests _ _ _ _ _ _ _ _ _ c.requires.rests
    c.draw-ticket.ensures.me c.wait.ensures.me c.work-out.ensures.view c.work-out.ensures.job c.leave.ensures.me

pub returns-clause-turn : goal.returns-clause-turn
returns-clause-turn g c =
    turn_done _ _ _ _ _ _ _ _ _ c.requires.rests c.requires.left
    c.draw-ticket.ensures.me c.wait.ensures.me c.work-out.ensures.view c.work-out.ensures.job
    c.leave.ensures.me
