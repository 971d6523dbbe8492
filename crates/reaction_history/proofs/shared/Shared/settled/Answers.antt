use Rattle.std.proofs.Common.{◌≡◌, sym, ◌∙◌, ap, subst}
use Rattle.turn_cell.specs.Calls.{view}
use Rattle.reaction_run.specs.Reacting.{is_settled}
use Rattle.reaction_history.specs.Calls.{IsSeatOf}
use Rattle.reaction_history.proofs.Turned.{still, added, looked, wanting, asked, not_asked}
use Rattle.reaction_history.proofs.shared.Shared.settled.Goals as goal

pub returns-in-Ok-clause-told : goal.returns-in-Ok-clause-told
returns-in-Ok-clause-told g c = looked g.M.Reactor.state g.M.Reactor.machine (view c.args.seat.now) (view c.with_turn.new.seat) (λ s. c.in-Ok.settled ≡ is_settled s c.args.id) c.in-Ok.ensures.turn

pub returns-in-Ok-clause-own : goal.returns-in-Ok-clause-own
returns-in-Ok-clause-own g c = record { of = c.with_turn.ensures.own; begins = still _ _ _ _ c.requires.own.begins c.in-Ok.ensures.turn }

pub returns-in-Err-clause-own : goal.returns-in-Err-clause-own
returns-in-Err-clause-own g c = subst (λ s. IsSeatOf c.args.self.now s) (sym c.in-Err.ensures.same) c.requires.own
