use Rattle.std.proofs.Common.{◌≡◌, sym, ◌∙◌, ap, subst}
use Rattle.turn_cell.specs.Calls.{view}
use Rattle.reaction_run.specs.Reacting.{InputsFit}
use Rattle.reaction_run.specs.declared.event.Event.TheVariants.{React}
use Rattle.reaction_history.specs.Calls.{IsSeatOf}
use Rattle.reaction_history.proofs.Turned.{still, added, looked, wanting, asked, not_asked}
use Rattle.reaction_history.proofs.shared.Shared.react.Goals as goal

pub with_turn-requires-clause-asks : goal.with_turn-requires-clause-asks
with_turn-requires-clause-asks g c =
    λ b e. let o = c.requires.own.begins b e in (o.takes_from, subst (λ l. InputsFit l c.args.inputs.now) (sym o.signals) c.requires.fits)

pub returns-in-Ok-Ok-clause-added : goal.returns-in-Ok-Ok-clause-added
returns-in-Ok-Ok-clause-added g c = added g.M.Reactor.state g.M.Reactor.machine (view c.args.seat.now) (view c.with_turn.new.seat) (React c.args.inputs.now) c.in-Ok-Ok.reply c.in-Ok-Ok.field-0 c.in-Ok-Ok.field-0-is c.in-Ok-Ok.ensures.turn

pub returns-in-Ok-Err-clause-ended : goal.returns-in-Ok-Err-clause-ended
returns-in-Ok-Err-clause-ended g c = wanting g.M.Reactor.state g.M.Reactor.machine (view c.args.seat.now) (view c.with_turn.new.seat) (React c.args.inputs.now) c.in-Ok-Err.field-0-0 c.in-Ok-Err.field-0 c.in-Ok-Err.field-0-is c.in-Ok-Err.ensures.turn

pub returns-in-Ok-Ok-clause-own : goal.returns-in-Ok-Ok-clause-own
returns-in-Ok-Ok-clause-own g c = record { of = c.with_turn.ensures.own; begins = still _ _ _ _ c.requires.own.begins c.in-Ok-Ok.ensures.turn }

pub returns-in-Ok-Err-clause-own : goal.returns-in-Ok-Err-clause-own
returns-in-Ok-Err-clause-own g c = record { of = c.with_turn.ensures.own; begins = still _ _ _ _ c.requires.own.begins c.in-Ok-Err.ensures.turn }

pub returns-in-Err-clause-own : goal.returns-in-Err-clause-own
returns-in-Err-clause-own g c = subst (λ s. IsSeatOf c.args.self.now s) (sym c.in-Err.ensures.same) c.requires.own
