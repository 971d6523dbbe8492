use Rattle.std.proofs.Common.{◌≡◌, sym, ◌∙◌, ap, subst}
use Rattle.turn_cell.specs.Calls.{view}
use Rattle.reaction_history.specs.Calls.{IsSeatOf}
use Rattle.reaction_history.proofs.Turned.{still, added, looked, wanting, asked, not_asked}
use Rattle.reaction_history.proofs.shared.Shared.join.Goals as goal

pub returns-clause-own : goal.returns-clause-own
returns-clause-own g c =
    record { of = c.join.ensures.own; begins = λ b e. c.requires.own.begins b (sym (ap (λ v. v.start) c.join.ensures.joined) ∙ e) }
