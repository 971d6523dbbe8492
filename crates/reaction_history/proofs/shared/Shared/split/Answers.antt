use Rattle.std.proofs.Common.{◌≡◌, sym, ◌∙◌, ap, subst}
use Rattle.turn_cell.specs.Calls.{view}
use Rattle.reaction_history.specs.Calls.{IsSeatOf}
use Rattle.reaction_history.proofs.Turned.{still, added, looked, wanting, asked, not_asked}
use Rattle.reaction_history.proofs.shared.Shared.split.Goals as goal

pub returns-in-Some-clause-own : goal.returns-in-Some-clause-own
returns-in-Some-clause-own g c =
    record { of = c.split.ensures.own; begins = λ b e. c.requires.own.begins b (sym (ap (λ v. v.start) c.in-Some.ensures.kept) ∙ e) }

pub returns-in-Some-clause-other : goal.returns-in-Some-clause-other
returns-in-Some-clause-other g c =
    record { of = c.in-Some.ensures.other; begins = λ b e. c.requires.own.begins b (sym (ap (λ v. v.start) c.in-Some.ensures.given) ∙ e) }

pub returns-in-None-clause-own : goal.returns-in-None-clause-own
returns-in-None-clause-own g c = subst (λ s. IsSeatOf c.args.self.now s) (sym c.in-None.ensures.same) c.requires.own
