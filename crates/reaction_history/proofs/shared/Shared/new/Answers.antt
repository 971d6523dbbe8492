use Rattle.std.proofs.Common.{◌≡◌, ap}
use Rattle.reaction_desk.specs.Desks.{opening_of}
use Rattle.reaction_history.proofs.shared.Shared.new.Goals as goal

pub returns-clause-first : goal.returns-clause-first
returns-clause-first g c = (opening_of c.in_ok-desk.desk, ap (λ b. b.machine) c.in_ok-desk.ensures.opening, c.in_ok-cell.ensures.view)
