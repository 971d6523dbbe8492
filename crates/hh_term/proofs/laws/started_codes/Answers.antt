use Rattle.hh_term.proofs.StaticCodes.{started_codes_are_static}
use Rattle.hh_term.proofs.laws.started_codes.Goals as goal

pub returns : goal.returns
returns c = started_codes_are_static
