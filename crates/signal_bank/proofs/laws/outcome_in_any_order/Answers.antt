use Rattle.signal_bank.proofs.Outcomes.{outcome_in_any_order}
use Rattle.signal_bank.proofs.laws.outcome_in_any_order.Goals as goal

pub returns : goal.returns
returns c = outcome_in_any_order
