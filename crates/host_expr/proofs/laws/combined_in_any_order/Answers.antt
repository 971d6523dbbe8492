use Rattle.host_expr.proofs.Reordered.{combined_in_any_order, several_in_any_order, overflowed_in_any_order}
use Rattle.host_expr.proofs.laws.combined_in_any_order.Goals as goal

pub returns-clause-value : goal.returns-clause-value
returns-clause-value c = combined_in_any_order

pub returns-clause-several : goal.returns-clause-several
returns-clause-several c = several_in_any_order

pub returns-clause-overflowed : goal.returns-clause-overflowed
returns-clause-overflowed c = overflowed_in_any_order
