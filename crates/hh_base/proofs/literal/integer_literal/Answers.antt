use Rattle.std.proofs.Common.{rules}
use Rattle.hh_base.proofs.Integers.{integer-signed_decimal}
use Rattle.hh_base.proofs.literal.integer_literal.Goals as goal

pub returns-in_err-to_string-clause-literal : goal.returns-in_err-to_string-clause-literal
returns-in_err-to_string-clause-literal c = search (rules, integer-signed_decimal)

pub returns-clause-literal : goal.returns-clause-literal
returns-clause-literal c = search (rules, integer-signed_decimal)
