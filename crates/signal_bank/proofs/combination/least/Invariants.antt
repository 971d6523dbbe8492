use Rattle.std.proofs.Common.{◌≡◌, drop}
use Rattle.host_expr.specs.Combination.{numbers_in, least_of}
use Rattle.signal_bank.proofs.combination.least.Given as goal

abbrev pub invariant-loop-value : goal.invariant-loop-value
invariant-loop-value l =
    least_of l.least (numbers_in (drop l.value-index l.rest)) ≡ least_of l.first (numbers_in l.rest)
