use Rattle.std.proofs.Common.{◌≡◌, drop}
use Rattle.host_expr.specs.Combination.{numbers_in, greatest_of}
use Rattle.signal_bank.proofs.combination.greatest.Given as goal

abbrev pub invariant-loop-value : goal.invariant-loop-value
invariant-loop-value l =
    greatest_of l.greatest (numbers_in (drop l.value-index l.rest))
    ≡ greatest_of l.first (numbers_in l.rest)
