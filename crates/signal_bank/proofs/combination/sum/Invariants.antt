use Rattle.std.proofs.Common.{◌≡◌, ◌+◌, ◌*◌, ◌-◌, ◌^◌, drop, pos, ◌+ℤ◌, ◌≤ℤ◌, neg_ℤ}
use Rattle.host_expr.specs.Combination.{numbers_in, whole_sum}
use Rattle.signal_bank.proofs.combination.sum.Given as goal

abbrev pub invariant-loop-value : goal.invariant-loop-value
invariant-loop-value l = record {
  whole : l.sum +ℤ whole_sum (numbers_in (drop l.value-index l.rest))
      ≡ l.first +ℤ whole_sum (numbers_in l.rest);
  low : neg_ℤ (pos (2 ^ 63 * (l.value-index + 1))) ≤ℤ l.sum;
  high : l.sum ≤ℤ pos ((2 ^ 63 - 1) * (l.value-index + 1));
}
