use Rattle.std.proofs.Common.{◌<◌, ◌+◌, length, drop}
use Rattle.module_token.proofs.Quotes.{Read}
use Rattle.module_token.proofs.quoted.quoted.Given as goal

abbrev pub invariant-loop-others : goal.invariant-loop-others
invariant-loop-others l = record {
  read : Read (drop 1 l.text) l.rest l.len;
  small : l.len + length l.rest < length l.text;
}

abbrev pub decreases-loop-others : goal.decreases-loop-others
decreases-loop-others l = length l.rest
