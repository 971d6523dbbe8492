use Rattle.std.proofs.Common.{◌≡◌, ◌+◌, length, false}
use Rattle.net_line.specs.Reading.{quoted_len}
use Rattle.net_line.proofs.unread.quoted_len.Given as goal

abbrev pub invariant-loop-byte : goal.invariant-loop-byte
invariant-loop-byte l = record {
  len : quoted_len false l.text ≡ l.len + quoted_len l.escaped l.rest;
  within : length l.text ≡ l.len + length l.rest;
}

abbrev pub decreases-loop-byte : goal.decreases-loop-byte
decreases-loop-byte l = length l.rest
