use Rattle.std.proofs.Common.{◌≡◌, ◌+◌, length}
use Rattle.net_line.specs.Reading.{word_len}
use Rattle.net_line.proofs.unread.word_len.Given as goal

abbrev pub invariant-loop-byte : goal.invariant-loop-byte
invariant-loop-byte l = record {
  len : word_len l.text ≡ l.len + word_len l.rest;
  within : length l.text ≡ l.len + length l.rest;
}

abbrev pub decreases-loop-byte : goal.decreases-loop-byte
decreases-loop-byte l = length l.rest
