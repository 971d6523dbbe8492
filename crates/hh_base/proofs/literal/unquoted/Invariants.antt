use Rattle.std.proofs.Common.{◌≡◌, ◌++◌, true, length}
use Rattle.std.specs.List.{flat_map}
use Rattle.hh_base.specs.Text.{has_text_bytes}
use Rattle.hh_base.specs.Literal.{escaped}
use Rattle.hh_base.proofs.literal.unquoted.Given as goal

abbrev pub invariant-loop-byte : goal.invariant-loop-byte
invariant-loop-byte l = record {
  plain : has_text_bytes l.bytes.items ≡ true;
  split : l.text ≡ flat_map escaped l.bytes.items ++ l.rest;
}

abbrev pub decreases-loop-byte : goal.decreases-loop-byte
decreases-loop-byte l = length l.rest
