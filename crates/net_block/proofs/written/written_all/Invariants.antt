use Rattle.std.proofs.Common.{◌≡◌, map, take}
use Rattle.net_block.specs.Written.{written}
use Rattle.net_block.proofs.written.written_all.Given as goal

abbrev pub invariant-loop-arg : goal.invariant-loop-arg
invariant-loop-arg l = l.copies.items ≡ map written (take l.arg-index l.args)
