use Rattle.std.proofs.Common.{◌≡◌, map, take}
use Rattle.net_block.specs.Written.{written_body}
use Rattle.net_block.proofs.written.written_bodies.Given as goal

abbrev pub invariant-loop-body : goal.invariant-loop-body
invariant-loop-body l = l.copies.items ≡ map written_body (take l.body-index l.bodies)
