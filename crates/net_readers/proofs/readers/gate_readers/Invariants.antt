use Rattle.std.proofs.Common.{length, take}
use Rattle.net_readers.specs.Readers.{readers_from, Lists}
use Rattle.net_readers.proofs.readers.gate_readers.Given as goal

abbrev pub invariant-loop-place : goal.invariant-loop-place
invariant-loop-place l =
    Lists l.lists.items (length l.nets.gates) (λ g. readers_from 0 g (take l.place l.gates))
